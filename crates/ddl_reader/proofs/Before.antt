-- The tokens that have been read, when the machine is in a state.
use Rattle.std.proofs.Common.{List, [], ◌∷◌, Option, Some, None}
use Rattle.std.specs.Prelude.{codes}
use Rattle.ddl_base.specs.declared.span.Span.{Span}
use Rattle.ddl_token.specs.declared.token.Tok.{Tok}
use Rattle.ddl_token.specs.declared.token.Tok.TheVariants as k
use Rattle.ddl_token.specs.declared.word.Word.TheVariants as w
use Rattle.ddl_token.specs.declared.mark.Mark.{Mark}
use Rattle.ddl_token.specs.declared.mark.Mark.TheVariants as m
use Rattle.ddl_tree.specs.declared.name.Name.{Name}
use Rattle.ddl_tree.specs.ExprTree as ex
use Rattle.ddl_tree.specs.ExprTree.{expr_span}
use Rattle.ddl_tree.specs.ModuleTree as mo
use Rattle.ddl_tree.specs.ModuleTree.{bits_span}
use Rattle.ddl_tree.specs.Print.{infix_token, prefix_token, cast_token, many_token, optional_token, choice_token, byte_token, print_type, print_typed}
use Rattle.ddl_tree.specs.Print.{print_class, print_pattern, print_names, print, print_item, print_bound}
use Rattle.ddl_tree.specs.PrintModule.{print_params, print_part, print_parts, print_con, print_cons, print_decls, print_imports}
use Rattle.ddl_reader.specs.Frames.{Frame, Focus, State, Found, FoundType, FoundClass, Head, Sort, Layout, Parted, PartStart, Repeat, Start, Loop, Cases}
use Rattle.ddl_reader.specs.Frames as frame

-- ---- lists, with a mark after each element

abbrev pub each_arg : List ex.Expr → List Tok → List Tok
each_arg [] r = r
each_arg (a ∷ xs) r = print a (each_arg xs r)

abbrev pub each_expr : List ex.Expr → Mark → List Tok → List Tok
each_expr [] c r = r
each_expr (a ∷ xs) c r = print a (k.Mark c ∷ each_expr xs c r)

abbrev pub each_binding : List ex.Binding → Mark → List Tok → List Tok
each_binding [] c r = r
each_binding (b ∷ bs) c r = k.Lower b.name.text ∷ k.Mark m.Equals ∷ print b.value (k.Mark c ∷ each_binding bs c r)

abbrev pub each_item : List ex.Item → List Tok → List Tok
each_item [] r = r
each_item (i ∷ is) r = print_item i (k.Mark m.Semicolon ∷ each_item is r)

abbrev pub each_alt : List ex.Alt → List Tok → List Tok
each_alt [] r = r
each_alt (a ∷ xs) r = print_pattern a.pattern (k.Mark m.Arrow ∷ print a.body (k.Mark m.Semicolon ∷ each_alt xs r))

abbrev pub each_part : List mo.Part → List Tok → List Tok
each_part [] r = r
each_part (a ∷ ps) r = print_part a (k.Mark m.Comma ∷ each_part ps r)

abbrev pub each_con : List mo.Con → List Tok → List Tok
each_con [] r = r
each_con (c ∷ cs) r = print_con c (k.Mark m.Semicolon ∷ each_con cs r)

-- ---- parts of frames

abbrev pub start_tokens : Start → List Tok → List Tok
start_tokens frame.plainly r = r
start_tokens (frame.result_from s) r = k.Mark m.DollarDollar ∷ k.Mark m.Equals ∷ r
start_tokens (frame.let_from s x) r = k.Word w.Let ∷ k.Lower x.text ∷ k.Mark m.Equals ∷ r
start_tokens (frame.field x) r = k.Lower x.text ∷ k.Mark m.Equals ∷ r

abbrev pub sorted_name : Sort → Name → Tok
sorted_name frame.of_grammar x = k.Upper x.text
sorted_name frame.of_value x = k.Lower x.text

abbrev pub head_tokens : Head → List Tok → List Tok
head_tokens h r = k.Word w.Def ∷ sorted_name h.sort h.name ∷ print_params h.params r

abbrev pub layout_tokens : Layout → List Tok → List Tok
layout_tokens (frame.of_decl s x) r = k.Word w.Bitdata ∷ k.Upper x.text ∷ k.Mark m.Equals ∷ r
layout_tokens (frame.of_con s x cs y n) r = k.Word w.Bitdata ∷ k.Upper x.text ∷ k.Word w.Where ∷ k.Mark m.OpenBrace
    ∷ each_con cs (k.Lower y.text ∷ k.Mark m.Equals ∷ r)

abbrev pub part_start_tokens : PartStart → List Tok → List Tok
part_start_tokens (frame.named x) r = k.Lower x.text ∷ k.Mark m.Colon ∷ r
part_start_tokens (frame.unnamed s) r = k.Mark m.Underscore ∷ k.Mark m.Colon ∷ r

abbrev pub loop_tokens : Loop → List Tok → List Tok
loop_tokens (frame.for_from s x i) r = k.Word w.For ∷ k.Mark m.OpenParen ∷ k.Lower x.text ∷ k.Mark m.Equals ∷ print i.expr (k.Mark m.Semicolon ∷ r)
loop_tokens (frame.map_from s) r = k.Word w.Map ∷ k.Mark m.OpenParen ∷ r

abbrev pub case_tokens : Span → Found → List ex.Alt → List Tok → List Tok
case_tokens s e xs r = k.Word w.Case ∷ print e.expr (k.Word w.Of ∷ k.Mark m.OpenBrace ∷ each_alt xs r)

-- a beginning, up to the mark that ends it
abbrev pub start_begun : Start → List Tok → List Tok
start_begun frame.plainly r = r
start_begun (frame.result_from s) r = k.Mark m.DollarDollar ∷ r
start_begun (frame.let_from s x) r = k.Word w.Let ∷ k.Lower x.text ∷ r
start_begun (frame.field x) r = k.Lower x.text ∷ r

abbrev pub part_start_begun : PartStart → List Tok → List Tok
part_start_begun (frame.named x) r = k.Lower x.text ∷ r
part_start_begun (frame.unnamed s) r = k.Mark m.Underscore ∷ r

abbrev pub print_second_name : Option Name → List Tok → List Tok
print_second_name None r = r
print_second_name (Some x) r = k.Mark m.Comma ∷ k.Lower x.text ∷ r

-- ---- frames

-- what stands before the hole of a form
abbrev pub before : Frame → List Tok → List Tok
before (frame.in_module a n) r = print_imports a.imports (print_decls a.decls r)
before (frame.in_maybe s) r = k.Lower (codes "maybe") ∷ r
before (frame.in_bracket s) r = k.Mark m.OpenBracket ∷ r
before (frame.in_map_value s t) r = k.Mark m.OpenBracket ∷ print_type t.type (k.Mark m.Arrow ∷ r)
before (frame.in_within s) r = k.Mark m.OpenParen ∷ r
before (frame.in_union a) r = print_class a.class (k.Mark m.Bar ∷ r)
before (frame.in_other s) r = k.Mark m.Bang ∷ r
before (frame.in_grouped s) r = k.Mark m.OpenParen ∷ r
before (frame.in_class_set s) r = k.Mark m.DollarBracket ∷ r
before (frame.in_set s) r = k.Mark m.DollarBracket ∷ r
before (frame.in_infix o a) r = print a.expr (infix_token o ∷ r)
before (frame.in_pure s) r = k.Mark m.Caret ∷ r
before (frame.in_if s) r = k.Word w.If ∷ r
before (frame.in_then s c) r = k.Word w.If ∷ print c.expr (k.Word w.Then ∷ r)
before (frame.in_else s c a) r = k.Word w.If ∷ print c.expr (k.Word w.Then ∷ print a.expr (k.Word w.Else ∷ r))
before (frame.in_for_start s x) r = k.Word w.For ∷ k.Mark m.OpenParen ∷ k.Lower x.text ∷ k.Mark m.Equals ∷ r
before (frame.in_for_list s x i ns) r = loop_tokens (frame.for_from s x i) (print_names ns r)
before (frame.in_for_body s x i ns l) r = loop_tokens (frame.for_from s x i) (print_names ns (print l.expr (k.Mark m.CloseParen ∷ r)))
before (frame.in_map_list s ns) r = loop_tokens (frame.map_from s) (print_names ns r)
before (frame.in_map_body s ns l) r = loop_tokens (frame.map_from s) (print_names ns (print l.expr (k.Mark m.CloseParen ∷ r)))
before (frame.in_prefix o s) r = prefix_token o ∷ r
before (frame.in_cast o a) r = print a.expr (cast_token o ∷ r)
before (frame.in_call_grammar x xs n) r = k.Upper x.text ∷ each_arg xs r
before (frame.in_call_value x xs n) r = k.Lower x.text ∷ each_arg xs r
before (frame.in_just s) r = k.Word w.Just ∷ r
before (frame.in_many o b n) r = many_token o.bias ∷ print_bound b r
before (frame.in_at_most o s) r = many_token o.bias ∷ k.Mark m.OpenParen ∷ k.Mark m.DotDot ∷ r
before (frame.in_between o s a) r = many_token o.bias ∷ k.Mark m.OpenParen ∷ print a.expr (k.Mark m.DotDot ∷ r)
before (frame.in_optional o) r = optional_token o.bias ∷ r
before (frame.in_paren s) r = k.Mark m.OpenParen ∷ r
before (frame.in_paren_type s a) r = k.Mark m.OpenParen ∷ print a.expr (k.Mark m.Colon ∷ r)
before (frame.in_array s xs n) r = k.Mark m.OpenBracket ∷ each_expr xs m.Comma r
before (frame.in_record s bs n x) r = k.Mark m.OpenBrace ∷ each_binding bs m.Comma (k.Lower x.text ∷ k.Mark m.Equals ∷ r)
before (frame.in_tagged s x) r = k.Mark m.OpenUnion ∷ k.Lower x.text ∷ k.Mark m.Equals ∷ r
before (frame.in_block s is n b) r = k.Word w.Block ∷ k.Mark m.OpenBrace ∷ each_item is (start_tokens b r)
before (frame.in_untagged o xs n) r = choice_token o.bias ∷ k.Mark m.OpenBrace ∷ each_expr xs m.Semicolon r
before (frame.in_with_tags o bs n x) r = choice_token o.bias ∷ k.Mark m.OpenBrace ∷ each_binding bs m.Semicolon (k.Lower x.text ∷ k.Mark m.Equals ∷ r)
before (frame.in_subject s) r = k.Word w.Case ∷ r
before (frame.in_alt s e xs n p) r = case_tokens s e xs (print_pattern p (k.Mark m.Arrow ∷ r))
before (frame.in_param h s o x) r = head_tokens h (k.Mark m.OpenParen ∷ sorted_name o x ∷ k.Mark m.Colon ∷ r)
before (frame.in_result h) r = head_tokens h (k.Mark m.Colon ∷ r)
before (frame.in_body h t n) r = head_tokens h (print_typed t (k.Mark m.Equals ∷ r))
before (frame.in_class_body s x) r = k.Word w.Def ∷ k.Class x.text ∷ k.Mark m.Equals ∷ r
before (frame.in_part p o) r = layout_tokens p.layout (k.Mark m.OpenBrace ∷ each_part p.parts (part_start_tokens o r))

abbrev pub read : List Frame → List Tok → List Tok
read [] r = r
read (f ∷ fs) r = read fs (before f r)

-- ---- what stands at the hole

abbrev pub here : Focus → List Tok → List Tok
here frame.at_import r = r
here frame.at_decl r = r
here frame.want_type r = r
here (frame.have_type t) r = print_type t.type r
here (frame.want_uint s) r = k.Lower (codes "uint") ∷ r
here (frame.want_sint s) r = k.Lower (codes "sint") ∷ r
here (frame.open_empty s) r = k.Mark m.OpenBrace ∷ r
here frame.want_class r = r
here (frame.have_class c) r = print_class c.class r
here (frame.have_byte b) r = byte_token b ∷ r
here (frame.want_last b) r = byte_token b ∷ k.Mark m.DotDot ∷ r
here frame.want r = r
here (frame.have a) r = print a.expr r
here (frame.open_for s) r = k.Word w.For ∷ r
here (frame.for_name s) r = k.Word w.For ∷ k.Mark m.OpenParen ∷ r
here (frame.for_equals s x) r = k.Word w.For ∷ k.Mark m.OpenParen ∷ k.Lower x.text ∷ r
here (frame.open_map s) r = k.Word w.Map ∷ r
here (frame.loop_first l) r = loop_tokens l r
here (frame.loop_after_first l x) r = loop_tokens l (k.Lower x.text ∷ r)
here (frame.loop_second l x) r = loop_tokens l (k.Lower x.text ∷ k.Mark m.Comma ∷ r)
here (frame.loop_in l ns) r = loop_tokens l (k.Lower ns.first.text ∷ print_second_name ns.second r)
here (frame.want_shape a) r = print a.expr (k.Word w.Is ∷ r)
here (frame.want_field a) r = print a.expr (k.Mark m.Dot ∷ r)
here (frame.first_of_record s) r = k.Mark m.OpenBrace ∷ r
here (frame.next_of_record s bs n) r = k.Mark m.OpenBrace ∷ each_binding bs m.Comma r
here (frame.record_equals s bs n x) r = k.Mark m.OpenBrace ∷ each_binding bs m.Comma (k.Lower x.text ∷ r)
here (frame.open_tagged s) r = k.Mark m.OpenUnion ∷ r
here (frame.after_tag s x) r = k.Mark m.OpenUnion ∷ k.Lower x.text ∷ r
here (frame.open_block s) r = k.Word w.Block ∷ r
here (frame.item_equals s is n b) r = k.Word w.Block ∷ k.Mark m.OpenBrace ∷ each_item is (start_begun b r)
here (frame.let_name s is n t) r = k.Word w.Block ∷ k.Mark m.OpenBrace ∷ each_item is (k.Word w.Let ∷ r)
here (frame.open_choice o) r = choice_token o.bias ∷ r
here (frame.want_tag o bs n) r = choice_token o.bias ∷ k.Mark m.OpenBrace ∷ each_binding bs m.Semicolon r
here (frame.tag_equals o bs n x) r = choice_token o.bias ∷ k.Mark m.OpenBrace ∷ each_binding bs m.Semicolon (k.Lower x.text ∷ r)
here (frame.open_case s e) r = k.Word w.Case ∷ print e.expr (k.Word w.Of ∷ r)
here (frame.want_pattern c) r = case_tokens c.from c.subject c.alts r
here (frame.pattern_just c s) r = case_tokens c.from c.subject c.alts (k.Word w.Just ∷ r)
here (frame.pattern_tag c x) r = case_tokens c.from c.subject c.alts (k.Lower x.text ∷ r)
here (frame.have_pattern c p) r = case_tokens c.from c.subject c.alts (print_pattern p r)
here (frame.want_import s) r = k.Word w.Import ∷ r
here (frame.want_name s) r = k.Word w.Def ∷ r
here (frame.want_param h) r = head_tokens h r
here (frame.open_param h s) r = head_tokens h (k.Mark m.OpenParen ∷ r)
here (frame.param_colon h s o x) r = head_tokens h (k.Mark m.OpenParen ∷ sorted_name o x ∷ r)
here (frame.class_equals s x) r = k.Word w.Def ∷ k.Class x.text ∷ r
here (frame.want_bits_name s) r = k.Word w.Bitdata ∷ r
here (frame.after_bits_name s x) r = k.Word w.Bitdata ∷ k.Upper x.text ∷ r
here (frame.open_cons s x) r = k.Word w.Bitdata ∷ k.Upper x.text ∷ k.Word w.Where ∷ r
here (frame.want_con s x cs n) r = k.Word w.Bitdata ∷ k.Upper x.text ∷ k.Word w.Where ∷ k.Mark m.OpenBrace ∷ each_con cs r
here (frame.con_equals s x cs n y) r = k.Word w.Bitdata ∷ k.Upper x.text ∷ k.Word w.Where ∷ k.Mark m.OpenBrace ∷ each_con cs (k.Lower y.text ∷ r)
here (frame.after_con s x cs n) r = k.Word w.Bitdata ∷ k.Upper x.text ∷ k.Word w.Where ∷ k.Mark m.OpenBrace ∷ print_cons cs r
here (frame.want_bits l) r = layout_tokens l r
here (frame.want_part p) r = layout_tokens p.layout (k.Mark m.OpenBrace ∷ each_part p.parts r)
here (frame.after_part p) r = layout_tokens p.layout (k.Mark m.OpenBrace ∷ print_parts p.parts r)
here (frame.part_colon p o) r = layout_tokens p.layout (k.Mark m.OpenBrace ∷ each_part p.parts (part_start_begun o r))

abbrev pub text : State → List Tok → List Tok
text z r = read z.0 (here z.1 r)
