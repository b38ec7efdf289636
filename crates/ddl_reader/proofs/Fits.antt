-- What is always so of the open forms, and of what stands at the hole of the innermost.
use Rattle.std.proofs.Common.{◌≡◌, ◌≢◌, ℕ, ◌≤◌, Bool, true, false, cond, nat_le, nat_eq, List, [], ◌∷◌, Option, Some, None, refl, ◌∙◌, arith}
use Rattle.std.proofs.lemmas.Bool.Decides.{nat_tests}
use Rattle.ddl_token.specs.declared.token.Tok.{Tok}
use Rattle.ddl_tree.specs.declared.operator.InfixOp.{InfixOp}
use Rattle.ddl_tree.specs.declared.operator.InfixOp.TheVariants as op
use Rattle.ddl_tree.specs.ExprTree as ex
use Rattle.ddl_tree.specs.ExprTree.{expr_span}
use Rattle.ddl_tree.specs.Grammar.{infix_level, left_level, right_level, level, IsClass, IsExpr, IsBound, IsItem}
use Rattle.ddl_tree.specs.GrammarModule.{AreParts, AreCons, AreDecls}
use Rattle.ddl_reader.specs.Frames.{Frame, Focus, State, Found, FoundType, FoundClass, Head, Sort, Layout, Parted, PartStart, Repeat, Start, Loop, Cases}
use Rattle.ddl_reader.specs.Frames as frame
use Rattle.ddl_reader.specs.StepExpr.{hole, least}
use Rattle.ddl_reader.proofs.Before.{read, here, text}
use Rattle.ddl_reader.proofs.Classes.{IsClassHole}

-- ---- lists

abbrev pub Atoms : List ex.Expr → Type 0
Atoms [] = Unit {0}
Atoms (a ∷ xs) = IsExpr a × (17 ≤ level a) × Atoms xs

abbrev pub Exprs : List ex.Expr → Type 0
Exprs [] = Unit {0}
Exprs (a ∷ xs) = IsExpr a × Exprs xs

abbrev pub Bindings : List ex.Binding → Type 0
Bindings [] = Unit {0}
Bindings (b ∷ bs) = IsExpr b.value × Bindings bs

abbrev pub Items : List ex.Item → Type 0
Items [] = Unit {0}
Items (i ∷ is) = IsItem i × Items is

abbrev pub Alts : List ex.Alt → Type 0
Alts [] = Unit {0}
Alts (a ∷ xs) = IsExpr a.body × Alts xs

-- ---- frames

-- what a form is: 1 an expression, 2 a type, 3 a class, 4 a declaration, 9 a module
abbrev pub makes : Frame → ℕ
makes (frame.in_module a n) = 9
makes (frame.in_maybe s) = 2
makes (frame.in_bracket s) = 2
makes (frame.in_map_value s t) = 2
makes (frame.in_within s) = 2
makes (frame.in_union a) = 3
makes (frame.in_other s) = 3
makes (frame.in_grouped s) = 3
makes (frame.in_class_set s) = 3
makes (frame.in_param h s o x) = 4
makes (frame.in_result h) = 4
makes (frame.in_body h t n) = 4
makes (frame.in_class_body s x) = 4
makes (frame.in_part p o) = 4
makes _ = 1

-- what stands at its hole
abbrev pub wants : Frame → ℕ
wants (frame.in_module a n) = 4
wants (frame.in_maybe s) = 2
wants (frame.in_bracket s) = 2
wants (frame.in_map_value s t) = 2
wants (frame.in_within s) = 2
wants (frame.in_cast o a) = 2
wants (frame.in_paren_type s a) = 2
wants (frame.in_param h s o x) = 2
wants (frame.in_result h) = 2
wants (frame.in_part p o) = 2
wants (frame.in_union a) = 3
wants (frame.in_other s) = 3
wants (frame.in_grouped s) = 3
wants (frame.in_class_set s) = 3
wants (frame.in_set s) = 3
wants (frame.in_class_body s x) = 3
wants _ = 1

abbrev pub wanted : List Frame → ℕ
wanted [] = 9
wanted (f ∷ fs) = wants f

-- the nonterminal of the whole form, where it is an expression
abbrev pub form : Frame → ℕ
form (frame.in_infix o a) = infix_level o
form (frame.in_pure s) = 3
form (frame.in_if s) = 3
form (frame.in_then s c) = 3
form (frame.in_else s c a) = 3
form (frame.in_for_start s x) = 3
form (frame.in_for_list s x i ns) = 3
form (frame.in_for_body s x i ns l) = 3
form (frame.in_map_list s ns) = 3
form (frame.in_map_body s ns l) = 3
form (frame.in_prefix o s) = 14
form (frame.in_cast o a) = 15
form (frame.in_call_grammar x xs n) = 16
form (frame.in_call_value x xs n) = 16
form (frame.in_just s) = 16
form (frame.in_many o b n) = 16
form (frame.in_at_most o s) = 16
form (frame.in_between o s a) = 16
form (frame.in_optional o) = 16
form _ = 18

abbrev pub IsLayout : Layout → Type 0
IsLayout (frame.of_decl s x) = Unit {0}
IsLayout (frame.of_con s x cs y n) = AreCons cs

abbrev pub IsParted : Parted → Type 0
IsParted p = IsLayout p.layout × AreParts p.parts

-- the parts before the hole are of the grammar
abbrev pub IsFrame : Frame → Type 0
IsFrame (frame.in_module a n) = AreDecls a.decls
IsFrame (frame.in_union a) = IsClass a.class
IsFrame (frame.in_infix o a) = IsExpr a.expr × (left_level o ≤ level a.expr)
IsFrame (frame.in_then s c) = IsExpr c.expr
IsFrame (frame.in_else s c a) = IsExpr c.expr × IsExpr a.expr
IsFrame (frame.in_for_list s x i ns) = IsExpr i.expr
IsFrame (frame.in_for_body s x i ns l) = IsExpr i.expr × IsExpr l.expr
IsFrame (frame.in_map_body s ns l) = IsExpr l.expr
IsFrame (frame.in_cast o a) = IsExpr a.expr × (15 ≤ level a.expr)
IsFrame (frame.in_call_grammar x xs n) = Atoms xs
IsFrame (frame.in_call_value x xs n) = Atoms xs
IsFrame (frame.in_many o b n) = IsBound b
IsFrame (frame.in_between o s a) = IsExpr a.expr
IsFrame (frame.in_paren_type s a) = IsExpr a.expr
IsFrame (frame.in_array s xs n) = Exprs xs
IsFrame (frame.in_record s bs n x) = Bindings bs
IsFrame (frame.in_block s is n b) = Items is
IsFrame (frame.in_untagged o xs n) = Exprs xs
IsFrame (frame.in_with_tags o bs n x) = Bindings bs
IsFrame (frame.in_alt s e xs n p) = IsExpr e.expr × Alts xs
IsFrame (frame.in_part p o) = IsParted p
IsFrame _ = Unit {0}

-- a sum of classes stands where a `|` may go on with it
abbrev pub Sits : Frame → List Frame → Type 0
Sits (frame.in_union a) fs = IsClassHole fs
Sits _ fs = Unit {0}

abbrev pub AreFrames : List Frame → Type 0
AreFrames [] = Unit {0}
AreFrames (f ∷ fs) = IsFrame f × (wanted fs ≡ makes f) × (least fs ≤ form f) × Sits f fs × AreFrames fs

-- ---- what stands at the hole

abbrev pub NoDecls : List Frame → Type 0
NoDecls (frame.in_module a n ∷ fs) = a.decls ≡ []
NoDecls _ = ⊥

abbrev pub IsLoop : Loop → Type 0
IsLoop (frame.for_from s x i) = IsExpr i.expr
IsLoop (frame.map_from s) = Unit {0}

abbrev pub IsNamed : Start → Type 0
IsNamed frame.plainly = ⊥
IsNamed _ = Unit {0}

abbrev pub AreCases : Cases → Type 0
AreCases c = IsExpr c.subject.expr × Alts c.alts

abbrev pub IsFocus : List Frame → Focus → Type 0
IsFocus fs frame.at_import = (wanted fs ≡ 4) × NoDecls fs
IsFocus fs frame.at_decl = wanted fs ≡ 4
IsFocus fs frame.want_type = wanted fs ≡ 2
IsFocus fs (frame.have_type t) = wanted fs ≡ 2
IsFocus fs (frame.want_uint s) = wanted fs ≡ 2
IsFocus fs (frame.want_sint s) = wanted fs ≡ 2
IsFocus fs (frame.open_empty s) = wanted fs ≡ 2
IsFocus fs frame.want_class = wanted fs ≡ 3
IsFocus fs (frame.have_class c) = IsClass c.class × IsClassHole fs
IsFocus fs (frame.have_byte b) = wanted fs ≡ 3
IsFocus fs (frame.want_last b) = wanted fs ≡ 3
IsFocus fs frame.want = wanted fs ≡ 1
IsFocus fs (frame.have a) = IsExpr a.expr × (wanted fs ≡ 1) × (least fs ≤ level a.expr)
IsFocus fs (frame.open_for s) = (wanted fs ≡ 1) × (least fs ≤ 3)
IsFocus fs (frame.for_name s) = (wanted fs ≡ 1) × (least fs ≤ 3)
IsFocus fs (frame.for_equals s x) = (wanted fs ≡ 1) × (least fs ≤ 3)
IsFocus fs (frame.open_map s) = (wanted fs ≡ 1) × (least fs ≤ 3)
IsFocus fs (frame.loop_first l) = IsLoop l × (wanted fs ≡ 1) × (least fs ≤ 3)
IsFocus fs (frame.loop_after_first l x) = IsLoop l × (wanted fs ≡ 1) × (least fs ≤ 3)
IsFocus fs (frame.loop_second l x) = IsLoop l × (wanted fs ≡ 1) × (least fs ≤ 3)
IsFocus fs (frame.loop_in l ns) = IsLoop l × (wanted fs ≡ 1) × (least fs ≤ 3)
IsFocus fs (frame.want_shape a) = (IsExpr a.expr × (4 ≤ level a.expr)) × (wanted fs ≡ 1) × (least fs ≤ 3)
IsFocus fs (frame.want_field a) = (IsExpr a.expr × (17 ≤ level a.expr)) × (wanted fs ≡ 1)
IsFocus fs (frame.first_of_record s) = wanted fs ≡ 1
IsFocus fs (frame.next_of_record s bs n) = Bindings bs × (wanted fs ≡ 1)
IsFocus fs (frame.record_equals s bs n x) = Bindings bs × (wanted fs ≡ 1)
IsFocus fs (frame.open_tagged s) = wanted fs ≡ 1
IsFocus fs (frame.after_tag s x) = wanted fs ≡ 1
IsFocus fs (frame.open_block s) = wanted fs ≡ 1
IsFocus fs (frame.item_equals s is n b) = Items is × IsNamed b × (wanted fs ≡ 1)
IsFocus fs (frame.let_name s is n t) = Items is × (wanted fs ≡ 1)
IsFocus fs (frame.open_choice o) = wanted fs ≡ 1
IsFocus fs (frame.want_tag o bs n) = Bindings bs × (wanted fs ≡ 1)
IsFocus fs (frame.tag_equals o bs n x) = Bindings bs × (wanted fs ≡ 1)
IsFocus fs (frame.open_case s e) = IsExpr e.expr × (wanted fs ≡ 1)
IsFocus fs (frame.want_pattern c) = AreCases c × (wanted fs ≡ 1)
IsFocus fs (frame.pattern_just c s) = AreCases c × (wanted fs ≡ 1)
IsFocus fs (frame.pattern_tag c x) = AreCases c × (wanted fs ≡ 1)
IsFocus fs (frame.have_pattern c p) = AreCases c × (wanted fs ≡ 1)
IsFocus fs (frame.want_import s) = (wanted fs ≡ 4) × NoDecls fs
IsFocus fs (frame.want_name s) = wanted fs ≡ 4
IsFocus fs (frame.want_param h) = wanted fs ≡ 4
IsFocus fs (frame.open_param h s) = wanted fs ≡ 4
IsFocus fs (frame.param_colon h s o x) = wanted fs ≡ 4
IsFocus fs (frame.class_equals s x) = wanted fs ≡ 4
IsFocus fs (frame.want_bits_name s) = wanted fs ≡ 4
IsFocus fs (frame.after_bits_name s x) = wanted fs ≡ 4
IsFocus fs (frame.open_cons s x) = wanted fs ≡ 4
IsFocus fs (frame.want_con s x cs n) = AreCons cs × (wanted fs ≡ 4)
IsFocus fs (frame.con_equals s x cs n y) = AreCons cs × (wanted fs ≡ 4)
IsFocus fs (frame.after_con s x cs n) = (AreCons cs × (cs ≢ [])) × (wanted fs ≡ 4)
IsFocus fs (frame.want_bits l) = IsLayout l × (wanted fs ≡ 4)
IsFocus fs (frame.want_part p) = IsParted p × (wanted fs ≡ 4)
IsFocus fs (frame.after_part p) = (IsParted p × (p.parts ≢ [])) × (wanted fs ≡ 4)
IsFocus fs (frame.part_colon p o) = IsParted p × (wanted fs ≡ 4)

-- ---- steps

-- the state has read what had been read before, and then what g adds
abbrev pub Reads : List Frame → (List Tok → List Tok) → State → Type 0
Reads fs g z = ((r : List Tok) → text z r ≡ read fs (g r)) × AreFrames z.0 × IsFocus z.0 z.1

-- the state after a token has read what was read before it, and the token
abbrev pub Steps : List Frame → Focus → Tok → Option State → Type 0
Steps fs f x None = Unit {0}
Steps fs f x (Some z) = Reads fs (λ r. here f (x ∷ r)) z

-- what goes on from one state goes on from another that has read the same
pub shift : (fs gs : List Frame) (f g : Focus) (x : Tok) (o : Option State) → ((r : List Tok) → read fs (here f (x ∷ r)) ≡ read gs (here g (x ∷ r)))
    → Steps fs f x o → Steps gs g x o
shift fs gs f g x None e h = tt
shift fs gs f g x (Some z) e h = ((λ r. h.0 r ∙ e r), h.1, h.2)

pub le_of : (a b : ℕ) → nat_le a b ≡ true → a ≤ b
le_of a b h = grind (arith, nat_tests)

pub eq_of : (a b : ℕ) → nat_eq a b ≡ true → a ≡ b
eq_of a b h = grind (arith, nat_tests)

-- a step that is made only if a test says so
pub tested : (fs : List Frame) (f : Focus) (x : Tok) (b : Bool) (o : Option State) → (b ≡ true → Steps fs f x o) → Steps fs f x (cond b o None)
tested fs f x true o h = h refl
tested fs f x false o h = tt

right_small : (o : InfixOp) → right_level o ≤ 17
right_small op.Either = omega arith
right_small op.OrElse = omega arith
right_small op.Or = omega arith
right_small op.And = omega arith
right_small op.Equal = omega arith
right_small op.NotEqual = omega arith
right_small op.Less = omega arith
right_small op.LessEqual = omega arith
right_small op.Greater = omega arith
right_small op.GreaterEqual = omega arith
right_small op.BitOr = omega arith
right_small op.BitXor = omega arith
right_small op.BitAnd = omega arith
right_small op.ShiftLeft = omega arith
right_small op.ShiftRight = omega arith
right_small op.Append = omega arith
right_small op.AppendWithin = omega arith
right_small op.Add = omega arith
right_small op.Subtract = omega arith
right_small op.Multiply = omega arith
right_small op.Divide = omega arith
right_small op.Remainder = omega arith

hole_small : (f : Frame) → hole f ≤ 17
hole_small (frame.in_infix o a) = right_small o
hole_small _ = omega arith

pub least_small : (fs : List Frame) → least fs ≤ 17
least_small [] = omega arith
least_small (f ∷ fs) = hole_small f
