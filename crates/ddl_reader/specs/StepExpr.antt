-- One token of an expression: the first, or one that goes on with an expression that has been read.
use Rattle.std.specs.Prelude.{ℕ, ◌+◌, max, nat_le, List, [], ◌∷◌, ◌++◌, Option, Some, None, option_and_then, if◌then◌else◌}
use Rattle.ddl_base.specs.declared.span.Span.{Span}
use Rattle.ddl_token.specs.declared.token.Tok.{Tok}
use Rattle.ddl_token.specs.declared.token.Tok.TheVariants as k
use Rattle.ddl_token.specs.declared.word.Word.{Word}
use Rattle.ddl_token.specs.declared.word.Word.TheVariants as w
use Rattle.ddl_token.specs.declared.mark.Mark.{Mark}
use Rattle.ddl_token.specs.declared.mark.Mark.TheVariants as m
use Rattle.ddl_tree.specs.declared.name.Name.{Name}
use Rattle.ddl_tree.specs.declared.operator.Bias.{Bias}
use Rattle.ddl_tree.specs.declared.operator.Bias.TheVariants.{Biased, Unbiased}
use Rattle.ddl_tree.specs.declared.operator.CastOp.TheVariants as cast
use Rattle.ddl_tree.specs.declared.operator.InfixOp.{InfixOp}
use Rattle.ddl_tree.specs.declared.operator.InfixOp.TheVariants as op
use Rattle.ddl_tree.specs.declared.operator.PrefixOp.TheVariants as pre
use Rattle.ddl_tree.specs.ExprTree as ex
use Rattle.ddl_tree.specs.ExprTree.{expr_span}
use Rattle.ddl_tree.specs.Grammar.{level, left_level, right_level}
use Rattle.ddl_tree.specs.View.{exprs_of}
use Rattle.ddl_reader.specs.Frames.{Frame, Focus, State, Found, Repeat}
use Rattle.ddl_reader.specs.Frames as frame
use Rattle.ddl_reader.specs.StepType.{joined, found, number_at}

-- the widest nonterminal at the hole of a form
abbrev pub hole : Frame → ℕ
hole (frame.in_infix o a) = right_level o
hole (frame.in_pure s) = 4
hole (frame.in_else s c a) = 3
hole (frame.in_for_body s x i ns l) = 3
hole (frame.in_map_body s ns l) = 3
hole (frame.in_prefix o s) = 14
hole (frame.in_call_grammar x xs n) = 17
hole (frame.in_call_value x xs n) = 17
hole (frame.in_just s) = 17
hole (frame.in_many r b n) = 17
hole (frame.in_optional r) = 17
hole _ = 1

abbrev pub least : List Frame → ℕ
least [] = 1
least (f ∷ fs) = hole f

-- the nonterminal that a token goes on with, where it follows an expression; 0 where it follows none
abbrev pub word_binds : Word → ℕ
word_binds w.Is = 3
word_binds w.As = 15
word_binds w.AsCut = 15
word_binds w.AsFit = 15
word_binds w.True = 16
word_binds w.False = 16
word_binds w.Nothing = 16
word_binds w.Block = 16
word_binds w.First = 16
word_binds w.Choose = 16
word_binds w.Case = 16
word_binds _ = 0

abbrev pub mark_binds : Mark → ℕ
mark_binds m.Bar = 1
mark_binds m.OrElse = 2
mark_binds m.OrOr = 4
mark_binds m.AndAnd = 5
mark_binds m.EqualEqual = 6
mark_binds m.NotEqual = 6
mark_binds m.Less = 6
mark_binds m.LessEqual = 6
mark_binds m.Greater = 6
mark_binds m.GreaterEqual = 6
mark_binds m.BitOr = 7
mark_binds m.BitXor = 8
mark_binds m.BitAnd = 9
mark_binds m.ShiftLeft = 10
mark_binds m.ShiftRight = 10
mark_binds m.Hash = 11
mark_binds m.LessHash = 11
mark_binds m.Plus = 12
mark_binds m.Minus = 12
mark_binds m.Star = 13
mark_binds m.Slash = 13
mark_binds m.Percent = 13
mark_binds m.OpenParen = 16
mark_binds m.OpenBracket = 16
mark_binds m.OpenBrace = 16
mark_binds m.OpenUnion = 16
mark_binds m.DollarBracket = 16
mark_binds m.Dot = 17
mark_binds _ = 0

abbrev pub binds : Tok → ℕ
binds (k.Word o) = word_binds o
binds (k.Mark o) = mark_binds o
binds _ = 16

abbrev pub repeat : Bias → Span → Repeat
repeat b s = record { bias = b; from = s }

abbrev pub name_at : List ℕ → Span → Name
name_at x s = record { text = x; span = s }

abbrev pub if_within : ℕ → List Frame → State → Option State
if_within n fs z = if nat_le (least fs) n then Some z else None

-- ---- the first token of an expression

-- `$$` and `let` begin a part of a block
abbrev pub begin_result : Span → List Frame → Option State
begin_result s (frame.in_block from is n frame.plainly ∷ fs) = Some (fs, frame.item_equals from is n (frame.result_from s))
begin_result s fs = None

abbrev pub begin_let : Span → List Frame → Option State
begin_let s (frame.in_block from is n frame.plainly ∷ fs) = Some (fs, frame.let_name from is n s)
begin_let s fs = None

-- an array may be empty
abbrev pub close_array : Span → List Frame → Option State
close_array s (frame.in_array from [] n ∷ fs) = Some (fs, frame.have (found (ex.Array ex.no_exprs (joined from s)) 1))
close_array s fs = None

-- `(..` and `(e ..)` after `Many`
abbrev pub begin_high : Span → List Frame → Option State
begin_high s (frame.in_paren from ∷ frame.in_many r ex.Free n ∷ fs) = Some (frame.in_at_most r from ∷ fs, frame.want)
begin_high s fs = None

abbrev pub close_low : Span → List Frame → Option State
close_low s (frame.in_between r from a ∷ fs) = Some (frame.in_many r (ex.AtLeast a.expr (joined from s)) a.deep ∷ fs, frame.want)
close_low s fs = None

abbrev pub begin_word : Word → Span → List Frame → Option State
begin_word w.True s fs = Some (fs, frame.have (found (ex.True s) 1))
begin_word w.False s fs = Some (fs, frame.have (found (ex.False s) 1))
begin_word w.Nothing s fs = Some (fs, frame.have (found (ex.Nothing s) 1))
begin_word w.If s fs = if_within 3 fs (frame.in_if s ∷ fs, frame.want)
begin_word w.For s fs = if_within 3 fs (fs, frame.open_for s)
begin_word w.Map s fs = if_within 3 fs (fs, frame.open_map s)
begin_word w.Just s fs = if_within 16 fs (frame.in_just s ∷ fs, frame.want)
begin_word w.Many s fs = if_within 16 fs (frame.in_many (repeat Biased s) ex.Free 0 ∷ fs, frame.want)
begin_word w.ManyAll s fs = if_within 16 fs (frame.in_many (repeat Unbiased s) ex.Free 0 ∷ fs, frame.want)
begin_word w.Optional s fs = if_within 16 fs (frame.in_optional (repeat Biased s) ∷ fs, frame.want)
begin_word w.OptionalAll s fs = if_within 16 fs (frame.in_optional (repeat Unbiased s) ∷ fs, frame.want)
begin_word w.Block s fs = Some (fs, frame.open_block s)
begin_word w.First s fs = Some (fs, frame.open_choice (repeat Biased s))
begin_word w.Choose s fs = Some (fs, frame.open_choice (repeat Unbiased s))
begin_word w.Case s fs = Some (frame.in_subject s ∷ fs, frame.want)
begin_word w.Let s fs = begin_let s fs
begin_word _ s fs = None

abbrev pub begin_mark : Mark → Span → List Frame → Option State
begin_mark m.Caret s fs = if_within 3 fs (frame.in_pure s ∷ fs, frame.want)
begin_mark m.Minus s fs = if_within 14 fs (frame.in_prefix pre.Negate s ∷ fs, frame.want)
begin_mark m.Bang s fs = if_within 14 fs (frame.in_prefix pre.Not s ∷ fs, frame.want)
begin_mark m.Tilde s fs = if_within 14 fs (frame.in_prefix pre.Complement s ∷ fs, frame.want)
begin_mark m.OpenParen s fs = Some (frame.in_paren s ∷ fs, frame.want)
begin_mark m.OpenBracket s fs = Some (frame.in_array s [] 0 ∷ fs, frame.want)
begin_mark m.OpenBrace s fs = Some (fs, frame.first_of_record s)
begin_mark m.OpenUnion s fs = Some (fs, frame.open_tagged s)
begin_mark m.DollarBracket s fs = Some (frame.in_set s ∷ fs, frame.want_class)
begin_mark m.DollarDollar s fs = begin_result s fs
begin_mark m.CloseBracket s fs = close_array s fs
begin_mark m.DotDot s fs = begin_high s fs
begin_mark m.CloseParen s fs = close_low s fs
begin_mark _ s fs = None

abbrev pub begin : Tok → Span → List Frame → Option State
begin (k.Word o) s fs = begin_word o s fs
begin (k.Mark o) s fs = begin_mark o s fs
begin (k.Number v b d) s fs = Some (fs, frame.have (found (ex.Num (number_at v b d s)) 1))
begin (k.Char b) s fs = Some (fs, frame.have (found (ex.Char b s) 1))
begin (k.Text bs) s fs = Some (fs, frame.have (found (ex.Text bs s) 1))
begin (k.Upper x) s fs = Some (fs, frame.have (found (ex.Upper (name_at x s)) 1))
begin (k.Lower x) s fs = Some (fs, frame.have (found (ex.Lower (name_at x s)) 1))
begin (k.Class x) s fs = Some (fs, frame.have (found (ex.Class (name_at x s)) 1))

-- ---- a token that goes on with an expression

-- the call that a name begins
abbrev pub called : ex.Expr → Option Frame
called (ex.Upper x) = Some (frame.in_call_grammar x [] 0)
called (ex.Lower x) = Some (frame.in_call_value x [] 0)
called _ = None

-- an argument after a name
abbrev pub apply : Tok → Span → Found → List Frame → Option State
apply x s a fs = option_and_then (λ f. begin x s (f ∷ fs)) (called a.expr)

abbrev pub if_above : ℕ → Found → State → Option State
if_above n a z = if nat_le n (level a.expr) then Some z else None

abbrev pub infix_with : InfixOp → Found → List Frame → Option State
infix_with o a fs = if_above (left_level o) a (frame.in_infix o a ∷ fs, frame.want)

abbrev pub extend_word : Word → Span → Found → List Frame → Option State
extend_word w.Is s a fs = if_above 4 a (fs, frame.want_shape a)
extend_word w.As s a fs = if_above 15 a (frame.in_cast cast.Lossless a ∷ fs, frame.want_type)
extend_word w.AsCut s a fs = if_above 15 a (frame.in_cast cast.Cut a ∷ fs, frame.want_type)
extend_word w.AsFit s a fs = if_above 15 a (frame.in_cast cast.Fit a ∷ fs, frame.want_type)
extend_word o s a fs = apply (k.Word o) s a fs

abbrev pub extend_mark : Mark → Span → Found → List Frame → Option State
extend_mark m.Bar s a fs = infix_with op.Either a fs
extend_mark m.OrElse s a fs = infix_with op.OrElse a fs
extend_mark m.OrOr s a fs = infix_with op.Or a fs
extend_mark m.AndAnd s a fs = infix_with op.And a fs
extend_mark m.EqualEqual s a fs = infix_with op.Equal a fs
extend_mark m.NotEqual s a fs = infix_with op.NotEqual a fs
extend_mark m.Less s a fs = infix_with op.Less a fs
extend_mark m.LessEqual s a fs = infix_with op.LessEqual a fs
extend_mark m.Greater s a fs = infix_with op.Greater a fs
extend_mark m.GreaterEqual s a fs = infix_with op.GreaterEqual a fs
extend_mark m.BitOr s a fs = infix_with op.BitOr a fs
extend_mark m.BitXor s a fs = infix_with op.BitXor a fs
extend_mark m.BitAnd s a fs = infix_with op.BitAnd a fs
extend_mark m.ShiftLeft s a fs = infix_with op.ShiftLeft a fs
extend_mark m.ShiftRight s a fs = infix_with op.ShiftRight a fs
extend_mark m.Hash s a fs = infix_with op.Append a fs
extend_mark m.LessHash s a fs = infix_with op.AppendWithin a fs
extend_mark m.Plus s a fs = infix_with op.Add a fs
extend_mark m.Minus s a fs = infix_with op.Subtract a fs
extend_mark m.Star s a fs = infix_with op.Multiply a fs
extend_mark m.Slash s a fs = infix_with op.Divide a fs
extend_mark m.Percent s a fs = infix_with op.Remainder a fs
extend_mark m.Dot s a fs = if_above 17 a (fs, frame.want_field a)
extend_mark o s a fs = apply (k.Mark o) s a fs

abbrev pub extend : Tok → Span → Found → List Frame → Option State
extend (k.Word o) s a fs = extend_word o s a fs
extend (k.Mark o) s a fs = extend_mark o s a fs
extend x s a fs = apply x s a fs

-- ---- the end of a part

-- an atom after an argument, or after what then was the bound of `Many`
abbrev pub with_argument : Frame → Found → Option Frame
with_argument (frame.in_call_grammar x xs n) a = Some (frame.in_call_grammar x (xs ++ a.expr ∷ []) (max n a.deep))
with_argument (frame.in_call_value x xs n) a = Some (frame.in_call_value x (xs ++ a.expr ∷ []) (max n a.deep))
with_argument (frame.in_many r ex.Free n) a = Some (frame.in_many r (ex.Exactly a.expr) a.deep)
with_argument _ a = None

-- the form whose last part this is
abbrev pub closes : Frame → Found → Option Found
closes (frame.in_infix o a) b = Some (found (ex.Infix o a.expr b.expr (joined (expr_span a.expr) (expr_span b.expr))) (1 + max a.deep b.deep))
closes (frame.in_pure s) a = Some (found (ex.Pure a.expr (joined s (expr_span a.expr))) (1 + a.deep))
closes (frame.in_else s c a) b = Some (found (ex.If c.expr a.expr b.expr (joined s (expr_span b.expr))) (1 + max c.deep (max a.deep b.deep)))
closes (frame.in_for_body s x i ns l) b = Some (found (ex.For x i.expr ns l.expr b.expr (joined s (expr_span b.expr))) (1 + max i.deep (max l.deep b.deep)))
closes (frame.in_map_body s ns l) b = Some (found (ex.Map ns l.expr b.expr (joined s (expr_span b.expr))) (1 + max l.deep b.deep))
closes (frame.in_prefix o s) a = Some (found (ex.Prefix o a.expr (joined s (expr_span a.expr))) (1 + a.deep))
closes (frame.in_call_grammar x xs n) a = Some (found (ex.CallGrammar x (exprs_of (xs ++ a.expr ∷ [])) (joined x.span (expr_span a.expr))) (1 + max n a.deep))
closes (frame.in_call_value x xs n) a = Some (found (ex.CallValue x (exprs_of (xs ++ a.expr ∷ [])) (joined x.span (expr_span a.expr))) (1 + max n a.deep))
closes (frame.in_just s) a = Some (found (ex.Just a.expr (joined s (expr_span a.expr))) (1 + a.deep))
closes (frame.in_many r b n) a = Some (found (ex.Many r.bias b a.expr (joined r.from (expr_span a.expr))) (1 + max n a.deep))
closes (frame.in_optional r) a = Some (found (ex.Optional r.bias a.expr (joined r.from (expr_span a.expr))) (1 + a.deep))
closes _ a = None
