-- Each token of an expression leads to a state that has read it: the first, and those that go on with it.
use Rattle.std.proofs.Common.{◌≡◌, ℕ, ◌≤◌, max, nat_le, List, [], ◌∷◌, ◌++◌, Some, IfSome, option_and_then, refl, ap, arith}
use Rattle.ddl_base.specs.declared.span.Span.{Span}
use Rattle.ddl_token.specs.declared.token.Tok.{Tok}
use Rattle.ddl_token.specs.declared.token.Tok.TheVariants as k
use Rattle.ddl_token.specs.declared.word.Word.{Word}
use Rattle.ddl_token.specs.declared.word.Word.TheVariants as w
use Rattle.ddl_token.specs.declared.mark.Mark.{Mark}
use Rattle.ddl_token.specs.declared.mark.Mark.TheVariants as m
use Rattle.ddl_tree.specs.declared.operator.Bias.TheVariants.{Biased, Unbiased}
use Rattle.ddl_tree.specs.declared.operator.CastOp.TheVariants as cast
use Rattle.ddl_tree.specs.declared.operator.InfixOp.{InfixOp}
use Rattle.ddl_tree.specs.declared.operator.InfixOp.TheVariants as op
use Rattle.ddl_tree.specs.declared.operator.PrefixOp.TheVariants as pre
use Rattle.ddl_tree.specs.ExprTree as ex
use Rattle.ddl_tree.specs.ExprTree.{expr_span}
use Rattle.ddl_tree.specs.View.{exprs_of}
use Rattle.ddl_tree.specs.Print.{infix_token, print, print_args}
use Rattle.ddl_tree.specs.Grammar.{infix_level, left_level, level, IsExpr, AreAtoms, SomeExprs}
use Rattle.ddl_reader.specs.Frames.{Frame, Focus, State, Found, FoundType, FoundClass, Head, Sort, Layout, Parted, PartStart, Repeat, Start, Loop, Cases}
use Rattle.ddl_reader.specs.Frames as frame
use Rattle.ddl_reader.specs.StepType.{found}
use Rattle.ddl_reader.specs.StepExpr.{hole, least, binds}
use Rattle.ddl_reader.specs.StepExpr.{repeat, name_at, if_within, begin_result, begin_let, close_array, begin_high, close_low, begin_word, begin_mark, begin}
use Rattle.ddl_reader.specs.StepExpr.{apply, if_above, infix_with, extend_word, extend_mark, extend, with_argument, closes}
use Rattle.ddl_reader.specs.StepType.{number_at}
use Rattle.ddl_reader.proofs.Before.{before, read, each_arg}
use Rattle.ddl_reader.proofs.Fits.{Atoms, makes, wanted, form, IsFrame, AreFrames, Reads, Steps, shift, tested, le_of, least_small}

-- ---- the first token

has_one : (fs : List Frame) (e : ex.Expr) (n : ℕ) → AreFrames fs → wanted fs ≡ 1 → IsExpr e → 18 ≤ level e → Reads fs (print e) (fs, frame.have (found e n))
has_one fs e n a h i l = let small = least_small fs in ((λ r. refl), a, (i, h, omega arith))

within_fine : (n : ℕ) (x : Tok) (fs : List Frame) (z : State) → (least fs ≤ n → Steps fs frame.want x (Some z)) → Steps fs frame.want x (if_within n fs z)
within_fine n x fs z h = tested fs frame.want x (nat_le (least fs) n) (Some z) (λ e. h (le_of (least fs) n e))

small : (fs : List Frame) → least fs ≤ 18
small fs = let h = least_small fs in omega arith

begin_result_fine : (s : Span) (fs : List Frame) → AreFrames fs → wanted fs ≡ 1 → Steps fs frame.want (k.Mark m.DollarDollar) (begin_result s fs)
begin_result_fine s (frame.in_block from is n frame.plainly ∷ fs) a h = ((λ r. refl), a.4, (a.0, tt, a.1))
begin_result_fine s _ a h = tt

begin_let_fine : (s : Span) (fs : List Frame) → AreFrames fs → wanted fs ≡ 1 → Steps fs frame.want (k.Word w.Let) (begin_let s fs)
begin_let_fine s (frame.in_block from is n frame.plainly ∷ fs) a h = ((λ r. refl), a.4, (a.0, a.1))
begin_let_fine s _ a h = tt

close_array_fine : (s : Span) (fs : List Frame) → AreFrames fs → wanted fs ≡ 1 → Steps fs frame.want (k.Mark m.CloseBracket) (close_array s fs)
close_array_fine s (frame.in_array from [] n ∷ fs) a h = ((λ r. refl), a.4, (tt, a.1, a.2))
close_array_fine s _ a h = tt

begin_high_fine : (s : Span) (fs : List Frame) → AreFrames fs → wanted fs ≡ 1 → Steps fs frame.want (k.Mark m.DotDot) (begin_high s fs)
begin_high_fine s (frame.in_paren from ∷ frame.in_many o ex.Free n ∷ fs) a h = ((λ r. refl), (tt, a.4.1, a.4.2, tt, a.4.4), refl)
begin_high_fine s _ a h = tt

close_low_fine : (s : Span) (fs : List Frame) → AreFrames fs → wanted fs ≡ 1 → Steps fs frame.want (k.Mark m.CloseParen) (close_low s fs)
close_low_fine s (frame.in_between o from c ∷ fs) a h = ((λ r. refl), (a.0, a.1, a.2, tt, a.4), refl)
close_low_fine s _ a h = tt

begin_word_fine : (o : Word) (s : Span) (fs : List Frame) → AreFrames fs → wanted fs ≡ 1 → Steps fs frame.want (k.Word o) (begin_word o s fs)
begin_word_fine w.True s fs a h = has_one fs (ex.True s) 1 a h tt (omega arith)
begin_word_fine w.False s fs a h = has_one fs (ex.False s) 1 a h tt (omega arith)
begin_word_fine w.Nothing s fs a h = has_one fs (ex.Nothing s) 1 a h tt (omega arith)
begin_word_fine w.If s fs a h = within_fine 3 (k.Word w.If) fs (frame.in_if s ∷ fs, frame.want) (λ l. ((λ r. refl), (tt, h, l, tt, a), refl))
begin_word_fine w.For s fs a h = within_fine 3 (k.Word w.For) fs (fs, frame.open_for s) (λ l. ((λ r. refl), a, (h, l)))
begin_word_fine w.Map s fs a h = within_fine 3 (k.Word w.Map) fs (fs, frame.open_map s) (λ l. ((λ r. refl), a, (h, l)))
begin_word_fine w.Just s fs a h = within_fine 16 (k.Word w.Just) fs (frame.in_just s ∷ fs, frame.want) (λ l. ((λ r. refl), (tt, h, l, tt, a), refl))
begin_word_fine w.Many s fs a h = within_fine 16 (k.Word w.Many) fs (frame.in_many (repeat Biased s) ex.Free 0 ∷ fs, frame.want) (λ l.
    ((λ r. refl), (tt, h, l, tt, a), refl))
begin_word_fine w.ManyAll s fs a h = within_fine 16 (k.Word w.ManyAll) fs (frame.in_many (repeat Unbiased s) ex.Free 0 ∷ fs, frame.want) (λ l.
    ((λ r. refl), (tt, h, l, tt, a), refl))
begin_word_fine w.Optional s fs a h = within_fine 16 (k.Word w.Optional) fs (frame.in_optional (repeat Biased s) ∷ fs, frame.want) (λ l.
    ((λ r. refl), (tt, h, l, tt, a), refl))
begin_word_fine w.OptionalAll s fs a h = within_fine 16 (k.Word w.OptionalAll) fs (frame.in_optional (repeat Unbiased s) ∷ fs, frame.want) (λ l.
    ((λ r. refl), (tt, h, l, tt, a), refl))
begin_word_fine w.Block s fs a h = ((λ r. refl), a, h)
begin_word_fine w.First s fs a h = ((λ r. refl), a, h)
begin_word_fine w.Choose s fs a h = ((λ r. refl), a, h)
begin_word_fine w.Case s fs a h = ((λ r. refl), (tt, h, small fs, tt, a), refl)
begin_word_fine w.Let s fs a h = begin_let_fine s fs a h
begin_word_fine _ s fs a h = tt

begin_mark_fine : (o : Mark) (s : Span) (fs : List Frame) → AreFrames fs → wanted fs ≡ 1 → Steps fs frame.want (k.Mark o) (begin_mark o s fs)
begin_mark_fine m.Caret s fs a h = within_fine 3 (k.Mark m.Caret) fs (frame.in_pure s ∷ fs, frame.want) (λ l. ((λ r. refl), (tt, h, l, tt, a), refl))
begin_mark_fine m.Minus s fs a h = within_fine 14 (k.Mark m.Minus) fs (frame.in_prefix pre.Negate s ∷ fs, frame.want) (λ l.
    ((λ r. refl), (tt, h, l, tt, a), refl))
begin_mark_fine m.Bang s fs a h = within_fine 14 (k.Mark m.Bang) fs (frame.in_prefix pre.Not s ∷ fs, frame.want) (λ l. ((λ r. refl), (tt, h, l, tt, a), refl))
begin_mark_fine m.Tilde s fs a h = within_fine 14 (k.Mark m.Tilde) fs (frame.in_prefix pre.Complement s ∷ fs, frame.want) (λ l.
    ((λ r. refl), (tt, h, l, tt, a), refl))
begin_mark_fine m.OpenParen s fs a h = ((λ r. refl), (tt, h, small fs, tt, a), refl)
begin_mark_fine m.OpenBracket s fs a h = ((λ r. refl), (tt, h, small fs, tt, a), refl)
begin_mark_fine m.OpenBrace s fs a h = ((λ r. refl), a, h)
begin_mark_fine m.OpenUnion s fs a h = ((λ r. refl), a, h)
begin_mark_fine m.DollarBracket s fs a h = ((λ r. refl), (tt, h, small fs, tt, a), refl)
begin_mark_fine m.DollarDollar s fs a h = begin_result_fine s fs a h
begin_mark_fine m.CloseBracket s fs a h = close_array_fine s fs a h
begin_mark_fine m.DotDot s fs a h = begin_high_fine s fs a h
begin_mark_fine m.CloseParen s fs a h = close_low_fine s fs a h
begin_mark_fine _ s fs a h = tt

pub begin_fine : (x : Tok) (s : Span) (fs : List Frame) → AreFrames fs → wanted fs ≡ 1 → Steps fs frame.want x (begin x s fs)
begin_fine (k.Word o) s fs a h = begin_word_fine o s fs a h
begin_fine (k.Mark o) s fs a h = begin_mark_fine o s fs a h
begin_fine (k.Number v b d) s fs a h = has_one fs (ex.Num (number_at v b d s)) 1 a h tt (omega arith)
begin_fine (k.Char b) s fs a h = has_one fs (ex.Char b s) 1 a h tt (omega arith)
begin_fine (k.Text bs) s fs a h = has_one fs (ex.Text bs s) 1 a h tt (omega arith)
begin_fine (k.Upper x) s fs a h = has_one fs (ex.Upper (name_at x s)) 1 a h tt (omega arith)
begin_fine (k.Lower x) s fs a h = has_one fs (ex.Lower (name_at x s)) 1 a h tt (omega arith)
begin_fine (k.Class x) s fs a h = has_one fs (ex.Class (name_at x s)) 1 a h tt (omega arith)

-- ---- a token that goes on with an expression

apply_fine : (x : Tok) (s : Span) (e : ex.Expr) (n : ℕ) (fs : List Frame) → AreFrames fs → wanted fs ≡ 1 → least fs ≤ 16
    → Steps fs (frame.have (found e n)) x (apply x s (found e n) fs)
apply_fine x s (ex.Upper y) n fs a h l = shift (frame.in_call_grammar y [] 0 ∷ fs) fs frame.want (frame.have (found (ex.Upper y) n)) x
    (begin x s (frame.in_call_grammar y [] 0 ∷ fs)) (λ r. refl) (begin_fine x s (frame.in_call_grammar y [] 0 ∷ fs) (tt, h, l, tt, a) refl)
apply_fine x s (ex.Lower y) n fs a h l = shift (frame.in_call_value y [] 0 ∷ fs) fs frame.want (frame.have (found (ex.Lower y) n)) x
    (begin x s (frame.in_call_value y [] 0 ∷ fs)) (λ r. refl) (begin_fine x s (frame.in_call_value y [] 0 ∷ fs) (tt, h, l, tt, a) refl)
apply_fine x s _ n fs a h l = tt

above_fine : (n : ℕ) (x : Tok) (c : Found) (fs : List Frame) (z : State) → (n ≤ level c.expr → Steps fs (frame.have c) x (Some z))
    → Steps fs (frame.have c) x (if_above n c z)
above_fine n x c fs z h = tested fs (frame.have c) x (nat_le n (level c.expr)) (Some z) (λ e. h (le_of n (level c.expr) e))

infix_fine : (o : InfixOp) (c : Found) (fs : List Frame) → AreFrames fs → wanted fs ≡ 1 → IsExpr c.expr → least fs ≤ infix_level o
    → Steps fs (frame.have c) (infix_token o) (infix_with o c fs)
infix_fine o c fs a h i l = above_fine (left_level o) (infix_token o) c fs (frame.in_infix o c ∷ fs, frame.want) (λ g.
    ((λ r. refl), ((i, g), h, l, tt, a), refl))

extend_word_fine : (o : Word) (s : Span) (c : Found) (fs : List Frame) → AreFrames fs → wanted fs ≡ 1 → IsExpr c.expr → least fs ≤ binds (k.Word o)
    → Steps fs (frame.have c) (k.Word o) (extend_word o s c fs)
extend_word_fine w.Is s c fs a h i l = above_fine 4 (k.Word w.Is) c fs (fs, frame.want_shape c) (λ g. ((λ r. refl), a, ((i, g), h, l)))
extend_word_fine w.As s c fs a h i l = above_fine 15 (k.Word w.As) c fs (frame.in_cast cast.Lossless c ∷ fs, frame.want_type) (λ g.
    ((λ r. refl), ((i, g), h, l, tt, a), refl))
extend_word_fine w.AsCut s c fs a h i l = above_fine 15 (k.Word w.AsCut) c fs (frame.in_cast cast.Cut c ∷ fs, frame.want_type) (λ g.
    ((λ r. refl), ((i, g), h, l, tt, a), refl))
extend_word_fine w.AsFit s c fs a h i l = above_fine 15 (k.Word w.AsFit) c fs (frame.in_cast cast.Fit c ∷ fs, frame.want_type) (λ g.
    ((λ r. refl), ((i, g), h, l, tt, a), refl))
extend_word_fine o s c fs a h i l = apply_fine (k.Word o) s c.expr c.deep fs a h (omega arith)

extend_mark_fine : (o : Mark) (s : Span) (c : Found) (fs : List Frame) → AreFrames fs → wanted fs ≡ 1 → IsExpr c.expr → least fs ≤ binds (k.Mark o)
    → Steps fs (frame.have c) (k.Mark o) (extend_mark o s c fs)
extend_mark_fine m.Bar s c fs a h i l = infix_fine op.Either c fs a h i l
extend_mark_fine m.OrElse s c fs a h i l = infix_fine op.OrElse c fs a h i l
extend_mark_fine m.OrOr s c fs a h i l = infix_fine op.Or c fs a h i l
extend_mark_fine m.AndAnd s c fs a h i l = infix_fine op.And c fs a h i l
extend_mark_fine m.EqualEqual s c fs a h i l = infix_fine op.Equal c fs a h i l
extend_mark_fine m.NotEqual s c fs a h i l = infix_fine op.NotEqual c fs a h i l
extend_mark_fine m.Less s c fs a h i l = infix_fine op.Less c fs a h i l
extend_mark_fine m.LessEqual s c fs a h i l = infix_fine op.LessEqual c fs a h i l
extend_mark_fine m.Greater s c fs a h i l = infix_fine op.Greater c fs a h i l
extend_mark_fine m.GreaterEqual s c fs a h i l = infix_fine op.GreaterEqual c fs a h i l
extend_mark_fine m.BitOr s c fs a h i l = infix_fine op.BitOr c fs a h i l
extend_mark_fine m.BitXor s c fs a h i l = infix_fine op.BitXor c fs a h i l
extend_mark_fine m.BitAnd s c fs a h i l = infix_fine op.BitAnd c fs a h i l
extend_mark_fine m.ShiftLeft s c fs a h i l = infix_fine op.ShiftLeft c fs a h i l
extend_mark_fine m.ShiftRight s c fs a h i l = infix_fine op.ShiftRight c fs a h i l
extend_mark_fine m.Hash s c fs a h i l = infix_fine op.Append c fs a h i l
extend_mark_fine m.LessHash s c fs a h i l = infix_fine op.AppendWithin c fs a h i l
extend_mark_fine m.Plus s c fs a h i l = infix_fine op.Add c fs a h i l
extend_mark_fine m.Minus s c fs a h i l = infix_fine op.Subtract c fs a h i l
extend_mark_fine m.Star s c fs a h i l = infix_fine op.Multiply c fs a h i l
extend_mark_fine m.Slash s c fs a h i l = infix_fine op.Divide c fs a h i l
extend_mark_fine m.Percent s c fs a h i l = infix_fine op.Remainder c fs a h i l
extend_mark_fine m.Dot s c fs a h i l = above_fine 17 (k.Mark m.Dot) c fs (fs, frame.want_field c) (λ g. ((λ r. refl), a, ((i, g), h)))
extend_mark_fine o s c fs a h i l = apply_fine (k.Mark o) s c.expr c.deep fs a h (omega arith)

pub extend_fine : (x : Tok) (s : Span) (c : Found) (fs : List Frame) → AreFrames fs → wanted fs ≡ 1 → IsExpr c.expr → least fs ≤ binds x
    → Steps fs (frame.have c) x (extend x s c fs)
extend_fine (k.Word o) s c fs a h i l = extend_word_fine o s c fs a h i l
extend_fine (k.Mark o) s c fs a h i l = extend_mark_fine o s c fs a h i l
extend_fine x s c fs a h i l = apply_fine x s c.expr c.deep fs a h (omega arith)

-- ---- the last part of a form

pub args_each : (xs : List ex.Expr) (a : ex.Expr) (r : List Tok) → print_args (exprs_of (xs ++ a ∷ [])) r ≡ each_arg xs (print a r)
args_each [] a r = refl
args_each (b ∷ xs) a r = ap (print b) (args_each xs a r)

each_arg_more : (xs : List ex.Expr) (a : ex.Expr) (r : List Tok) → each_arg (xs ++ a ∷ []) r ≡ each_arg xs (print a r)
each_arg_more [] a r = refl
each_arg_more (b ∷ xs) a r = ap (print b) (each_arg_more xs a r)

atoms_more : (xs : List ex.Expr) (a : ex.Expr) → Atoms xs → IsExpr a → 17 ≤ level a → Atoms (xs ++ a ∷ [])
atoms_more [] a h i l = (i, l, tt)
atoms_more (b ∷ xs) a h i l = (h.0, h.1, atoms_more xs a h.2 i l)

are_atoms : (xs : List ex.Expr) → Atoms xs → AreAtoms (exprs_of xs)
are_atoms [] h = tt
are_atoms (a ∷ xs) h = (h.0, h.1, are_atoms xs h.2)

pub some_exprs : (xs : List ex.Expr) (a : ex.Expr) → SomeExprs (exprs_of (xs ++ a ∷ []))
some_exprs [] a = tt
some_exprs (b ∷ xs) a = tt

pub record Closes (f : Frame) (a u : Found) : Type 0 where
  pub text : (r : List Tok) → print u.expr r ≡ before f (print a.expr r)
  pub tree : IsExpr u.expr
  pub at : level u.expr ≡ form f
  pub kind : makes f ≡ 1

pub closes_fine : (f : Frame) (a : Found) → IsFrame f → IsExpr a.expr → hole f ≤ level a.expr → IfSome (closes f a) (λ u. Closes f a u)
closes_fine (frame.in_infix o c) a h i l = record { text = λ r. refl; tree = (h.0, i, h.1, l); at = refl; kind = refl }
closes_fine (frame.in_pure s) a h i l = record { text = λ r. refl; tree = (i, l); at = refl; kind = refl }
closes_fine (frame.in_else s c b) a h i l = record { text = λ r. refl; tree = (h.0, h.1, i, l); at = refl; kind = refl }
closes_fine (frame.in_for_body s x j ns b) a h i l = record { text = λ r. refl; tree = (h.0, h.1, i, l); at = refl; kind = refl }
closes_fine (frame.in_map_body s ns b) a h i l = record { text = λ r. refl; tree = (h, i, l); at = refl; kind = refl }
closes_fine (frame.in_prefix o s) a h i l = record { text = λ r. refl; tree = (i, l); at = refl; kind = refl }
closes_fine (frame.in_call_grammar x xs n) a h i l = record {
  text = λ r. ap (λ z. k.Upper x.text ∷ z) (args_each xs a.expr r);
  tree =
      (some_exprs xs a.expr, are_atoms (xs ++ a.expr ∷ []) (atoms_more xs a.expr h i l));
  at = refl;
  kind = refl;
}
closes_fine (frame.in_call_value x xs n) a h i l = record {
  text = λ r. ap (λ z. k.Lower x.text ∷ z) (args_each xs a.expr r);
  tree =
      (some_exprs xs a.expr, are_atoms (xs ++ a.expr ∷ []) (atoms_more xs a.expr h i l));
  at = refl;
  kind = refl;
}
closes_fine (frame.in_just s) a h i l = record { text = λ r. refl; tree = (i, l); at = refl; kind = refl }
closes_fine (frame.in_many o b n) a h i l = record { text = λ r. refl; tree = (h, i, l); at = refl; kind = refl }
closes_fine (frame.in_optional o) a h i l = record { text = λ r. refl; tree = (i, l); at = refl; kind = refl }
closes_fine _ a h i l = tt

-- another argument
pub argument_fine : (f : Frame) (x : Tok) (s : Span) (a : Found) (fs : List Frame) → AreFrames (f ∷ fs) → IsExpr a.expr → hole f ≤ level a.expr
    → Steps (f ∷ fs) (frame.have a) x (option_and_then (λ g. begin x s (g ∷ fs)) (with_argument f a))
argument_fine (frame.in_call_grammar y xs n) x s a fs h i l =
    let g = frame.in_call_grammar y (xs ++ a.expr ∷ []) (max n a.deep) in
    shift (g ∷ fs) (frame.in_call_grammar y xs n ∷ fs) frame.want (frame.have a) x (begin x s (g ∷ fs)) (λ r.
    ap (λ z. read fs (k.Upper y.text ∷ z)) (each_arg_more xs a.expr (x ∷ r)))
    (begin_fine x s (g ∷ fs) (atoms_more xs a.expr h.0 i l, h.1, h.2, tt, h.4) refl)
argument_fine (frame.in_call_value y xs n) x s a fs h i l =
    let g = frame.in_call_value y (xs ++ a.expr ∷ []) (max n a.deep) in
    shift (g ∷ fs) (frame.in_call_value y xs n ∷ fs) frame.want (frame.have a) x (begin x s (g ∷ fs)) (λ r.
    ap (λ z. read fs (k.Lower y.text ∷ z)) (each_arg_more xs a.expr (x ∷ r)))
    (begin_fine x s (g ∷ fs) (atoms_more xs a.expr h.0 i l, h.1, h.2, tt, h.4) refl)
argument_fine (frame.in_many o ex.Free n) x s a fs h i l =
    let g = frame.in_many o (ex.Exactly a.expr) a.deep in
    shift (g ∷ fs) (frame.in_many o ex.Free n ∷ fs) frame.want (frame.have a) x (begin x s (g ∷ fs)) (λ r.
    refl) (begin_fine x s (g ∷ fs) ((i, l), h.1, h.2, tt, h.4) refl)
argument_fine _ x s a fs h i l = tt
