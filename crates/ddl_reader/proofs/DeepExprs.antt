-- Each token of an expression keeps the depths, and makes no module shallower: the first, and those that go on with it.
use Rattle.std.proofs.Common.{◌≡◌, ℕ, ◌+◌, ◌≤◌, max, nat_le, List, [], ◌∷◌, ◌++◌, Some, IfSome, option_and_then, refl, arith}
use Rattle.ddl_base.specs.declared.span.Span.{Span}
use Rattle.ddl_token.specs.declared.token.Tok.{Tok}
use Rattle.ddl_token.specs.declared.token.Tok.TheVariants as k
use Rattle.ddl_token.specs.declared.word.Word.{Word}
use Rattle.ddl_token.specs.declared.word.Word.TheVariants as w
use Rattle.ddl_token.specs.declared.mark.Mark.{Mark}
use Rattle.ddl_token.specs.declared.mark.Mark.TheVariants as m
use Rattle.ddl_tree.specs.declared.operator.InfixOp.{InfixOp}
use Rattle.ddl_tree.specs.declared.operator.InfixOp.TheVariants as op
use Rattle.ddl_tree.specs.ExprTree as ex
use Rattle.ddl_tree.specs.Grammar.{left_level, level}
use Rattle.ddl_tree.specs.Depth.{depth}
use Rattle.ddl_reader.specs.Frames.{Frame, State, Found}
use Rattle.ddl_reader.specs.Frames as frame
use Rattle.ddl_reader.specs.StepType.{found, number_at}
use Rattle.ddl_reader.specs.StepExpr.{least, name_at, if_within, begin_result, begin_let, close_array, begin_high, close_low, begin_word, begin_mark, begin}
use Rattle.ddl_reader.specs.StepExpr.{apply, if_above, infix_with, extend_word, extend_mark, extend, with_argument, closes}
use Rattle.ddl_reader.specs.Depths.{around_in, low, need_expr}
use Rattle.ddl_reader.proofs.Deep.{IsDeep, IsDeepFrame, AreDeep, Goes, Deeps, weaken, tested_deep, low_grows, paren_most, need_least, exprs_deep}

-- ---- the first token

-- an expression of one level
one_deep : (fs : List Frame) (e : ex.Expr) → AreDeep fs → depth e ≡ 1 → Goes (low fs (need_expr fs)) (fs, frame.have (found e 1))
one_deep fs e d h = (d, omega arith, low_grows fs (need_expr fs) 1 (need_least fs))

-- a form opens, whose shallowest part makes it this deep
opens : (fs : List Frame) (n : ℕ) → 1 ≤ n → low fs (need_expr fs) ≤ low fs n
opens fs n h = low_grows fs (need_expr fs) n (omega (arith, need_least fs))

within_deep : (a : ℕ) (fs : List Frame) (z : State) → Goes (low fs (need_expr fs)) z → Deeps (low fs (need_expr fs)) (if_within a fs z)
within_deep a fs z d = tested_deep (low fs (need_expr fs)) (nat_le (least fs) a) (Some z) d

begin_result_deep : (s : Span) (fs : List Frame) → AreDeep fs → Deeps (low fs (need_expr fs)) (begin_result s fs)
begin_result_deep s (frame.in_block from is n frame.plainly ∷ fs) d = (d.1, d.0, omega arith)
begin_result_deep s _ d = tt

begin_let_deep : (s : Span) (fs : List Frame) → AreDeep fs → Deeps (low fs (need_expr fs)) (begin_let s fs)
begin_let_deep s (frame.in_block from is n frame.plainly ∷ fs) d = (d.1, d.0, omega arith)
begin_let_deep s _ d = tt

close_array_deep : (s : Span) (fs : List Frame) → AreDeep fs → Deeps (low fs (need_expr fs)) (close_array s fs)
close_array_deep s (frame.in_array from [] n ∷ fs) d = let h = d.0 in (d.1, refl, low_grows fs (1 + max n 0) 1 (omega arith))
close_array_deep s _ d = tt

begin_high_deep : (s : Span) (fs : List Frame) → AreDeep fs → Deeps (low fs (need_expr fs)) (begin_high s fs)
begin_high_deep s (frame.in_paren from ∷ frame.in_many r ex.Free n ∷ fs) d = let h = d.1.0 in ((tt, d.1.1), tt, low_grows fs (1 + max n 1) 2 (omega arith))
begin_high_deep s _ d = tt

close_low_deep : (s : Span) (fs : List Frame) → AreDeep fs → Deeps (low fs (need_expr fs)) (close_low s fs)
close_low_deep s (frame.in_between r from a ∷ fs) d = ((d.0, d.1), tt, omega arith)
close_low_deep s _ d = tt

begin_word_deep : (o : Word) (s : Span) (fs : List Frame) → AreDeep fs → Deeps (low fs (need_expr fs)) (begin_word o s fs)
begin_word_deep w.True s fs d = one_deep fs (ex.True s) d refl
begin_word_deep w.False s fs d = one_deep fs (ex.False s) d refl
begin_word_deep w.Nothing s fs d = one_deep fs (ex.Nothing s) d refl
begin_word_deep w.If s fs d = within_deep 3 fs _ ((tt, d), tt, opens fs 2 (omega arith))
begin_word_deep w.For s fs d = within_deep 3 fs _ (d, tt, opens fs 2 (omega arith))
begin_word_deep w.Map s fs d = within_deep 3 fs _ (d, tt, opens fs 2 (omega arith))
begin_word_deep w.Just s fs d = within_deep 16 fs _ ((tt, d), tt, opens fs 2 (omega arith))
begin_word_deep w.Many s fs d = within_deep 16 fs _ ((refl, d), tt, opens fs 2 (omega arith))
begin_word_deep w.ManyAll s fs d = within_deep 16 fs _ ((refl, d), tt, opens fs 2 (omega arith))
begin_word_deep w.Optional s fs d = within_deep 16 fs _ ((tt, d), tt, opens fs 2 (omega arith))
begin_word_deep w.OptionalAll s fs d = within_deep 16 fs _ ((tt, d), tt, opens fs 2 (omega arith))
begin_word_deep w.Block s fs d = (d, tt, opens fs 2 (omega arith))
begin_word_deep w.First s fs d = (d, tt, opens fs 2 (omega arith))
begin_word_deep w.Choose s fs d = (d, tt, opens fs 2 (omega arith))
begin_word_deep w.Case s fs d = ((tt, d), tt, opens fs 2 (omega arith))
begin_word_deep w.Let s fs d = begin_let_deep s fs d
begin_word_deep _ s fs d = tt

begin_mark_deep : (o : Mark) (s : Span) (fs : List Frame) → AreDeep fs → Deeps (low fs (need_expr fs)) (begin_mark o s fs)
begin_mark_deep m.Caret s fs d = within_deep 3 fs _ ((tt, d), tt, opens fs 2 (omega arith))
begin_mark_deep m.Minus s fs d = within_deep 14 fs _ ((tt, d), tt, opens fs 2 (omega arith))
begin_mark_deep m.Bang s fs d = within_deep 14 fs _ ((tt, d), tt, opens fs 2 (omega arith))
begin_mark_deep m.Tilde s fs d = within_deep 14 fs _ ((tt, d), tt, opens fs 2 (omega arith))
begin_mark_deep m.OpenParen s fs d = ((tt, d), tt, opens fs (around_in (frame.in_paren s) fs 1) (paren_most s fs 1))
begin_mark_deep m.OpenBracket s fs d = ((refl, d), tt, opens fs 1 (omega arith))
begin_mark_deep m.OpenBrace s fs d = (d, tt, opens fs 1 (omega arith))
begin_mark_deep m.OpenUnion s fs d = (d, tt, opens fs 1 (omega arith))
begin_mark_deep m.DollarBracket s fs d = ((tt, d), tt, opens fs 2 (omega arith))
begin_mark_deep m.DollarDollar s fs d = begin_result_deep s fs d
begin_mark_deep m.CloseBracket s fs d = close_array_deep s fs d
begin_mark_deep m.DotDot s fs d = begin_high_deep s fs d
begin_mark_deep m.CloseParen s fs d = close_low_deep s fs d
begin_mark_deep _ s fs d = tt

pub begin_deep : (x : Tok) (s : Span) (fs : List Frame) → AreDeep fs → Deeps (low fs (need_expr fs)) (begin x s fs)
begin_deep (k.Word o) s fs d = begin_word_deep o s fs d
begin_deep (k.Mark o) s fs d = begin_mark_deep o s fs d
begin_deep (k.Number v b n) s fs d = one_deep fs (ex.Num (number_at v b n s)) d refl
begin_deep (k.Char b) s fs d = one_deep fs (ex.Char b s) d refl
begin_deep (k.Text bs) s fs d = one_deep fs (ex.Text bs s) d refl
begin_deep (k.Upper x) s fs d = one_deep fs (ex.Upper (name_at x s)) d refl
begin_deep (k.Lower x) s fs d = one_deep fs (ex.Lower (name_at x s)) d refl
begin_deep (k.Class x) s fs d = one_deep fs (ex.Class (name_at x s)) d refl

-- ---- a token that goes on with an expression

apply_deep : (x : Tok) (s : Span) (e : ex.Expr) (n : ℕ) (fs : List Frame) → AreDeep fs → n ≡ depth e → Deeps (low fs n) (apply x s (found e n) fs)
apply_deep x s (ex.Upper y) n fs d h = weaken (low fs n) (low fs 2) (begin x s (frame.in_call_grammar y [] 0 ∷ fs)) (low_grows fs n 2 (omega arith))
    (begin_deep x s (frame.in_call_grammar y [] 0 ∷ fs) (refl, d))
apply_deep x s (ex.Lower y) n fs d h = weaken (low fs n) (low fs 2) (begin x s (frame.in_call_value y [] 0 ∷ fs)) (low_grows fs n 2 (omega arith))
    (begin_deep x s (frame.in_call_value y [] 0 ∷ fs) (refl, d))
apply_deep x s _ n fs d h = tt

above_deep : (n : ℕ) (c : Found) (fs : List Frame) (z : State) → Goes (low fs c.deep) z → Deeps (low fs c.deep) (if_above n c z)
above_deep n c fs z d = tested_deep (low fs c.deep) (nat_le n (level c.expr)) (Some z) d

infix_deep : (o : InfixOp) (c : Found) (fs : List Frame) → AreDeep fs → IsDeep c → Deeps (low fs c.deep) (infix_with o c fs)
infix_deep o c fs d h = above_deep (left_level o) c fs _ ((h, d), tt, low_grows fs c.deep (1 + max c.deep 1) (omega arith))

cast_opens : (fs : List Frame) (n : ℕ) → low fs n ≤ low fs (1 + max n 1)
cast_opens fs n = low_grows fs n (1 + max n 1) (omega arith)

extend_word_deep : (o : Word) (s : Span) (c : Found) (fs : List Frame) → AreDeep fs → IsDeep c → Deeps (low fs c.deep) (extend_word o s c fs)
extend_word_deep w.Is s c fs d h = above_deep 4 c fs _ (d, h, low_grows fs c.deep (1 + c.deep) (omega arith))
extend_word_deep w.As s c fs d h = above_deep 15 c fs _ ((h, d), tt, cast_opens fs c.deep)
extend_word_deep w.AsCut s c fs d h = above_deep 15 c fs _ ((h, d), tt, cast_opens fs c.deep)
extend_word_deep w.AsFit s c fs d h = above_deep 15 c fs _ ((h, d), tt, cast_opens fs c.deep)
extend_word_deep o s c fs d h = apply_deep (k.Word o) s c.expr c.deep fs d h

extend_mark_deep : (o : Mark) (s : Span) (c : Found) (fs : List Frame) → AreDeep fs → IsDeep c → Deeps (low fs c.deep) (extend_mark o s c fs)
extend_mark_deep m.Bar s c fs d h = infix_deep op.Either c fs d h
extend_mark_deep m.OrElse s c fs d h = infix_deep op.OrElse c fs d h
extend_mark_deep m.OrOr s c fs d h = infix_deep op.Or c fs d h
extend_mark_deep m.AndAnd s c fs d h = infix_deep op.And c fs d h
extend_mark_deep m.EqualEqual s c fs d h = infix_deep op.Equal c fs d h
extend_mark_deep m.NotEqual s c fs d h = infix_deep op.NotEqual c fs d h
extend_mark_deep m.Less s c fs d h = infix_deep op.Less c fs d h
extend_mark_deep m.LessEqual s c fs d h = infix_deep op.LessEqual c fs d h
extend_mark_deep m.Greater s c fs d h = infix_deep op.Greater c fs d h
extend_mark_deep m.GreaterEqual s c fs d h = infix_deep op.GreaterEqual c fs d h
extend_mark_deep m.BitOr s c fs d h = infix_deep op.BitOr c fs d h
extend_mark_deep m.BitXor s c fs d h = infix_deep op.BitXor c fs d h
extend_mark_deep m.BitAnd s c fs d h = infix_deep op.BitAnd c fs d h
extend_mark_deep m.ShiftLeft s c fs d h = infix_deep op.ShiftLeft c fs d h
extend_mark_deep m.ShiftRight s c fs d h = infix_deep op.ShiftRight c fs d h
extend_mark_deep m.Hash s c fs d h = infix_deep op.Append c fs d h
extend_mark_deep m.LessHash s c fs d h = infix_deep op.AppendWithin c fs d h
extend_mark_deep m.Plus s c fs d h = infix_deep op.Add c fs d h
extend_mark_deep m.Minus s c fs d h = infix_deep op.Subtract c fs d h
extend_mark_deep m.Star s c fs d h = infix_deep op.Multiply c fs d h
extend_mark_deep m.Slash s c fs d h = infix_deep op.Divide c fs d h
extend_mark_deep m.Percent s c fs d h = infix_deep op.Remainder c fs d h
extend_mark_deep m.Dot s c fs d h = above_deep 17 c fs _ (d, h, low_grows fs c.deep (1 + c.deep) (omega arith))
extend_mark_deep o s c fs d h = apply_deep (k.Mark o) s c.expr c.deep fs d h

pub extend_deep : (x : Tok) (s : Span) (c : Found) (fs : List Frame) → AreDeep fs → IsDeep c → Deeps (low fs c.deep) (extend x s c fs)
extend_deep (k.Word o) s c fs d h = extend_word_deep o s c fs d h
extend_deep (k.Mark o) s c fs d h = extend_mark_deep o s c fs d h
extend_deep x s c fs d h = apply_deep x s c.expr c.deep fs d h

-- ---- the last part of a form

-- the form is as deep as its number, and the module stays as deep
pub record ClosesDeep (f : Frame) (a u : Found) (fs : List Frame) : Type 0 where
  pub tree : IsDeep u
  pub around : around_in f fs a.deep ≡ u.deep

pub closes_deep : (f : Frame) (a : Found) (fs : List Frame) → IsDeepFrame f → IsDeep a → IfSome (closes f a) (λ u. ClosesDeep f a u fs)
closes_deep (frame.in_infix o c) a fs h i = record { tree = omega arith; around = refl }
closes_deep (frame.in_pure s) a fs h i = record { tree = omega arith; around = refl }
closes_deep (frame.in_else s c b) a fs h i = let x = h.0 in let y = h.1 in record { tree = omega arith; around = refl }
closes_deep (frame.in_for_body s x j ns b) a fs h i = let p = h.0 in let q = h.1 in record { tree = omega arith; around = refl }
closes_deep (frame.in_map_body s ns b) a fs h i = record { tree = omega arith; around = refl }
closes_deep (frame.in_prefix o s) a fs h i = record { tree = omega arith; around = refl }
closes_deep (frame.in_call_grammar x xs n) a fs h i = record { tree = omega (arith, exprs_deep xs a.expr); around = refl }
closes_deep (frame.in_call_value x xs n) a fs h i = record { tree = omega (arith, exprs_deep xs a.expr); around = refl }
closes_deep (frame.in_just s) a fs h i = record { tree = omega arith; around = refl }
closes_deep (frame.in_many o b n) a fs h i = record { tree = omega arith; around = refl }
closes_deep (frame.in_optional o) a fs h i = record { tree = omega arith; around = refl }
closes_deep _ a fs h i = tt

-- another argument
pub argument_deep : (f : Frame) (x : Tok) (s : Span) (a : Found) (fs : List Frame) → AreDeep (f ∷ fs) → IsDeep a
    → Deeps (low (f ∷ fs) a.deep) (option_and_then (λ g. begin x s (g ∷ fs)) (with_argument f a))
argument_deep (frame.in_call_grammar y xs n) x s a fs d i =
    let g = frame.in_call_grammar y (xs ++ a.expr ∷ []) (max n a.deep) in
    let h = d.0 in
    weaken (low fs (1 + max n a.deep)) (low fs (1 + max (max n a.deep) 1)) (begin x s (g ∷ fs))
    (low_grows fs (1 + max n a.deep) (1 + max (max n a.deep) 1) (omega arith)) (begin_deep x s (g ∷ fs) (omega (arith, exprs_deep xs a.expr), d.1))
argument_deep (frame.in_call_value y xs n) x s a fs d i =
    let g = frame.in_call_value y (xs ++ a.expr ∷ []) (max n a.deep) in
    let h = d.0 in
    weaken (low fs (1 + max n a.deep)) (low fs (1 + max (max n a.deep) 1)) (begin x s (g ∷ fs))
    (low_grows fs (1 + max n a.deep) (1 + max (max n a.deep) 1) (omega arith)) (begin_deep x s (g ∷ fs) (omega (arith, exprs_deep xs a.expr), d.1))
argument_deep (frame.in_many r ex.Free n) x s a fs d i =
    let g = frame.in_many r (ex.Exactly a.expr) a.deep in
    let h = d.0 in
    weaken (low fs (1 + max n a.deep)) (low fs (1 + max a.deep 1)) (begin x s (g ∷ fs)) (low_grows fs (1 + max n a.deep) (1 + max a.deep 1) (omega arith))
    (begin_deep x s (g ∷ fs) (i, d.1))
argument_deep _ x s a fs d i = tt
