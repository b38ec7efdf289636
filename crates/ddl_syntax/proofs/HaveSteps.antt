-- The token after an expression, by what the innermost form makes of the expression.
use Rattle.std.proofs.Common.{◌≡◌, ◌≢◌, ◌<◌, ◌≤◌, ℕ, true, false, cond, nat_le, nat_eq, List, [], ◌∷◌, Some, None, ap, sym, subst, ◌∙◌, arith}
use Rattle.std.proofs.lemmas.Bool.Decides.{nat_tests}
use Rattle.ddl_base.specs.declared.span.Span.{Span}
use Rattle.ddl_token.specs.declared.token.Tok.{Tok}
use Rattle.ddl_reader.specs.Frames.{Frame, Found}
use Rattle.ddl_reader.specs.StepExpr.{hole, least, binds, extend, closes}
use Rattle.ddl_reader.specs.Step.{step_have, argue, closed, passes}

le_true : (a b : ℕ) → a ≤ b → nat_le a b ≡ true
le_true a b h = grind (arith, nat_tests)

gt_false : (a b : ℕ) → b < a → nat_le a b ≡ false
gt_false a b h = grind (arith, nat_tests)

eq_true : (a b : ℕ) → a ≡ b → nat_eq a b ≡ true
eq_true a b h = grind (arith, nat_tests)

eq_false : (a b : ℕ) → a ≢ b → nat_eq a b ≡ false
eq_false a b h = grind (arith, nat_tests)

pub have_extends : (fs : List Frame) (a : Found) (x : Tok) (s : Span) → least fs ≤ binds x → step_have fs a x s ≡ extend x s a fs
have_extends [] a x s h = ap (λ t. cond t (extend x s a []) None) (le_true 1 (binds x) h)
have_extends (f ∷ fs) a x s h =
    ap (λ t. cond t (extend x s a (f ∷ fs)) (cond (nat_eq (binds x) 16) (argue f x s a fs) (closed (closes f a) (λ b. step_have fs b x s) (passes f x s a fs))))
    (le_true (hole f) (binds x) h)

pub have_ends : (fs : List Frame) (a : Found) (x : Tok) (s : Span) → fs ≡ [] → binds x < least fs → step_have fs a x s ≡ None
have_ends [] a x s e h = ap (λ t. cond t (extend x s a []) None) (gt_false 1 (binds x) h)
have_ends (f ∷ fs) a x s e h = cc

-- a token that does not go on with the expression
goes_out : (f : Frame) (fs : List Frame) (a : Found) (x : Tok) (s : Span) → binds x < hole f
    → step_have (f ∷ fs) a x s ≡ cond (nat_eq (binds x) 16) (argue f x s a fs) (closed (closes f a) (λ b. step_have fs b x s) (passes f x s a fs))
goes_out f fs a x s h =
    ap (λ t. cond t (extend x s a (f ∷ fs)) (cond (nat_eq (binds x) 16) (argue f x s a fs) (closed (closes f a) (λ b. step_have fs b x s) (passes f x s a fs))))
    (gt_false (hole f) (binds x) h)

-- a token that ends the form, or stands before its next part
comes_after : (f : Frame) (fs : List Frame) (a : Found) (x : Tok) (s : Span) → binds x < hole f → binds x ≢ 16
    → step_have (f ∷ fs) a x s ≡ closed (closes f a) (λ b. step_have fs b x s) (passes f x s a fs)
comes_after f fs a x s h i =
    goes_out f fs a x s h ∙ ap (λ t. cond t (argue f x s a fs) (closed (closes f a) (λ b. step_have fs b x s) (passes f x s a fs))) (eq_false (binds x) 16 i)

pub have_argues : (f : Frame) (fs gs : List Frame) (a : Found) (x : Tok) (s : Span) → gs ≡ f ∷ fs → binds x < least gs → binds x ≡ 16
    → step_have gs a x s ≡ argue f x s a fs
have_argues f fs gs a x s e h i = subst (λ z. binds x < least z → step_have z a x s ≡ argue f x s a fs) (sym e) (λ o. goes_out f fs a x s o
    ∙ ap (λ t. cond t (argue f x s a fs) (closed (closes f a) (λ b. step_have fs b x s) (passes f x s a fs))) (eq_true (binds x) 16 i)) h

pub have_closes : (f : Frame) (fs gs : List Frame) (a u : Found) (x : Tok) (s : Span) → gs ≡ f ∷ fs → binds x < least gs → binds x ≢ 16 → closes f a ≡ Some u
    → step_have gs a x s ≡ step_have fs u x s
have_closes f fs gs a u x s e h i w = subst (λ z. binds x < least z → step_have z a x s ≡ step_have fs u x s) (sym e) (λ o. comes_after f fs a x s o i
    ∙ ap (λ z. closed z (λ b. step_have fs b x s) (passes f x s a fs)) w) h

pub have_passes : (f : Frame) (fs gs : List Frame) (a : Found) (x : Tok) (s : Span) → gs ≡ f ∷ fs → binds x < least gs → binds x ≢ 16 → closes f a ≡ None
    → step_have gs a x s ≡ passes f x s a fs
have_passes f fs gs a x s e h i w = subst (λ z. binds x < least z → step_have z a x s ≡ passes f x s a fs) (sym e) (λ o. comes_after f fs a x s o i
    ∙ ap (λ z. closed z (λ b. step_have fs b x s) (passes f x s a fs)) w) h

pub ruleset have_steps = (have_extends, have_ends, have_argues, have_closes, have_passes)
