-- How the nonterminals of expressions, the tokens that follow them and the holes of forms fit together.
use Rattle.std.proofs.Common.{◌≡◌, ℕ, ◌<◌, ◌≤◌, true, false, cond, nat_le, nat_eq, List, [], ◌∷◌, Option, Some, None, option_and_then, refl, ap, ◌∙◌, arith}
use Rattle.std.proofs.lemmas.Bool.Decides.{nat_tests}
use Rattle.ddl_base.specs.declared.span.Span.{Span}
use Rattle.ddl_token.specs.declared.token.Tok.{Tok}
use Rattle.ddl_tree.specs.declared.operator.InfixOp.{InfixOp}
use Rattle.ddl_tree.specs.declared.operator.InfixOp.TheVariants as op
use Rattle.ddl_tree.specs.ExprTree as ex
use Rattle.ddl_tree.specs.ExprTree.{expr_span}
use Rattle.ddl_tree.specs.ModuleTree.{Module}
use Rattle.ddl_tree.specs.Print.{print, infix_token}
use Rattle.ddl_tree.specs.Grammar.{infix_level, left_level, right_level, level}
use Rattle.ddl_tree.specs.Depth.{depth}
use Rattle.ddl_tree.specs.Spans.{Places, next, after, between, place}
use Rattle.ddl_reader.specs.Frames.{Frame, State, Found}
use Rattle.ddl_reader.specs.Frames as frame
use Rattle.ddl_reader.specs.StepType.{found}
use Rattle.ddl_reader.specs.StepExpr.{hole, least, binds, begin, if_within, if_above, infix_with, extend, with_argument, closes}
use Rattle.ddl_reader.specs.Step.{step_have, argue, closed, passes, goes, run, finish_have, finished, finish_body}
use Rattle.ddl_reader.proofs.Tokens.{seen}

-- the least that may not follow an expression, if it is to end there
abbrev pub limit : ex.Expr → ℕ
limit (ex.Infix o a b s) = right_level o
limit (ex.Pure a s) = 4
limit (ex.If c a b s) = 3
limit (ex.For x i ns l b s) = 3
limit (ex.Map ns l b s) = 3
limit (ex.Prefix o a s) = 14
limit (ex.CallGrammar x xs s) = 16
limit (ex.CallValue x xs s) = 16
limit (ex.Just a s) = 16
limit (ex.Many o n a s) = 16
limit (ex.Optional o a s) = 16
limit _ = 19

abbrev pub first_binds : List Tok → ℕ
first_binds [] = 0
first_binds (x ∷ xs) = binds x

-- what an expression is read to
abbrev pub expr_read : ex.Expr → Places → List Frame → List Tok → Option Module
expr_read a p fs r = run (seen r (place a p).1) (fs, frame.have (found (place a p).0 (depth a)))

-- the machine reads the expression wherever its nonterminal fits
abbrev pub Completes : ex.Expr → Type 0
Completes a = (fs : List Frame) (r : List Tok) (p : Places) → least fs ≤ level a → first_binds r < limit a
    → run (seen (print a r) p) (fs, frame.want) ≡ expr_read a p fs r

-- ---- operators

pub infix_binds : (o : InfixOp) → binds (infix_token o) ≡ infix_level o
infix_binds op.Either = refl
infix_binds op.OrElse = refl
infix_binds op.Or = refl
infix_binds op.And = refl
infix_binds op.Equal = refl
infix_binds op.NotEqual = refl
infix_binds op.Less = refl
infix_binds op.LessEqual = refl
infix_binds op.Greater = refl
infix_binds op.GreaterEqual = refl
infix_binds op.BitOr = refl
infix_binds op.BitXor = refl
infix_binds op.BitAnd = refl
infix_binds op.ShiftLeft = refl
infix_binds op.ShiftRight = refl
infix_binds op.Append = refl
infix_binds op.AppendWithin = refl
infix_binds op.Add = refl
infix_binds op.Subtract = refl
infix_binds op.Multiply = refl
infix_binds op.Divide = refl
infix_binds op.Remainder = refl

pub infix_extends : (o : InfixOp) (s : Span) (a : Found) (fs : List Frame) → extend (infix_token o) s a fs ≡ infix_with o a fs
infix_extends op.Either s a fs = refl
infix_extends op.OrElse s a fs = refl
infix_extends op.Or s a fs = refl
infix_extends op.And s a fs = refl
infix_extends op.Equal s a fs = refl
infix_extends op.NotEqual s a fs = refl
infix_extends op.Less s a fs = refl
infix_extends op.LessEqual s a fs = refl
infix_extends op.Greater s a fs = refl
infix_extends op.GreaterEqual s a fs = refl
infix_extends op.BitOr s a fs = refl
infix_extends op.BitXor s a fs = refl
infix_extends op.BitAnd s a fs = refl
infix_extends op.ShiftLeft s a fs = refl
infix_extends op.ShiftRight s a fs = refl
infix_extends op.Append s a fs = refl
infix_extends op.AppendWithin s a fs = refl
infix_extends op.Add s a fs = refl
infix_extends op.Subtract s a fs = refl
infix_extends op.Multiply s a fs = refl
infix_extends op.Divide s a fs = refl
infix_extends op.Remainder s a fs = refl

pub op_fits : (o : InfixOp) → (1 ≤ infix_level o) × (infix_level o ≤ 13) × (infix_level o ≤ left_level o) × (infix_level o ≤ right_level o)
    × (right_level o ≤ 14)
op_fits op.Either = (omega arith, omega arith, omega arith, omega arith, omega arith)
op_fits op.OrElse = (omega arith, omega arith, omega arith, omega arith, omega arith)
op_fits op.Or = (omega arith, omega arith, omega arith, omega arith, omega arith)
op_fits op.And = (omega arith, omega arith, omega arith, omega arith, omega arith)
op_fits op.Equal = (omega arith, omega arith, omega arith, omega arith, omega arith)
op_fits op.NotEqual = (omega arith, omega arith, omega arith, omega arith, omega arith)
op_fits op.Less = (omega arith, omega arith, omega arith, omega arith, omega arith)
op_fits op.LessEqual = (omega arith, omega arith, omega arith, omega arith, omega arith)
op_fits op.Greater = (omega arith, omega arith, omega arith, omega arith, omega arith)
op_fits op.GreaterEqual = (omega arith, omega arith, omega arith, omega arith, omega arith)
op_fits op.BitOr = (omega arith, omega arith, omega arith, omega arith, omega arith)
op_fits op.BitXor = (omega arith, omega arith, omega arith, omega arith, omega arith)
op_fits op.BitAnd = (omega arith, omega arith, omega arith, omega arith, omega arith)
op_fits op.ShiftLeft = (omega arith, omega arith, omega arith, omega arith, omega arith)
op_fits op.ShiftRight = (omega arith, omega arith, omega arith, omega arith, omega arith)
op_fits op.Append = (omega arith, omega arith, omega arith, omega arith, omega arith)
op_fits op.AppendWithin = (omega arith, omega arith, omega arith, omega arith, omega arith)
op_fits op.Add = (omega arith, omega arith, omega arith, omega arith, omega arith)
op_fits op.Subtract = (omega arith, omega arith, omega arith, omega arith, omega arith)
op_fits op.Multiply = (omega arith, omega arith, omega arith, omega arith, omega arith)
op_fits op.Divide = (omega arith, omega arith, omega arith, omega arith, omega arith)
op_fits op.Remainder = (omega arith, omega arith, omega arith, omega arith, omega arith)

op_above : (o : InfixOp) (n : ℕ) → 4 ≤ n → n ≤ infix_level o → n < right_level o
op_above op.Either n h i = omega arith
op_above op.OrElse n h i = omega arith
op_above op.Or n h i = omega arith
op_above op.And n h i = omega arith
op_above op.Equal n h i = omega arith
op_above op.NotEqual n h i = omega arith
op_above op.Less n h i = omega arith
op_above op.LessEqual n h i = omega arith
op_above op.Greater n h i = omega arith
op_above op.GreaterEqual n h i = omega arith
op_above op.BitOr n h i = omega arith
op_above op.BitXor n h i = omega arith
op_above op.BitAnd n h i = omega arith
op_above op.ShiftLeft n h i = omega arith
op_above op.ShiftRight n h i = omega arith
op_above op.Append n h i = omega arith
op_above op.AppendWithin n h i = omega arith
op_above op.Add n h i = omega arith
op_above op.Subtract n h i = omega arith
op_above op.Multiply n h i = omega arith
op_above op.Divide n h i = omega arith
op_above op.Remainder n h i = omega arith

-- ---- expressions

pub limit_above : (a : ex.Expr) → level a ≤ limit a
limit_above (ex.Infix o a b s) = (op_fits o).3
limit_above (ex.Pure a s) = omega arith
limit_above (ex.If c a b s) = omega arith
limit_above (ex.For x i ns l b s) = omega arith
limit_above (ex.Map ns l b s) = omega arith
limit_above (ex.Is a f s) = omega arith
limit_above (ex.Prefix o a s) = omega arith
limit_above (ex.Cast o a t s) = omega arith
limit_above (ex.CallGrammar x xs s) = omega arith
limit_above (ex.CallValue x xs s) = omega arith
limit_above (ex.Just a s) = omega arith
limit_above (ex.Many o n a s) = omega arith
limit_above (ex.Optional o a s) = omega arith
limit_above (ex.Select a x s) = omega arith
limit_above (ex.Num n) = omega arith
limit_above (ex.Char b s) = omega arith
limit_above (ex.Text bs s) = omega arith
limit_above (ex.True s) = omega arith
limit_above (ex.False s) = omega arith
limit_above (ex.Nothing s) = omega arith
limit_above (ex.Upper x) = omega arith
limit_above (ex.Lower x) = omega arith
limit_above (ex.Class x) = omega arith
limit_above (ex.Set c s) = omega arith
limit_above (ex.Paren a t s) = omega arith
limit_above (ex.Array xs s) = omega arith
limit_above (ex.RecordOf bs s) = omega arith
limit_above (ex.Tag x s) = omega arith
limit_above (ex.TagWith x a s) = omega arith
limit_above (ex.Block is s) = omega arith
limit_above (ex.Choice o xs s) = omega arith
limit_above (ex.Case a xs s) = omega arith

above : (a : ex.Expr) (n : ℕ) → 4 ≤ n → n ≤ 13 → n ≤ level a → n < limit a
above (ex.Infix o a b s) v h g j = op_above o v h j
above (ex.Pure a s) v h g j = omega arith
above (ex.If c a b s) v h g j = omega arith
above (ex.For x i ns l b s) v h g j = omega arith
above (ex.Map ns l b s) v h g j = omega arith
above (ex.Is a f s) v h g j = omega arith
above (ex.Prefix o a s) v h g j = omega arith
above (ex.Cast o a t s) v h g j = omega arith
above (ex.CallGrammar x xs s) v h g j = omega arith
above (ex.CallValue x xs s) v h g j = omega arith
above (ex.Just a s) v h g j = omega arith
above (ex.Many o n a s) v h g j = omega arith
above (ex.Optional o a s) v h g j = omega arith
above (ex.Select a x s) v h g j = omega arith
above (ex.Num n) v h g j = omega arith
above (ex.Char b s) v h g j = omega arith
above (ex.Text bs s) v h g j = omega arith
above (ex.True s) v h g j = omega arith
above (ex.False s) v h g j = omega arith
above (ex.Nothing s) v h g j = omega arith
above (ex.Upper x) v h g j = omega arith
above (ex.Lower x) v h g j = omega arith
above (ex.Class x) v h g j = omega arith
above (ex.Set c s) v h g j = omega arith
above (ex.Paren a t s) v h g j = omega arith
above (ex.Array xs s) v h g j = omega arith
above (ex.RecordOf bs s) v h g j = omega arith
above (ex.Tag x s) v h g j = omega arith
above (ex.TagWith x a s) v h g j = omega arith
above (ex.Block is s) v h g j = omega arith
above (ex.Choice o xs s) v h g j = omega arith
above (ex.Case a xs s) v h g j = omega arith

-- an operator ends its left side
pub left_ends : (o : InfixOp) (a : ex.Expr) → left_level o ≤ level a → infix_level o < limit a
left_ends op.Either a l = let e = limit_above a in omega arith
left_ends op.OrElse a l = let e = limit_above a in omega arith
left_ends op.Or a l = above a 4 (omega arith) (omega arith) l
left_ends op.And a l = above a 5 (omega arith) (omega arith) l
left_ends op.Equal a l = let e = limit_above a in omega arith
left_ends op.NotEqual a l = let e = limit_above a in omega arith
left_ends op.Less a l = let e = limit_above a in omega arith
left_ends op.LessEqual a l = let e = limit_above a in omega arith
left_ends op.Greater a l = let e = limit_above a in omega arith
left_ends op.GreaterEqual a l = let e = limit_above a in omega arith
left_ends op.BitOr a l = above a 7 (omega arith) (omega arith) l
left_ends op.BitXor a l = above a 8 (omega arith) (omega arith) l
left_ends op.BitAnd a l = above a 9 (omega arith) (omega arith) l
left_ends op.ShiftLeft a l = above a 10 (omega arith) (omega arith) l
left_ends op.ShiftRight a l = above a 10 (omega arith) (omega arith) l
left_ends op.Append a l = above a 11 (omega arith) (omega arith) l
left_ends op.AppendWithin a l = above a 11 (omega arith) (omega arith) l
left_ends op.Add a l = above a 12 (omega arith) (omega arith) l
left_ends op.Subtract a l = above a 12 (omega arith) (omega arith) l
left_ends op.Multiply a l = above a 13 (omega arith) (omega arith) l
left_ends op.Divide a l = above a 13 (omega arith) (omega arith) l
left_ends op.Remainder a l = above a 13 (omega arith) (omega arith) l

pub level_some : (a : ex.Expr) → 1 ≤ level a
level_some (ex.Infix o a b s) = (op_fits o).0
level_some (ex.Pure a s) = omega arith
level_some (ex.If c a b s) = omega arith
level_some (ex.For x i ns l b s) = omega arith
level_some (ex.Map ns l b s) = omega arith
level_some (ex.Is a f s) = omega arith
level_some (ex.Prefix o a s) = omega arith
level_some (ex.Cast o a t s) = omega arith
level_some (ex.CallGrammar x xs s) = omega arith
level_some (ex.CallValue x xs s) = omega arith
level_some (ex.Just a s) = omega arith
level_some (ex.Many o n a s) = omega arith
level_some (ex.Optional o a s) = omega arith
level_some (ex.Select a x s) = omega arith
level_some (ex.Num n) = omega arith
level_some (ex.Char b s) = omega arith
level_some (ex.Text bs s) = omega arith
level_some (ex.True s) = omega arith
level_some (ex.False s) = omega arith
level_some (ex.Nothing s) = omega arith
level_some (ex.Upper x) = omega arith
level_some (ex.Lower x) = omega arith
level_some (ex.Class x) = omega arith
level_some (ex.Set c s) = omega arith
level_some (ex.Paren a t s) = omega arith
level_some (ex.Array xs s) = omega arith
level_some (ex.RecordOf bs s) = omega arith
level_some (ex.Tag x s) = omega arith
level_some (ex.TagWith x a s) = omega arith
level_some (ex.Block is s) = omega arith
level_some (ex.Choice o xs s) = omega arith
level_some (ex.Case a xs s) = omega arith

pub level_placed : (a : ex.Expr) (p : Places) → level (place a p).0 ≡ level a
level_placed (ex.Infix o a b s) p = refl
level_placed (ex.Pure a s) p = refl
level_placed (ex.If c a b s) p = refl
level_placed (ex.For x i ns l b s) p = refl
level_placed (ex.Map ns l b s) p = refl
level_placed (ex.Is a f s) p = refl
level_placed (ex.Prefix o a s) p = refl
level_placed (ex.Cast o a t s) p = refl
level_placed (ex.CallGrammar x xs s) p = refl
level_placed (ex.CallValue x xs s) p = refl
level_placed (ex.Just a s) p = refl
level_placed (ex.Many o n a s) p = refl
level_placed (ex.Optional o a s) p = refl
level_placed (ex.Select a x s) p = refl
level_placed (ex.Num n) p = refl
level_placed (ex.Char b s) p = refl
level_placed (ex.Text bs s) p = refl
level_placed (ex.True s) p = refl
level_placed (ex.False s) p = refl
level_placed (ex.Nothing s) p = refl
level_placed (ex.Upper x) p = refl
level_placed (ex.Lower x) p = refl
level_placed (ex.Class x) p = refl
level_placed (ex.Set c s) p = refl
level_placed (ex.Paren a t s) p = refl
level_placed (ex.Array xs s) p = refl
level_placed (ex.RecordOf bs s) p = refl
level_placed (ex.Tag x s) p = refl
level_placed (ex.TagWith x a s) p = refl
level_placed (ex.Block is s) p = refl
level_placed (ex.Choice o xs s) p = refl
level_placed (ex.Case a xs s) p = refl

pub expr_span_placed : (a : ex.Expr) (p : Places) → expr_span (place a p).0 ≡ between p (place a p).1
expr_span_placed (ex.Infix o a b s) p = refl
expr_span_placed (ex.Pure a s) p = refl
expr_span_placed (ex.If c a b s) p = refl
expr_span_placed (ex.For x i ns l b s) p = refl
expr_span_placed (ex.Map ns l b s) p = refl
expr_span_placed (ex.Is a f s) p = refl
expr_span_placed (ex.Prefix o a s) p = refl
expr_span_placed (ex.Cast o a t s) p = refl
expr_span_placed (ex.CallGrammar x xs s) p = refl
expr_span_placed (ex.CallValue x xs s) p = refl
expr_span_placed (ex.Just a s) p = refl
expr_span_placed (ex.Many o n a s) p = refl
expr_span_placed (ex.Optional o a s) p = refl
expr_span_placed (ex.Select a x s) p = refl
expr_span_placed (ex.Num n) p = refl
expr_span_placed (ex.Char b s) p = refl
expr_span_placed (ex.Text bs s) p = refl
expr_span_placed (ex.True s) p = refl
expr_span_placed (ex.False s) p = refl
expr_span_placed (ex.Nothing s) p = refl
expr_span_placed (ex.Upper x) p = refl
expr_span_placed (ex.Lower x) p = refl
expr_span_placed (ex.Class x) p = refl
expr_span_placed (ex.Set c s) p = refl
expr_span_placed (ex.Paren a t s) p = refl
expr_span_placed (ex.Array xs s) p = refl
expr_span_placed (ex.RecordOf bs s) p = refl
expr_span_placed (ex.Tag x s) p = refl
expr_span_placed (ex.TagWith x a s) p = refl
expr_span_placed (ex.Block is s) p = refl
expr_span_placed (ex.Choice o xs s) p = refl
expr_span_placed (ex.Case a xs s) p = refl

-- ---- tests

le_true : (a b : ℕ) → a ≤ b → nat_le a b ≡ true
le_true a b h = grind (arith, nat_tests)

gt_false : (a b : ℕ) → b < a → nat_le a b ≡ false
gt_false a b h = grind (arith, nat_tests)

lt_no_eq : (a b : ℕ) → a < b → nat_eq a b ≡ false
lt_no_eq a b h = grind (arith, nat_tests)

eq_true : (a b : ℕ) → a ≡ b → nat_eq a b ≡ true
eq_true a b h = grind (arith, nat_tests)

pub within : (n : ℕ) (fs : List Frame) (z : State) → least fs ≤ n → if_within n fs z ≡ Some z
within n fs z h = ap (λ t. cond t (Some z) None) (le_true (least fs) n h)

pub is_above : (n : ℕ) (a : Found) (z : State) → n ≤ level a.expr → if_above n a z ≡ Some z
is_above n a z h = ap (λ t. cond t (Some z) None) (le_true n (level a.expr) h)

-- ---- steps

pub step_extends : (fs : List Frame) (a : Found) (x : Tok) (s : Span) → least fs ≤ binds x → step_have fs a x s ≡ extend x s a fs
step_extends [] a x s h = ap (λ t. cond t (extend x s a []) None) (le_true 1 (binds x) h)
step_extends (f ∷ fs) a x s h =
    ap (λ t. cond t (extend x s a (f ∷ fs)) (cond (nat_eq (binds x) 16) (argue f x s a fs) (closed (closes f a) (λ b. step_have fs b x s) (passes f x s a fs))))
    (le_true (hole f) (binds x) h)

step_closes : (f : Frame) (fs : List Frame) (a u : Found) (x : Tok) (s : Span) → closes f a ≡ Some u → binds x < hole f → binds x < 16
    → step_have (f ∷ fs) a x s ≡ step_have fs u x s
step_closes f fs a u x s e h i =
    ap (λ t. cond t (extend x s a (f ∷ fs)) (cond (nat_eq (binds x) 16) (argue f x s a fs) (closed (closes f a) (λ b. step_have fs b x s) (passes f x s a fs))))
    (gt_false (hole f) (binds x) h)
    ∙ ap (λ t. cond t (argue f x s a fs) (closed (closes f a) (λ b. step_have fs b x s) (passes f x s a fs))) (lt_no_eq (binds x) 16 i)
    ∙ ap (λ o. closed o (λ b. step_have fs b x s) (passes f x s a fs)) e

-- a form ends with its last part, where what follows does not go on with it
pub close_right : (f : Frame) (fs : List Frame) (a u : Found) (r : List Tok) (p : Places) → closes f a ≡ Some u → first_binds r < hole f → first_binds r < 16
    → run (seen r p) (f ∷ fs, frame.have a) ≡ run (seen r p) (fs, frame.have u)
close_right f fs a u [] p e h i = ap (λ o. finished o (λ b. finish_have fs b) (finish_body f a fs)) e
close_right f fs a u (x ∷ xs) p e h i = ap (goes (run (seen xs (after p)))) (step_closes f fs a u x (next p) e h i)

pub step_argues : (f g : Frame) (fs : List Frame) (a : Found) (x : Tok) (s : Span) → with_argument f a ≡ Some g → hole f ≡ 17 → binds x ≡ 16
    → step_have (f ∷ fs) a x s ≡ begin x s (g ∷ fs)
step_argues f g fs a x s e h i =
    let more : binds x < hole f = omega arith in
    ap (λ t. cond t (extend x s a (f ∷ fs)) (cond (nat_eq (binds x) 16) (argue f x s a fs) (closed (closes f a) (λ b. step_have fs b x s) (passes f x s a fs))))
    (gt_false (hole f) (binds x) more)
    ∙ ap (λ t. cond t (argue f x s a fs) (closed (closes f a) (λ b. step_have fs b x s) (passes f x s a fs))) (eq_true (binds x) 16 i)
    ∙ ap (option_and_then (λ g. begin x s (g ∷ fs))) e
