-- From one token to the next, what the code has read is what the machine has read.
use Rattle.std.proofs.Common.{◌≡◌, ◌≤◌, ◌<◌, ◌+◌, ℕ, zero, suc, get_or, take, drop, length, List, [], ◌∷◌, ◌++◌, Option, Some, None, option_and_then, Result}
use Rattle.std.proofs.Common.{Ok, Err, refl, ap, subst, sym, ◌∙◌, arith}
use Rattle.ddl_token.specs.declared.token.Token.{Token}
use Rattle.ddl_reader.specs.Depths.{lowest}
use Rattle.ddl_reader.specs.Frames.{Seen, State, at_import}
use Rattle.ddl_reader.specs.Step.{begun, reach, step_at, IsStuck}
use Rattle.ddl_reader.proofs.Exact.{some_state}
use Rattle.ddl_syntax.specs.Answer.{place_of}
use Rattle.ddl_syntax.specs.Parses.{seen_of, seen_in, Advances, Completes, Leads, Parses, Stands, Within}
use Rattle.ddl_states.specs.StackView.{forms}
use Rattle.ddl_states.specs.declared.stack.Stack.{Stack}
use Rattle.ddl_states.specs.declared.focus.Focus as code_focus
use Rattle.ddl_syntax.specs.declared.error.SyntaxError as code_error
use Rattle.ddl_syntax.specs.declared.error.SyntaxError.TheVariants as e
use Rattle.ddl_tree.specs.declared.module.Module as code_module

reach_more_step : (x : Seen) (xs ys : List Seen) (y : State) (o : Option State) → ((v : State) → reach xs v ≡ Some y → reach (xs ++ ys) v ≡ reach ys y)
    → option_and_then (reach xs) o ≡ Some y → option_and_then (reach (xs ++ ys)) o ≡ reach ys y
reach_more_step x xs ys y None go e = cc
reach_more_step x xs ys y (Some v) go e = go v e

reach_more : (xs ys : List Seen) (z y : State) → reach xs z ≡ Some y → reach (xs ++ ys) z ≡ reach ys y
reach_more [] ys z y e = ap (reach ys) (some_state z y e)
reach_more (x ∷ xs) ys z y e = reach_more_step x xs ys y (step_at z.1 z.0 x.kind x.at) (λ v e. reach_more xs ys v y e) e

taken : (m k : ℕ) (ts : List Token) (t : Token) → k < length ts → t ≡ get_or ts k t → take (suc k) (seen_in m ts) ≡ take k (seen_in m ts) ++ seen_of m t ∷ []
taken m k [] t h e = absurd (omega arith)
taken m zero (u ∷ ts) t h e = ap (λ v. seen_of m v ∷ []) (sym e)
taken m (suc k) (u ∷ ts) t h e = ap (λ xs. seen_of m u ∷ xs) (taken m k ts t (omega arith) e)

left : (m k : ℕ) (ts : List Token) (t : Token) → k < length ts → t ≡ get_or ts k t → drop k (seen_in m ts) ≡ seen_of m t ∷ drop (suc k) (seen_in m ts)
left m k [] t h e = absurd (omega arith)
left m zero (u ∷ ts) t h e = ap (λ v. seen_of m v ∷ seen_in m ts) (sym e)
left m (suc k) (u ∷ ts) t h e = left m k ts t (omega arith) e

pub stands_next : (m k : ℕ) (ts : List Token) (t : Token) (z y : State) → k < length ts → t ≡ get_or ts k t → Stands (seen_in m ts) k z
    → step_at z.1 z.0 t.kind (place_of m t) ≡ Some y → lowest y ≤ 200 → Stands (seen_in m ts) (k + 1) y
stands_next m k ts t z y h is at goes low =
    let more : k + 1 ≡ suc k = omega arith in (
      ap (λ n. reach (take n (seen_in m ts)) begun) more ∙ ap (λ xs. reach xs begun) (taken m k ts t h is)
          ∙ reach_more (take k (seen_in m ts)) (seen_of m t ∷ []) begun z at.0 ∙ ap (option_and_then (reach [])) goes,
      low,
    )

-- ---- what the code does is what the machine does

pub started : (m : ℕ) (ts : List Token) (stack : Stack) → forms stack ≡ begun.0 → Stands (seen_in m ts) 0 (forms stack, at_import)
started m ts stack e = (ap (λ fs. Some (fs, at_import)) (sym e), subst (λ fs. lowest (fs, at_import) ≤ 200) (sym e) (omega arith))

pub after_limit : (m k : ℕ) (t : Token) (z y : State) (r : Result code_focus.Focus code_error.SyntaxError) (stack : Stack)
    → step_at z.1 z.0 t.kind (place_of m t) ≡ Some y → Within k y r stack → Advances m k t z r stack
after_limit m k t z y (Ok f) stack goes w = (goes ∙ ap (λ y. Some y) w.0, subst (λ y. lowest y ≤ 200) w.0 w.1)
after_limit m k t z y (Err (e.Unexpected j)) stack goes w = absurd w
after_limit m k t z y (Err (e.TooNested j)) stack goes w = (w.0, (y, goes, w.1))
after_limit m k t z y (Err e.NoMemory) stack goes w = absurd w

-- where a token is not read, the whole answer is known
pub stopped : (m k n : ℕ) (ts : List Token) (t : Token) (z : State) (why : code_error.SyntaxError) (stack : Stack) → n ≡ k → k < length ts → t ≡ get_or ts k t
    → Stands (seen_in m ts) k z → Advances m n t z (Err why) stack → Parses m ts (Err why)
stopped m k n ts t z (e.Unexpected j) stack same h is at stops =
    let stuck : IsStuck z (drop k (seen_in m ts)) = subst (λ xs. IsStuck z xs) (sym (left m k ts t h is)) stops.1 in
    let here : Parses m ts (Err (e.Unexpected k)) = (omega arith, (z, at, stuck)) in
    subst (λ j. Parses m ts (Err (e.Unexpected j))) (sym (stops.0 ∙ same)) here
stopped m k n ts t z (e.TooNested j) stack same h is at stops =
    let y = stops.1.0 in
    let leads : Leads (drop k (seen_in m ts)) z y = subst (λ xs. Leads xs z y) (sym (left m k ts t h is)) stops.1.1 in
    let here : Parses m ts (Err (e.TooNested k)) = (h, (z, y, at, leads, stops.1.2)) in
    subst (λ j. Parses m ts (Err (e.TooNested j))) (sym (stops.0 ∙ same)) here
stopped m k n ts t z e.NoMemory stack same h is at stops = tt

none_left : (m : ℕ) (ts : List Token) → drop (length ts) (seen_in m ts) ≡ []
none_left m [] = refl
none_left m (t ∷ ts) = none_left m ts

-- the end of the tokens
pub ended : (m k n : ℕ) (ts : List Token) (z : State) (r : Result code_module.Module code_error.SyntaxError) → k ≡ length ts → n ≡ length ts
    → Stands (seen_in m ts) k z → Completes n z r → Parses m ts r
ended m k n ts z (Ok a) all count at ends = (z, subst (λ k. Stands (seen_in m ts) k z) all at, ends)
ended m k n ts z (Err (e.Unexpected j)) all count at ends =
    let stuck : IsStuck z (drop (length ts) (seen_in m ts)) = subst (λ xs. IsStuck z xs) (sym (none_left m ts)) ends.1 in
    let here : Parses m ts (Err (e.Unexpected (length ts))) = (omega arith, (z, subst (λ k. Stands (seen_in m ts) k z) all at, stuck)) in
    subst (λ j. Parses m ts (Err (e.Unexpected j))) (sym (ends.0 ∙ count)) here
ended m k n ts z (Err (e.TooNested j)) all count at ends = absurd ends
ended m k n ts z (Err e.NoMemory) all count at ends = tt
