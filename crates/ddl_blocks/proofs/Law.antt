-- A larger budget gives the same outcome, or goes on where the smaller one is spent.
use Rattle.std.proofs.Common.{◌≡◌, ℕ, zero, suc, ◌+◌, ◌-◌, ◌≤◌, List, sym, ◌∙◌, subst, arith}
use Rattle.ddl_types.specs.Value.{Stream}
use Rattle.ddl_types.specs.Outcome.{Outcome, ends, ticks}
use Rattle.ddl_types.specs.Growth.{Grows, at_deep, at_tick, at_miss, at_parse}
use Rattle.ddl_types.proofs.Growing.{grows_same, grows_on, grown_is_same}
use Rattle.ddl_blocks.specs.Code.{Code, Function}
use Rattle.ddl_blocks.specs.State.{State, Stepped, on, ended, misses, parses, and_then}
use Rattle.ddl_blocks.specs.Machine.{step}
use Rattle.ddl_blocks.specs.Run.{run, first, Run}
use Rattle.ddl_blocks.specs.Laws.{OneRun, WithinBudget}

step_grows : (x : Stepped) (k k' : State → Outcome) → ((st : State) → Grows (k st) (k' st)) → Grows (and_then x k) (and_then x k')
step_grows (on st) k k' h = h st
step_grows (ended e) k k' h = grows_same (ends e)
step_grows (misses why source at span x) k k' h = at_miss (step_grows x k k' h)
step_grows (parses v s x) k k' h = at_parse (step_grows x k k' h)

-- one counted step more
run_grows : (fs : List Function) (n : ℕ) (st : State) → Grows (run fs n st) (run fs (suc n) st)
run_grows fs zero st = at_deep
run_grows fs (suc n) st = at_tick (step_grows (step fs st) (run fs n) (run fs (suc n)) (run_grows fs n))

run_up : (n : ℕ) (code : Code) (s : Stream) → Grows (Run n code s) (Run (suc n) code s)
run_up n code s = step_grows (first code s) (run code.functions n) (run code.functions (suc n)) (run_grows code.functions n)

run_far : (more n : ℕ) (code : Code) (s : Stream) → Grows (Run n code s) (Run (more + n) code s)
run_far zero n code s = let e : n ≡ zero + n = omega arith in subst (λ m. Grows (Run n code s) (Run m code s)) e (grows_same _)
run_far (suc more) n code s =
    let e : suc (more + n) ≡ suc more + n = omega arith in
    subst (λ m. Grows (Run n code s) (Run m code s)) e (grows_on (run_far more n code s) (run_up (more + n) code s))

pub run_law : (n m : ℕ) (code : Code) (s : Stream) → n ≤ m → Grows (Run n code s) (Run m code s)
run_law n m code s le = let e : (m - n) + n ≡ m = omega arith in subst (λ d. Grows (Run n code s) (Run d code s)) e (run_far (m - n) n code s)

-- two budgets that are large enough give the same, as their sum does
pub one_run : OneRun
one_run n m code s whole_n whole_m =
    sym (grown_is_same (run_law n (n + m) code s (omega arith)) whole_n) ∙ grown_is_same (run_law m (n + m) code s (omega arith)) whole_m

-- a run counts no more than its budget
step_within : (x : Stepped) (k : State → Outcome) (m : ℕ) → ((st : State) → ticks (k st) ≤ m) → ticks (and_then x k) ≤ m
step_within (on st) k m h = h st
step_within (ended e) k m h = omega arith
step_within (misses why source at span x) k m h = step_within x k m h
step_within (parses v s x) k m h = step_within x k m h

run_within : (fs : List Function) (m : ℕ) (st : State) → ticks (run fs m st) ≤ m
run_within fs zero st = omega arith
run_within fs (suc m) st = let h : ticks (and_then (step fs st) (run fs m)) ≤ m = step_within (step fs st) (run fs m) m (run_within fs m) in omega arith

pub within : WithinBudget
within m code s = step_within (first code s) (run code.functions m) m (run_within code.functions m)
