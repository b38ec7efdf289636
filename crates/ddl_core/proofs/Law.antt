-- A larger depth gives the same outcome, or goes on where the smaller one is Deep: one line a form.
use Rattle.std.proofs.Common.{◌≡◌, ℕ, zero, suc, ◌+◌, ◌-◌, ◌≤◌, List, [], ◌∷◌, ◌++◌, sym, ◌∙◌, subst, arith}
use Rattle.ddl_types.specs.Value.{Value, Stream}
use Rattle.ddl_types.specs.Outcome.{Outcome}
use Rattle.ddl_types.specs.Growth.{Grows, at_deep, at_end, at_fault, at_stuck, at_tick, at_miss, at_parse}
use Rattle.ddl_types.proofs.Growing.{grows_same, grows_on, bind_grows, both_grows, leave_grows, grown_is_same}
use Rattle.ddl_ops.specs.Patterns.{matched}
use Rattle.ddl_ops.specs.Valued.{given}
use Rattle.ddl_ops.proofs.Rising.{rises_same, then_parse_grows, outcome_at_grows}
use Rattle.ddl_core.specs.Attempt.{Attempt}
use Rattle.ddl_core.specs.Core.{Core, Form, Alternatives, Function, give, perform, none, bind, both, attempt, call, case_, loop, again, inside, none_left, when}
use Rattle.ddl_core.specs.Meaning.{Lower, Current, outside, turning, next_turn, core, core_case, function_at, level, Run}
use Rattle.ddl_core.specs.Laws.{OneOutcome}

attempt_grows : {o o' p p' : Outcome} (k k' : Value → Stream → Outcome) →
    Grows o o' → ((v : Value) (s : Stream) → Grows (k v s) (k' v s)) → Grows p p' → Grows (Attempt o k p) (Attempt o' k' p')
attempt_grows k k' at_deep e h = at_deep
attempt_grows k k' at_end e h = h
attempt_grows k k' at_fault e h = at_fault
attempt_grows k k' at_stuck e h = at_stuck
attempt_grows k k' (at_tick g) e h = at_tick (attempt_grows k k' g e h)
attempt_grows k k' (at_miss g) e h = at_miss (attempt_grows k k' g e h)
attempt_grows k k' (at_parse g) e h = bind_grows k k' (at_parse g) e

-- one depth gives at least what the one below it gives
pub record LowerGrows (l l' : Lower) : Type 0 where
  pub call : (f : ℕ) (vs : List Value) (s : Stream) → Grows (l.call f vs s) (l'.call f vs s)
  pub turn : (body : Form) (around vs : List Value) (s : Stream) → Grows (l.turn body around vs s) (l'.turn body around vs s)

module _ (l l' : Lower) (h : LowerGrows l l') where
  next_grows : (current : Current) (vs : List Value) (s : Stream) → Grows (next_turn l current vs s) (next_turn l' current vs s)
  next_grows outside vs s = at_stuck
  next_grows (turning body around) vs s = h.turn body around vs s

  mutual
    core_grows : (g : Form) (current : Current) (env : List Value) (s : Stream) → Grows (core l g current env s) (core l' g current env s)
    core_grows (give x) current env s = grows_same _
    core_grows (perform op xs span) current env s = grows_same _
    core_grows none current env s = grows_same _
    core_grows (bind ty g k) current env s = bind_grows _ _ (core_grows g outside env s) (λ v t. core_grows k current (v ∷ env) t)
    core_grows (both g k) current env s = at_tick (both_grows (core_grows g current env s) (core_grows k current env s))
    core_grows (attempt ty g k r) current env s =
        at_tick (attempt_grows _ _ (leave_grows (core_grows g outside env s)) (λ v t. core_grows k current (v ∷ env) t) (core_grows r current env s))
    core_grows (call f xs) current env s = at_tick (then_parse_grows _ _ (rises_same _) (λ vs. leave_grows (h.call f vs s)))
    core_grows (case_ x as_ other) current env s = at_tick
        (then_parse_grows _ _ (rises_same _) (λ v. case_grows as_ v current env s (core_grows other current env s)))
    core_grows (loop tys xs body) current env s = then_parse_grows _ _ (rises_same _) (λ vs. h.turn body env vs s)
    core_grows (again xs) current env s = then_parse_grows _ _ (rises_same _) (λ vs. next_grows current vs s)
    core_grows (inside d g) current env s = core_grows g current env s

    case_grows : (as_ : Alternatives) (v : Value) (current : Current) (env : List Value) (s : Stream) {o o' : Outcome} →
        Grows o o' → Grows (core_case l as_ v current env s o) (core_case l' as_ v current env s o')
    case_grows none_left v current env s k = k
    case_grows (when p ty g as_) v current env s k = outcome_at_grows (matched p v) _ _ (λ w. core_grows g current (w ∷ env) s)
        (case_grows as_ v current env s k)

level_grows : (fs : List Function) (n : ℕ) → LowerGrows (level fs n) (level fs (suc n))
level_grows fs zero = record { call = λ f vs s. at_deep; turn = λ body around vs s. at_deep }
level_grows fs (suc n) = record {
  call = λ f vs s. then_parse_grows _ _ (rises_same (given (function_at fs f))) (λ d.
      core_grows (level fs n) (level fs (suc n)) (level_grows fs n) d.body outside vs s);
  turn = λ body around vs s. at_tick (core_grows (level fs n) (level fs (suc n)) (level_grows fs n) body (turning body around) (vs ++ around) s);
}

-- one depth more
run_up : (n : ℕ) (program : Core) (s : Stream) → Grows (Run n program s) (Run (suc n) program s)
run_up n program s = at_tick ((level_grows program.functions n).call program.entry [] s)

run_far : (more n : ℕ) (program : Core) (s : Stream) → Grows (Run n program s) (Run (more + n) program s)
run_far zero n program s = let e : n ≡ zero + n = omega arith in subst (λ m. Grows (Run n program s) (Run m program s)) e (grows_same _)
run_far (suc more) n program s =
    let e : suc (more + n) ≡ suc more + n = omega arith in
    subst (λ m. Grows (Run n program s) (Run m program s)) e (grows_on (run_far more n program s) (run_up (more + n) program s))

pub run_law : (n m : ℕ) (program : Core) (s : Stream) → n ≤ m → Grows (Run n program s) (Run m program s)
run_law n m program s le = let e : (m - n) + n ≡ m = omega arith in subst (λ d. Grows (Run n program s) (Run d program s)) e (run_far (m - n) n program s)

-- two depths that are large enough give the same, as their sum does
pub one_outcome : OneOutcome
one_outcome n m program s whole_n whole_m =
    sym (grown_is_same (run_law n (n + m) program s (omega arith)) whole_n) ∙ grown_is_same (run_law m (n + m) program s (omega arith)) whole_m
