-- What Core means, at a depth.
use Rattle.std.specs.Prelude.{ℕ, zero, suc, List, [], ◌∷◌, ◌++◌, Option, Some, None}
use Rattle.ddl_types.specs.Value.{Value, Values, Stream, no_values, value}
use Rattle.ddl_types.specs.Outcome.{Outcome, End, Deep, Stuck, ends, tick, parsed}
use Rattle.ddl_types.specs.Joining.{Both, Bind, leave}
use Rattle.ddl_core.specs.Attempt.{Attempt}
use Rattle.ddl_ops.specs.Valued.{Given, gives, given, then_value, then_parse}
use Rattle.ddl_ops.specs.Patterns.{matched, outcome_at}
use Rattle.ddl_core.specs.Core.{Form, Alternatives, Function, Core, give, perform, none, bind, both, attempt, call, case_, loop, again, inside, none_left, when}
use Rattle.ddl_core.specs.Operations.{performed}

-- the value of a variable
abbrev pub at : List Value → ℕ → Option Value
at [] x = None
at (v ∷ vs) zero = Some v
at (v ∷ vs) (suc x) = at vs x

-- those of variables, in order
abbrev pub all_at : List Value → List ℕ → Given (List Value)
all_at env [] = gives []
all_at env (x ∷ xs) = then_value (given (at env x)) (λ v. then_value (all_at env xs) (λ vs. gives (v ∷ vs)))

-- values in order
abbrev pub listed : List Value → Values
listed [] = no_values
listed (v ∷ vs) = value v (listed vs)

-- the loop whose body a form ends: its body, and the variables around it
pub data Current : Type 0 where
  outside : Current
  turning : Form → List Value → Current

-- what calls and turns give at a depth: a function at its arguments, a turn of a loop with its values
pub record Lower : Type 0 where
  pub call : ℕ → List Value → Stream → Outcome
  pub turn : Form → List Value → List Value → Stream → Outcome

-- below the last depth everything is Deep
abbrev pub bottom : Lower
bottom = record { call = λ f vs s. ends Deep; turn = λ body around vs s. ends Deep }

-- the function of a number
abbrev pub function_at : List Function → ℕ → Option Function
function_at [] f = None
function_at (d ∷ ds) zero = Some d
function_at (d ∷ ds) (suc f) = function_at ds f

module _ (lower : Lower) where
  -- the next turn of the loop whose body a form ends; outside a loop there is none
  abbrev pub next_turn : Current → List Value → Stream → Outcome
  next_turn outside vs s = ends Stuck
  next_turn (turning body around) vs s = lower.turn body around vs s

  -- Ticks: one for each form but `bind`, `loop`, `again` and `inside`, one for each turn as it begins, and one before
  -- each parse that leaves a call or the left side of a biased choice.
  abbrev mutual
    -- the outcome of a form at the values of its variables
    pub core : Form → Current → List Value → Stream → Outcome
    core (give x) current env s = tick (then_parse (given (at env x)) (λ v. parsed v s))
    core (perform op xs span) current env s = tick (then_parse (all_at env xs) (λ vs. performed op (listed vs) span s))
    core none current env s = tick (ends End)
    core (bind ty g k) current env s = Bind (core g outside env s) (λ v t. core k current (v ∷ env) t)
    core (both l r) current env s = tick (Both (core l current env s) (core r current env s))
    core (attempt ty l k r) current env s = tick (Attempt (leave (core l outside env s)) (λ v t. core k current (v ∷ env) t) (core r current env s))
    core (call f xs) current env s = tick (then_parse (all_at env xs) (λ vs. leave (lower.call f vs s)))
    core (case_ x as_ other) current env s = tick (then_parse (given (at env x)) (λ v. core_case as_ v current env s (core other current env s)))
    core (loop tys xs body) current env s = then_parse (all_at env xs) (λ vs. lower.turn body env vs s)
    core (again xs) current env s = then_parse (all_at env xs) (λ vs. next_turn current vs s)
    core (inside d g) current env s = core g current env s

    -- the first alternative whose pattern the value has, else the other form
    pub core_case : Alternatives → Value → Current → List Value → Stream → Outcome → Outcome
    core_case none_left v current env s other = other
    core_case (when p ty g as_) v current env s other = outcome_at (matched p v) (λ w. core g current (w ∷ env) s) (core_case as_ v current env s other)

-- what calls and turns at this depth give
abbrev pub level : List Function → ℕ → Lower
level fs zero = bottom
level fs (suc n) = record {
  call = λ f vs s. then_parse (given (function_at fs f)) (λ d. core (level fs n) d.body outside vs s);
  turn = λ body around vs s. tick (core (level fs n) body (turning body around) (vs ++ around) s);
}

-- the entry's own call: one tick as it begins, and none for its parses
abbrev pub Run : ℕ → Core → Stream → Outcome
Run n program s = tick ((level program.functions n).call program.entry [] s)
