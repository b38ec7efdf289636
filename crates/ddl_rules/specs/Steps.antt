-- How elaboration goes on.
use Rattle.std.specs.Prelude.{◌≡◌, ℕ, List, [], ◌++◌, take, Option, Some, None}
use Rattle.std.proofs.Math.ListN.{set}
use Rattle.ddl_base.specs.declared.span.Span.{Span}
use Rattle.ddl_rules.specs.declared.elaboration.Elaboration.{Elaboration}
use Rattle.ddl_rules.specs.Asks.{Ask, State, Env, wants, unit_type}
use Rattle.ddl_rules.specs.Views.{asks_of, state_of, env_of}

-- after these asks, in this state, with these names in scope
pub record GoesOn (asks : List Ask) (state : State) (env : Env) (old now : Elaboration) : Type 0 where
  pub asked : asks_of now ≡ asks_of old ++ asks
  pub stated : state_of now ≡ state
  pub scoped : env_of now ≡ env

-- these asks were added, and nothing else changed
abbrev pub Asks : List Ask → Elaboration → Elaboration → Type 0
Asks asks old now = GoesOn asks (state_of old) (env_of old) old now

-- the ask that stands where another one will: it asks nothing
abbrev pub held : Span → Ask
held s = wants unit_type unit_type s

-- an ask now stands in the place of another
pub record Fills (slot : ℕ) (ask : Ask) (old now : Elaboration) : Type 0 where
  pub filled : asks_of now ≡ set (asks_of old) slot ask
  pub stated : state_of now ≡ state_of old
  pub scoped : env_of now ≡ env_of old

-- so it is, where a place was held
abbrev pub IsFilled : Option ℕ → Ask → Elaboration → Elaboration → Type 0
IsFilled None ask old now = Asks [] old now
IsFilled (Some slot) ask old now = Fills slot ask old now

-- the names beyond the first so many have left the scope
pub record Leaves (scope : ℕ) (old now : Elaboration) : Type 0 where
  pub asked : asks_of now ≡ asks_of old
  pub stated : state_of now ≡ state_of old
  pub scoped : env_of now ≡ record { locals = take scope (env_of old).locals; known = (env_of old).known }
