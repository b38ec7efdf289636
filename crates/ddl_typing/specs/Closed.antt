-- Declarations of earlier groups: their types are over variables of their own.
use Rattle.std.specs.Prelude.{ℕ, zero, suc, List, [], ◌∷◌}
use Rattle.ddl_types.specs.Types.{Ty, Below}
use Rattle.ddl_types.specs.Conditions.{Condition, ConditionBelow}
use Rattle.ddl_rules.specs.Asks.{Env, Known}

abbrev pub EachIsBelow : List Ty → ℕ → Type 0
EachIsBelow [] n = Unit {0}
EachIsBelow (t ∷ ts) n = Below t n × EachIsBelow ts n

abbrev pub EachConditionBelow : List Condition → ℕ → Type 0
EachConditionBelow [] n = Unit {0}
EachConditionBelow (c ∷ cs) n = ConditionBelow n c × EachConditionBelow cs n

-- one with variables has types over these alone; one without is of the group, or has none at all
abbrev pub ClosesBy : ℕ → Known → Type 0
ClosesBy zero it = Unit {0}
ClosesBy (suc k) it = EachIsBelow it.params (suc k) × Below it.of (suc k) × EachConditionBelow it.conditions (suc k)

abbrev pub Closes : Known → Type 0
Closes it = ClosesBy it.vars it

abbrev pub AreClosed : Env → Type 0
AreClosed env = (d : ℕ) → Closes (env.known d)
