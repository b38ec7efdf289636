-- What keeps a demand that is neither true nor false.
use Rattle.std.specs.Prelude.{◌≡◌, ℕ, Bool, true}
use Rattle.ddl_types.specs.Types.{Sub}
use Rattle.ddl_judging.specs.Demands.{Demand, may_be_kept, on_demand}
use Rattle.ddl_conditions.specs.Growing.{Group}
use Rattle.ddl_conditions.specs.InDemand.{InDemand}
use Rattle.ddl_conditions.specs.Standing.{Stands}

-- each variable of a set stands in the types of the group
abbrev pub AllStand : Group → Sub → (ℕ → Bool) → Type 0
AllStand g f is_in = (v : ℕ) → is_in v ≡ true → Stands g.shapes g.roots f v

-- a demand's form may be kept, and each variable of its types stands
pub record IsKeptForm (g : Group) (f : Sub) (d : Demand) : Type 0 where
  pub form : may_be_kept d ≡ true
  pub stand : (v : ℕ) → InDemand v (on_demand f d) → Stands g.shapes g.roots f v
