-- What demands have given where the list of equations has grown to its end.
use Rattle.std.specs.Prelude.{◌≡◌, ℕ, List, Contains, Some, true}
use Rattle.ddl_types.specs.Types.{Sub, Head}
use Rattle.ddl_unify.specs.Equations.{Solves}
use Rattle.ddl_judging.specs.Demands.{Asked, adds, subjects}
use Rattle.ddl_growing.specs.Giving.{gives}
use Rattle.ddl_growing.specs.Heads.{heads_of}
use Rattle.ddl_conditions.specs.Growing.{Group, IsReady}

-- the heads of a demand's subjects are known, and what it gives at these heads, from some variable on, is solved
pub record HasGiven (g : Group) (f : Sub) (a : Asked) : Type 0 where
  pub heads : List Head
  pub from : ℕ
  pub known : heads_of (subjects a.what) f ≡ Some heads
  pub solved : Solves f (gives g.shapes a.what heads from).equations

-- each demand that may add equations, and whose subjects have heads, has given its equations
abbrev pub HaveGiven : Group → Sub → Type 0
HaveGiven g f = (a : Asked) → Contains g.asked a → adds a.what ≡ true → IsReady f a → HasGiven g f a
