-- Equations between types, and their solutions.
use Rattle.std.specs.Prelude.{◌≡◌, ◌≢◌, ℕ, List, [], ◌∷◌, ◌⊎◌}
use Rattle.ddl_types.specs.Types.{Ty, Ty.var, Ty.con, Sub, on, Below}
use Rattle.ddl_unify.specs.Occurs.{count_all}

pub record Equation : Type 0 where
  pub left : Ty
  pub right : Ty

abbrev pub equal : Ty → Ty → Equation
equal l r = record { left = l; right = r }

-- a solution is a map that makes both sides of each equation equal
abbrev pub Solves : Sub → List Equation → Type 0
Solves f [] = Unit {0}
Solves f (e ∷ es) = (on e.left f ≡ on e.right f) × Solves f es

-- no map is a solution
abbrev pub Unsolvable : List Equation → Type 0
Unsolvable es = (f : Sub) → Solves f es → ⊥

-- a solution is most general where every other one is it followed by a further map
pub record MostGeneral (es : List Equation) (f : Sub) : Type 0 where
  pub solves : Solves f es
  pub general : (g : Sub) → Solves g es → (h : Sub) × ((n : ℕ) → g n ≡ on (f n) h)

-- the first type is a variable, the second a larger type that holds it
abbrev pub Holds : Ty → Ty → Type 0
Holds (var v) (con h ts) = count_all ts v ≢ 0
Holds (var v) (var w) = ⊥
Holds (con h ts) t = ⊥

-- one type is a variable, and the other a larger type that holds it
abbrev pub Endless : Ty → Ty → Type 0
Endless l r = Holds l r ⊎ Holds r l

-- each variable of the equations is below a number
abbrev pub EachBelow : List Equation → ℕ → Type 0
EachBelow [] n = Unit {0}
EachBelow (e ∷ es) n = Below e.left n × Below e.right n × EachBelow es n

-- no map makes the two equal
abbrev pub Apart : Ty → Ty → Type 0
Apart l r = (f : Sub) → on l f ≡ on r f → ⊥
