-- Why reading a type and solving end.
use Rattle.std.specs.Prelude.{ℕ, ◌+◌, ◌*◌, ◌==◌, if◌then◌else◌, List, [], ◌∷◌, zero, suc}
use Rattle.ddl_types.specs.Types.{Ty, Ty.var, Ty.con, Tys, Tys.none, Tys.more, on}
use Rattle.ddl_unify.specs.Occurs.{count, size}
use Rattle.ddl_unify.specs.Equations.{Equation}
use Rattle.ddl_unify.specs.Bindings.{Binding, solution}

-- the size of a type where each variable has a weight
abbrev mutual
  pub weighed : Ty → (ℕ → ℕ) → ℕ
  weighed (var n) w = w n
  weighed (con h ts) w = 1 + weighed_all ts w

  pub weighed_all : Tys → (ℕ → ℕ) → ℕ
  weighed_all none w = 0
  weighed_all (more t ts) w = weighed t w + weighed_all ts w

-- a bound variable weighs more than the type that it is bound to
abbrev pub cost : List Binding → ℕ → ℕ
cost [] n = 1
cost (b ∷ bs) n = cost bs n + count (solution bs n) b.from * (1 + weighed b.to (cost bs))

-- the size of what is to be solved, as it is read
abbrev pub weight : List Binding → List Equation → ℕ
weight bs [] = 0
weight bs (e ∷ es) = size (on e.left (solution bs)) + size (on e.right (solution bs)) + weight bs es

-- how many variables are not bound
abbrev pub zeros : List ℕ → ℕ
zeros [] = 0
zeros (p ∷ ps) = (if p == 0 then 1 else 0) + zeros ps

-- a bound of the steps that are left: a binding squares the size at most
abbrev pub steps : ℕ → ℕ → ℕ
steps zero s = s
steps (suc u) s = 1 + s + steps u (s * s)
