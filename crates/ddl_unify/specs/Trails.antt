-- A trail as it is seen, and what its methods do.
use Rattle.std.specs.Prelude.{◌≡◌, ℕ, ◌-◌, ◌<◌, ◌≤◌, List, [], ◌∷◌, ◌++◌, length, false}
use Rattle.ddl_types.specs.declared.ty.Ty as program
use Rattle.ddl_types.specs.Types.{Ty, Ty.var, Sub, on, Below}
use Rattle.ddl_unify.specs.declared.store.Bound.{Bound}
use Rattle.ddl_unify.specs.declared.trail.Trail.{Trail}
use Rattle.ddl_unify.specs.Bindings as b
use Rattle.ddl_unify.specs.Bindings.{Unbound, Sound}
use Rattle.ddl_unify.specs.Measures.{weighed, cost}
use Rattle.ddl_unify.specs.Occurs.{has}
use Rattle.ddl_unify.specs.View.{bounds}

-- the bindings, the newest first
abbrev pub bindings : Trail → List b.Binding
bindings t = bounds t.0

-- the map that the bindings stand for
abbrev pub solution : Trail → Sub
solution t = b.solution (bindings t)

-- how many variables there are
abbrev pub variables : Trail → ℕ
variables t = t.1

-- how many variables are not bound
abbrev pub free : Trail → ℕ
free t = t.1 - length t.0

-- no variable
abbrev pub no_trail : Trail
no_trail = ([], 0)

-- true of every trail: each binding was sound when it was made, and no variable is bound twice
pub record Whole (t : Trail) : Type 0 where
  pub sound : Sound (bindings t)
  pub fits : length t.0 ≤ variables t

-- a variable is bound to a type: it is read as that type is, and weighs more
pub record LeadsTo (t : Trail) (v : ℕ) (u : Ty) : Type 0 where
  pub same : on (var v) (solution t) ≡ on u (solution t)
  pub lighter : weighed u (cost (bindings t)) < cost (bindings t) v
  pub below : Below u (variables t)

-- a variable that is not bound may be bound to a type that does not hold it: the occurs check
pub record CanBind (t : Trail) (v : ℕ) (u : Ty) : Type 0 where
  pub free : Unbound v (bindings t)
  pub absent : has (on u (solution t)) v ≡ false
  pub within : v < variables t
  pub below : Below u (variables t)

-- one more binding
pub record Pushed (t : Trail) (v : ℕ) (u : program.Ty) (t2 : Trail) : Type 0 where
  pub is : t2 ≡ (t.0 ++ record { from = v; to = u } ∷ [], t.1)
  pub fits : length t.0 < variables t

-- the last binding, taken from the others
pub record Popped (v : ℕ) (xs ys : List Bound) : Type 0 where
  pub to : program.Ty
  pub is : xs ≡ ys ++ record { from = v; to = to } ∷ []

-- bindings that begin as others do
pub record Extends (a b : List Bound) : Type 0 where
  pub more : List Bound
  pub is : b ≡ a ++ more

-- as many variables, and more bindings
pub record Grows (t t2 : Trail) : Type 0 where
  pub same : variables t2 ≡ variables t
  pub extends : Extends t.0 t2.0

-- the bindings from the n-th on were taken back
pub record Back (n : ℕ) (t t2 : Trail) : Type 0 where
  pub grows : Grows t2 t
  pub shorter : length t2.0 ≡ n
