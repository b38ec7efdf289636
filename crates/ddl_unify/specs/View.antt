-- What the program's bindings and equations stand for.
use Rattle.std.specs.Prelude.{List, [], ◌∷◌, map}
use Rattle.ddl_types.specs.TyView.{ty_view}
use Rattle.ddl_unify.specs.declared.store.Bound.{Bound}
use Rattle.ddl_unify.specs.declared.store.Pair.{Pair}
use Rattle.ddl_unify.specs.Bindings.{Binding}
use Rattle.ddl_unify.specs.Equations.{Equation}

abbrev pub bound_view : Bound → Binding
bound_view b = record { from = b.from; to = ty_view b.to }

-- bindings put before others, one after another
abbrev pub onto : List Binding → List Bound → List Binding
onto bs [] = bs
onto bs (x ∷ xs) = onto (bound_view x ∷ bs) xs

-- the bindings of a list that holds the oldest first
abbrev pub bounds : List Bound → List Binding
bounds xs = onto [] xs

abbrev pub pair_view : Pair → Equation
pair_view p = record { left = ty_view p.left; right = ty_view p.right }

abbrev pub equations : List Pair → List Equation
equations ps = map pair_view ps
