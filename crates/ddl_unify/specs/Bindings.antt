-- Bindings of variables, newest first, and the map that they stand for.
use Rattle.std.specs.Prelude.{◌≡◌, ◌≢◌, ℕ, List, [], ◌∷◌, ◌⊎◌}
use Rattle.ddl_types.specs.Types.{Ty, Ty.var, Sub, on, Below}
use Rattle.ddl_unify.specs.Occurs.{count, one}

-- a variable with the type that it was bound to, as it was given
pub record Binding : Type 0 where
  pub from : ℕ
  pub to : Ty

-- the map of a list: that of the older bindings, and then this variable replaced
abbrev pub solution : List Binding → Sub
solution [] n = var n
solution (b ∷ bs) n = on (solution bs n) (one b.from (on b.to (solution bs)))

-- a map that gives each bound variable what it is bound to
abbrev pub Agrees : Sub → List Binding → Type 0
Agrees f [] = Unit {0}
Agrees f (b ∷ bs) = (f b.from ≡ on b.to f) × Agrees f bs

-- a variable is not bound
abbrev pub Unbound : ℕ → List Binding → Type 0
Unbound v [] = Unit {0}
Unbound v (b ∷ bs) = (b.from ≢ v) × Unbound v bs

-- a variable is bound to a type
abbrev pub Binds : List Binding → ℕ → Ty → Type 0
Binds [] v t = ⊥
Binds (b ∷ bs) v t = ((b.from ≡ v) × (b.to ≡ t)) ⊎ Binds bs v t

-- each variable was free when it was bound, and did not stand in its type as read then
abbrev pub Sound : List Binding → Type 0
Sound [] = Unit {0}
Sound (b ∷ bs) = Unbound b.from bs × (count (on b.to (solution bs)) b.from ≡ 0) × Sound bs

-- each variable of the types is below a number
abbrev pub ToBelow : List Binding → ℕ → Type 0
ToBelow [] n = Unit {0}
ToBelow (b ∷ bs) n = Below b.to n × ToBelow bs n
