-- When an equation is refused, and with what.
use Rattle.std.specs.Prelude.{◌≡◌, ℕ, List, [], ◌∷◌, ◌++◌, ◌⊎◌, Result, Ok, Err}
use Rattle.ddl_types.specs.Types.{Ty, Ty.var, Sub, on}
use Rattle.ddl_types.specs.TyView.{ty_view}
use Rattle.ddl_unify.specs.declared.refusal.EquateError.{EquateError}
use Rattle.ddl_unify.specs.declared.refusal.EquateError.TheVariants as e
use Rattle.ddl_unify.specs.Equations.{Equation, equal, Unsolvable, Holds, Endless}

-- two types are the sides as they are read under a map
abbrev pub AreRead : Ty → Ty → Sub → Ty → Ty → Type 0
AreRead a b f l r = (a ≡ on l f) × (b ≡ on r f)

-- a variable and a larger type that holds it are the two sides as they are read, in either order
abbrev pub AreHeld : ℕ → Ty → Sub → Ty → Ty → Type 0
AreHeld v x f l r = (AreRead (var v) x f l r ⊎ AreRead (var v) x f r l) × Holds (var v) x

-- a clash: no solution, and not endless; endless: one side as it is read is held in the other
abbrev pub Refused : EquateError → List Equation → Sub → Ty → Ty → Type 0
Refused (e.Clash a b) es f l r = AreRead (ty_view a) (ty_view b) f l r × Unsolvable (es ++ equal l r ∷ []) × (Endless (on l f) (on r f) → ⊥)
Refused (e.Endless v x) es f l r = AreHeld v (ty_view x) f l r
Refused e.NoMemory es f l r = Unit {0}

-- a clash, or want of memory
abbrev pub IsClash : EquateError → Sub → Ty → Ty → Type 0
IsClash (e.Clash a b) f l r = AreRead (ty_view a) (ty_view b) f l r
IsClash (e.Endless v x) f l r = ⊥
IsClash e.NoMemory f l r = Unit {0}

-- the left side is a variable that the right side holds, or want of memory
abbrev pub IsHeld : EquateError → Sub → Ty → Ty → Type 0
IsHeld (e.Clash a b) f l r = ⊥
IsHeld (e.Endless v x) f l r = AreRead (var v) (ty_view x) f l r × Holds (var v) (ty_view x)
IsHeld e.NoMemory f l r = Unit {0}

-- what looking for a variable on the left that is held on the right answers
abbrev pub LeftHeld : Result (Unit {0}) EquateError → Sub → Ty → Ty → Type 0
LeftHeld (Ok u) f l r = Holds (on l f) (on r f) → ⊥
LeftHeld (Err d) f l r = IsHeld d f l r

-- what looking on both sides answers, whatever was accepted before
abbrev pub EndlessRefused : Result (Unit {0}) EquateError → Sub → Ty → Ty → Type 0
EndlessRefused (Ok u) f l r = Endless (on l f) (on r f) → ⊥
EndlessRefused (Err d) f l r = (es : List Equation) → Refused d es f l r
