-- What is said of a group whose list has grown to its end.
use Rattle.std.specs.Prelude.{◌≡◌, All, Bool, true, false}
use Rattle.ddl_types.specs.Types.{Sub}
use Rattle.ddl_growing.specs.declared.refusal.SettleError.{SettleError}
use Rattle.ddl_growing.specs.declared.refusal.SettleError.TheVariants as e
use Rattle.ddl_judging.specs.Demands.{Asked}
use Rattle.ddl_conditions.specs.Growing.{FirstOf, Group}
use Rattle.ddl_conditions.specs.Settled.{IsFalse, IsLeft, IsWrong}
use Rattle.ddl_judging.specs.Views.{wrong_view}

-- a test says whether something is so
abbrev pub Says : Bool → Type 0 → Type 0
Says true A = A
Says false A = A → ⊥

-- the first demand that is false is told with why it is; where none is, the first that is left
abbrev pub IsUnmet : Group → Sub → SettleError → Type 0
IsUnmet g f (e.Clash span l r) = ⊥
IsUnmet g f (e.Endless span v x) = ⊥
IsUnmet g f (e.Wrong span why) = (a : Asked) × FirstOf (IsFalse g f) g.asked a × IsWrong g f (wrong_view why) a × (span ≡ a.span)
IsUnmet g f (e.Unresolved span) = All (λ b. IsFalse g f b → ⊥) g.asked × ((a : Asked) × FirstOf (IsLeft g f) g.asked a × (span ≡ a.span))
IsUnmet g f e.NoMemory = Unit {0}
