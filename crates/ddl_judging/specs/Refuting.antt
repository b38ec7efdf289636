-- When the refusal of an equation says that there is no solution.
use Rattle.std.specs.Prelude.{Bool, true, false}
use Rattle.ddl_unify.specs.Equations.{Apart}
use Rattle.ddl_types.specs.Types.{Ty}
use Rattle.ddl_unify.specs.declared.refusal.EquateError.{EquateError}
use Rattle.ddl_unify.specs.declared.refusal.EquateError.TheVariants as e
use Rattle.ddl_judging.specs.Judging.{CanBeEqual}

-- want of memory says nothing
abbrev pub is_refuting : EquateError → Bool
is_refuting (e.Clash a b) = true
is_refuting (e.Endless v x) = true
is_refuting e.NoMemory = false

-- some map makes two types equal, or none does
abbrev pub IsMeeting : Ty → Ty → Bool → Type 0
IsMeeting s t true = CanBeEqual s t
IsMeeting s t false = Apart s t
