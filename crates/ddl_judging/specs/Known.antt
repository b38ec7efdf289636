-- Whether a type's head is known.
use Rattle.std.specs.Prelude.{Bool, true, false}
use Rattle.ddl_types.specs.Types.{Ty, Ty.var, Ty.con}

abbrev pub is_known : Ty → Bool
is_known (var v) = false
is_known (con h ts) = true
