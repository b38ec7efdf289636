-- Whether a shape has a member of a name.
use Rattle.std.specs.Prelude.{ℕ, List, Bool, true, false, None}
use Rattle.ddl_types.specs.Types.{Ty}
use Rattle.ddl_judging.specs.Judging.{Verdict, holds, false_for, no_field}
use Rattle.ddl_judging.specs.Shapes.{BitShape, no_shape}

-- what stands for a bitdata beyond the list
abbrev pub no_bits : BitShape
no_bits = record { width = 0; gap = None; shape = no_shape }

-- it holds where a member was found
abbrev pub if_found : Bool → List ℕ → Ty → Verdict
if_found true x t = holds
if_found false x t = false_for (no_field x t)
