use Rattle.std.proofs.Common.{◌≡◌, map, take}
use Rattle.ddl_typed.specs.SharedView.{part_name}
use Rattle.ddl_typed.proofs.shared.names.Given as goal

abbrev pub invariant-loop-part : goal.invariant-loop-part
invariant-loop-part l = l.names.items ≡ map part_name (take l.part-index l.parts)
