use Rattle.std.proofs.Common.{◌≡◌, map, take}
use Rattle.ddl_types.specs.PlainView.{plain_view}
use Rattle.ddl_typed.specs.SharedView.{part_plain}
use Rattle.ddl_typed.proofs.shared.+to_plain.Given as goal

abbrev pub invariant-values-loop-part : goal.invariant-values-loop-part
invariant-values-loop-part l = map plain_view l.plains.items ≡ map part_plain (take l.part-index l.parts)
