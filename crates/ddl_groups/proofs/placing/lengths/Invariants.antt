use Rattle.std.proofs.Common.{take}
use Rattle.ddl_groups.specs.Placing.{AreLengths, lists_of}
use Rattle.ddl_groups.proofs.placing.lengths.Given as goal

abbrev pub invariant-loop-need : goal.invariant-loop-need
invariant-loop-need l = AreLengths (lists_of (take l.need-index l.needs)) l.counts.items
