use Rattle.std.proofs.Common.{take}
use Rattle.ddl_slot_map.specs.View.{WalksAll, SameRoom}
use Rattle.ddl_slot_map.proofs.release.walk.Given as goal

abbrev pub invariant-loop-word : goal.invariant-loop-word
invariant-loop-word l = WalksAll l.fn.slab.slots l.fn.dead (take l.word-index l.words) l.slab.slots l.dead × SameRoom l.fn.slab l.slab
