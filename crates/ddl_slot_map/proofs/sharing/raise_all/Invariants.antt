use Rattle.ddl_slot_map.proofs.Fitting.{Raised}
use Rattle.ddl_slot_map.proofs.sharing.raise_all.Given as goal

abbrev pub invariant-loop-word : goal.invariant-loop-word
invariant-loop-word l = Raised l.fn.slab l.slab l.words l.word-index
