use Rattle.std.proofs.Common.{ℕ, ◌+◌, ◌≤◌, List, length}
use Rattle.slab.specs.Slab.{slab_len}
use Rattle.ddl_slots.specs.declared.word.Word.{Word}
use Rattle.ddl_slots.specs.Slots.{live, settle}
use Rattle.ddl_slot_map.specs.View.{Awaits, shown, HasAsMuch}
use Rattle.ddl_slot_map.proofs.Cells.{Settles}
use Rattle.ddl_slot_map.proofs.release.settle.Given as goal

abbrev pub invariant-loop-dead : goal.invariant-loop-dead
invariant-loop-dead l =
    ((r : List (List Word)) (n : ℕ) → Awaits l.fn.slab.slots l.fn.dead r → live (shown l.fn.slab.slots) + length r ≤ n
    → Settles l.slab.slots l.dead (settle n (shown l.fn.slab.slots) r))
    × HasAsMuch l.fn.slab l.slab

abbrev pub decreases-loop-dead : goal.decreases-loop-dead
decreases-loop-dead l = slab_len l.slab
