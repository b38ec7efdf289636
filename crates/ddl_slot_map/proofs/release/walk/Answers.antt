use Rattle.std.proofs.Common.{ap, sym, ◌∙◌, refl, take, ◌+◌}
use Rattle.slab.specs.Slab.{slab_len}
use Rattle.ddl_slots.specs.declared.word.Word.TheVariants.{Unit}
use Rattle.ddl_slot_map.proofs.Cells.{walks_next, walks_to, no_walks, ref_is}
use Rattle.ddl_slot_map.proofs.release.walk.Goals as goal
use Rattle.ddl_slot_map.proofs.release.walk.Goals.{in-Some, in_default}

pub loop-word-preserved : goal.loop-word-preserved
loop-word-preserved c =
    elim c.match-slot.branch [
      | in-Some w ↦ (
        walks_to c.args.slab.now.slots c.match-slot.slab.slots w.lower-dead.new.slab.slots c.args.dead w.lower-dead.result c.match-slot.dead
            (take (c.loop-word.word-index + 1) c.args.words.now) (ap (λ z. z.slots) w.slab-is) w.dead-is
            (walks_next c.args.slab.now.slots c.loop-word.slab.slots w.lower-dead.new.slab.slots c.args.dead c.loop-word.dead w.lower-dead.result
            c.args.words.now c.loop-word.word-index _ Unit c.loop-word-test.true refl c.loop-word.invariant.0
            (ref_is _ _ _ _ _ _ (sym w.in-Some.is ∙ c.slot.ensures) w.lower-dead.ensures.walks)),
        (
          ap slab_len w.slab-is ∙ w.lower-dead.ensures.room.0 ∙ c.loop-word.invariant.1.0,
          ap (λ z. z.capacity) w.slab-is ∙ w.lower-dead.ensures.room.1 ∙ c.loop-word.invariant.1.1,
        ),
      )
      | in_default w ↦ (
        walks_to c.args.slab.now.slots c.match-slot.slab.slots c.loop-word.slab.slots c.args.dead c.loop-word.dead c.match-slot.dead
            (take (c.loop-word.word-index + 1) c.args.words.now) (ap (λ z. z.slots) w.slab-is) w.dead-is
            (walks_next c.args.slab.now.slots c.loop-word.slab.slots c.loop-word.slab.slots c.args.dead c.loop-word.dead c.loop-word.dead c.args.words.now
            c.loop-word.word-index _ Unit c.loop-word-test.true refl c.loop-word.invariant.0
            (ref_is _ _ _ _ _ _ (sym w.in_default.is ∙ c.slot.ensures) (no_walks c.loop-word.slab.slots c.loop-word.dead))),
        (ap slab_len w.slab-is ∙ c.loop-word.invariant.1.0, ap (λ z. z.capacity) w.slab-is ∙ c.loop-word.invariant.1.1),
      )
    ]
