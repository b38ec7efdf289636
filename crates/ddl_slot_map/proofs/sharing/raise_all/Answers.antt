use Rattle.std.proofs.Common.{◌+◌, ◌∙◌, sym, subst, refl}
use Rattle.ddl_slots.specs.declared.word.Word.TheVariants.{Unit}
use Rattle.ddl_slot_map.specs.View.{shown}
use Rattle.ddl_slot_map.specs.Fits.{FitsSlot}
use Rattle.ddl_slot_map.proofs.Fitting.{raised_next, raised_is, dup_some, dup_none, fit_next}
use Rattle.ddl_slot_map.proofs.sharing.raise_all.Goals as goal
use Rattle.ddl_slot_map.proofs.sharing.raise_all.Goals.{in-Some, in_default}

pub raise-requires : goal.raise-requires
raise-requires c = record {
  none = c.loop-word.invariant.1.0;
  fits = subst (λ o. FitsSlot o (shown c.loop-word.slab.slots)) (sym c.slot.ensures ∙ c.in-Some.is)
      (fit_next c.args.words.now c.loop-word.word-index _ Unit (shown c.loop-word.slab.slots) c.loop-word-test.true refl c.loop-word.invariant.1.1.0).0;
}

pub loop-word-preserved : goal.loop-word-preserved
loop-word-preserved c =
    elim c.match-slot.branch [
      | in-Some w ↦ raised_is c.args.slab.now w.raise.new.slab c.match-slot.slab c.args.words.now (c.loop-word.word-index + 1) w.slab-is
          (raised_next c.args.slab.now c.loop-word.slab w.raise.new.slab c.args.words.now c.loop-word.word-index _ Unit c.loop-word-test.true refl
          c.loop-word.invariant
          (dup_some _ w.in-Some.key (shown c.loop-word.slab.slots) (shown w.raise.new.slab.slots) (sym c.slot.ensures ∙ w.in-Some.is) w.raise.ensures.shown)
          w.raise.ensures.none w.raise.ensures.room)
      | in_default w ↦ raised_is c.args.slab.now c.loop-word.slab c.match-slot.slab c.args.words.now (c.loop-word.word-index + 1) w.slab-is
          (raised_next c.args.slab.now c.loop-word.slab c.loop-word.slab c.args.words.now c.loop-word.word-index _ Unit c.loop-word-test.true refl
          c.loop-word.invariant
          (dup_none _ (shown c.loop-word.slab.slots) (sym c.slot.ensures ∙ w.in_default.is))
          c.loop-word.invariant.1.0 (refl, refl))
    ]
