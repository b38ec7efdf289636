use Rattle.std.proofs.Common.{◌≡◌, ap, ◌∙◌, subst, sym, refl, ℕ, Option, None, arith}
use Rattle.slab.specs.Slab.{slab_len}
use Rattle.ddl_slot_map.specs.declared.cell.State.TheVariants.{Gone}
use Rattle.ddl_slots.specs.Slots.{settle}
use Rattle.ddl_slot_map.specs.View.{shown}
use Rattle.ddl_slot_map.proofs.Cells.{Settles, settles_begins, settles_next, settles_end, settles_absent, walks_from, same_next, not_live}
use Rattle.ddl_slot_map.proofs.release.settle.Goals as goal
use Rattle.ddl_slot_map.proofs.release.settle.Goals.{in-Gone, in-Live}

pub loop-dead-init : goal.loop-dead-init
loop-dead-init c = (settles_begins c.args.slab.now.slots c.args.dead, (omega arith, refl))

pub loop-dead-preserved : goal.loop-dead-preserved
loop-dead-preserved c =
    let same : (n : Option ℕ) → c.in-Some-try_remove.cell.state ≡ Gone n → c.match-cell.next ≡ n =
    λ n e. elim c.match-cell.branch [
      | in-Gone w ↦ same_next c.in-Some-try_remove.cell.state w.in-Gone.next c.match-cell.next n w.in-Gone.is w.next-is e
      | in-Live w ↦ not_live c.in-Some-try_remove.cell.state None c.match-cell.next n w.in-Live.field-0 w.in-Live.is e
    ] in (
      λ r n a f. settles_next c.loop-dead.slab.slots c.walk-dead.new.slab.slots c.in-Some.first c.in-Some-try_remove.cell c.walk-dead.result _
          (subst (λ d. Settles c.loop-dead.slab.slots d (settle n (shown c.args.slab.now.slots) r)) c.in-Some.is (c.loop-dead.invariant.0 r n a f))
          (sym c.in-Some-try_remove.ensures.value)
          (λ m e. walks_from c.try_remove.new.self.slots _ c.walk-dead.new.slab.slots c.match-cell.next m c.walk-dead.result c.words.result.now
          c.in-Some-try_remove.cell.node.words c.in-Some-try_remove.ensures.slots (same m e) c.words.ensures c.walk-dead.ensures.walks),
      (
        omega (arith, c.walk-dead.ensures.room.0, c.in-Some-try_remove.ensures.len, c.loop-dead.invariant.1.0),
        c.walk-dead.ensures.room.1 ∙ c.try_remove.ensures.capacity ∙ c.loop-dead.invariant.1.1,
      ),
    )

pub returns-in_default-try_remove-clause-settles : goal.returns-in_default-try_remove-clause-settles
returns-in_default-try_remove-clause-settles c =
    λ r n a f. settles_absent c.loop-dead.slab.slots c.in-Some.first _
    (subst (λ d. Settles c.loop-dead.slab.slots d (settle n (shown c.args.slab.now.slots) r)) c.in-Some.is (c.loop-dead.invariant.0 r n a f))
    (sym c.in_default-try_remove.ensures.value)

pub returns-in_default-try_remove-clause-room : goal.returns-in_default-try_remove-clause-room
returns-in_default-try_remove-clause-room c =
    (omega (arith, ap slab_len c.in_default-try_remove.ensures.absent, c.loop-dead.invariant.1.0), c.try_remove.ensures.capacity ∙ c.loop-dead.invariant.1.1)

pub returns-clause-settles : goal.returns-clause-settles
returns-clause-settles c =
    λ r n a f. settles_end c.loop-dead.slab.slots _
    (subst (λ d. Settles c.loop-dead.slab.slots d (settle n (shown c.args.slab.now.slots) r)) c.in_default.is (c.loop-dead.invariant.0 r n a f))

pub returns-clause-room : goal.returns-clause-room
returns-clause-room c = c.loop-dead.invariant.1
