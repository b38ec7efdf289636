use Rattle.std.proofs.Common.{ap, ◌∙◌, refl}
use Rattle.ddl_slots.specs.Slots.{made, dup_all, release_all}
use Rattle.ddl_slot_map.specs.View.{shown, gone, Settled}
use Rattle.ddl_slot_map.proofs.Cells.{insert_made, insert_gone}
use Rattle.ddl_slot_map.proofs.Exchange.{gone_from, vacant_in}
use Rattle.ddl_slot_map.proofs.slots.Slots.exchange.Goals as goal

refused : (c : goal.After-settle) → Settled c.settle.new.slab.slots (release_all c.args.given.now c.args.self.now)
refused c =
    gone_from c.reserve.new.self c.walk-dead.new.slab c.settle.new.slab c.walk-dead.result c.args.given.now c.args.self.now
    (ap (λ z. gone z.slots) c.reserve.ensures.rest_kept ∙ c.self.invariant)
    (ap (λ z. shown z.slots) c.reserve.ensures.rest_kept ∙ c.self.view_is)
    c.walk-dead.ensures.walks c.settle.ensures.settles

pub invariant_of-self : goal.invariant_of-self
invariant_of-self c = (refused c).none

pub returns-then-is_err-clause-kept : goal.returns-then-is_err-clause-kept
returns-then-is_err-clause-kept c = (refused c).map

given : (c : goal.After-insert_reserved-key)
    → Settled c.settle-2.new.slab.slots (release_all c.args.given.now (dup_all c.args.node.words c.args.self.now))
given c =
    gone_from c.raise_all.new.slab c.walk-dead-2.new.slab c.settle-2.new.slab c.walk-dead-2.result c.args.given.now _
    c.raise_all.ensures.none
    (c.raise_all.ensures.shown ∙ ap (λ w. dup_all w (shown c.reserve.new.self.slots)) c.words.ensures
    ∙ ap (λ m. dup_all c.args.node.words m) (ap (λ z. shown z.slots) c.reserve.ensures.rest_kept ∙ c.self.view_is))
    c.walk-dead-2.ensures.walks c.settle-2.ensures.settles

pub invariant_of-self-2 : goal.invariant_of-self-2
invariant_of-self-2 c = insert_gone c.settle-2.new.slab c.insert_reserved-key.new.self c.insert_reserved-key.result _ 1 refl
    c.insert_reserved-key.ensures.updates (given c).none

pub returns-clause-vacant : goal.returns-clause-vacant
returns-clause-vacant c = vacant_in c.settle-2.new.slab c.insert_reserved-key.result _ (given c).map c.insert_reserved-key.ensures.was_vacant

pub returns-clause-made : goal.returns-clause-made
returns-clause-made c =
    insert_made c.settle-2.new.slab c.insert_reserved-key.new.self c.insert_reserved-key.result c.args.node c.insert_reserved-key.ensures.updates
    ∙ ap (made c.insert_reserved-key.result c.args.node) (given c).map
