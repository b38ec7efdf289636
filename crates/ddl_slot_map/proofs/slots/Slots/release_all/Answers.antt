use Rattle.std.proofs.Common.{ap, ◌∙◌}
use Rattle.ddl_slots.specs.Slots.{release_all}
use Rattle.ddl_slot_map.proofs.Cells.{released_all}
use Rattle.ddl_slot_map.proofs.slots.Slots.release_all.Goals as goal

pub invariant_of-self : goal.invariant_of-self
invariant_of-self c =
    (released_all c.self.inside.slab.slots c.walk-dead.new.slab.slots c.settle.new.slab.slots c.walk-dead.result c.args.words.now c.self.invariant
    c.walk-dead.ensures.walks c.settle.ensures.settles).none

pub returns : goal.returns
returns c =
    (released_all c.self.inside.slab.slots c.walk-dead.new.slab.slots c.settle.new.slab.slots c.walk-dead.result c.args.words.now c.self.invariant
    c.walk-dead.ensures.walks c.settle.ensures.settles).map ∙ ap (release_all c.args.words.now) c.self.view_is
