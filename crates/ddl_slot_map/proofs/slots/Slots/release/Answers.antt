use Rattle.std.proofs.Common.{ap, ◌∙◌}
use Rattle.ddl_slots.specs.Slots.{release}
use Rattle.ddl_slot_map.proofs.Cells.{released}
use Rattle.ddl_slot_map.proofs.slots.Slots.release.Goals as goal

pub invariant_of-self : goal.invariant_of-self
invariant_of-self c =
    (released c.self.inside.slab.slots c.lower-dead.new.slab.slots c.settle.new.slab.slots c.lower-dead.result c.args.id.key c.self.invariant
    c.lower-dead.ensures.walks c.settle.ensures.settles).none

pub returns : goal.returns
returns c =
    (released c.self.inside.slab.slots c.lower-dead.new.slab.slots c.settle.new.slab.slots c.lower-dead.result c.args.id.key c.self.invariant
    c.lower-dead.ensures.walks c.settle.ensures.settles).map ∙ ap (release c.args.id.key) c.self.view_is
