use Rattle.std.proofs.Common.{ap, ◌∙◌}
use Rattle.ddl_slots.specs.Slots.{live}
use Rattle.ddl_slot_map.proofs.Cells.{live_is}
use Rattle.ddl_slot_map.proofs.slots.Slots.live.Goals as goal

pub returns : goal.returns
returns c = c.len.ensures ∙ live_is c.self.inside.slab.slots c.self.invariant ∙ ap live c.self.view_is
