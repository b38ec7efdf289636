use Rattle.std.proofs.Common.{ap, ◌∙◌, sym, subst, None, ◌≡◌}
use Rattle.std.specs.Prelude.{IfSome, IsSome}
use Rattle.ddl_slots.specs.Slots.{Entry, entry, put}
use Rattle.ddl_slot_map.specs.View.{gone, shown}
use Rattle.ddl_slot_map.proofs.Cells.{there_is, less_gone, node_is, cell_in, shown_set}
use Rattle.ddl_slot_map.proofs.slots.Slots.take.Goals as goal

pub remove-requires : goal.remove-requires
remove-requires c = there_is c.self.inside.slab.slots c.args.id.key (subst (λ m. IsSome (entry m c.args.id.key)) (sym c.self.view_is) c.requires.live)

pub invariant_of-self : goal.invariant_of-self
invariant_of-self c = ap gone c.remove.ensures.slots ∙ less_gone c.self.inside.slab.slots c.args.id.key c.remove.result c.remove.ensures.value c.self.invariant

pub returns-clause-node : goal.returns-clause-node
returns-clause-node c = subst (λ m. IfSome (entry m c.args.id.key) (λ (e : Entry). c.remove.result.node ≡ e.node)) c.self.view_is
    (node_is c.self.inside.slab.slots c.args.id.key c.remove.result c.self.invariant c.remove.ensures.value)

pub returns-clause-gone : goal.returns-clause-gone
returns-clause-gone c = ap shown c.remove.ensures.slots
    ∙ shown_set c.self.inside.slab.slots c.args.id.key None (cell_in c.self.inside.slab.slots c.args.id.key c.remove.result c.remove.ensures.value)
    ∙ ap (λ m. put m c.args.id.key None) c.self.view_is
