use Rattle.std.proofs.Common.{ap, ◌∙◌, sym, subst, Option, ◌≡◌}
use Rattle.std.specs.Prelude.{IfSome, IsSome}
use Rattle.std.specs.Option.{option_copied}
use Rattle.ddl_slots.specs.Slots.{Entry, entry}
use Rattle.ddl_slot_map.proofs.Cells.{vacant_entry, none_is_none, node_is}
use Rattle.ddl_slot_map.proofs.slots.Slots.node.Goals as goal

pub unreachable-requires : goal.unreachable-requires
unreachable-requires c = absurd (none_is_none (subst (λ (o : Option Entry). IsSome o) (ap (λ m. entry m c.args.id.key) (sym c.self.view_is)
    ∙ vacant_entry c.self.inside.slab.slots c.args.id.key (sym c.get.ensures ∙ ap option_copied c.in-None.is)) c.requires.live))

pub returns : goal.returns
returns c = subst (λ m. IfSome (entry m c.args.id.key) (λ (e : Entry). c.in-Some.cell.now.node ≡ e.node)) c.self.view_is
    (node_is c.self.inside.slab.slots c.args.id.key c.in-Some.cell.now c.self.invariant (sym c.get.ensures ∙ ap option_copied c.in-Some.is))
