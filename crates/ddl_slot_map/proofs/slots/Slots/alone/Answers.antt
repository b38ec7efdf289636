use Rattle.std.proofs.Common.{ap, ◌∙◌, sym, subst, Option, ◌≡◌}
use Rattle.std.specs.Prelude.{IfSome, IsSome, ◌==◌}
use Rattle.std.specs.Option.{option_copied}
use Rattle.ddl_slots.specs.Slots.{Entry, entry}
use Rattle.ddl_slot_map.proofs.Cells.{vacant_entry, none_is_none, not_gone, count_is}
use Rattle.ddl_slot_map.proofs.slots.Slots.alone.Goals as goal

pub unreachable-requires : goal.unreachable-requires
unreachable-requires c = not_gone c.self.inside.slab.slots c.args.id.key c.in-Some.cell.now c.in-Gone.field-0 c.self.invariant (sym c.get.ensures
    ∙ ap option_copied c.in-Some.is) c.in-Gone.is

pub unreachable-requires-in-None : goal.unreachable-requires-in-None
unreachable-requires-in-None c = none_is_none (subst (λ (o : Option Entry). IsSome o) (ap (λ m. entry m c.args.id.key) (sym c.self.view_is)
    ∙ vacant_entry c.self.inside.slab.slots c.args.id.key (sym c.get.ensures ∙ ap option_copied c.in-None.is)) c.requires.live)

pub returns : goal.returns
returns c = subst (λ m. IfSome (entry m c.args.id.key) (λ (e : Entry). (c.in-Live.count == 1) ≡ (e.count == 1))) c.self.view_is
    (count_is c.self.inside.slab.slots c.args.id.key c.in-Some.cell.now c.in-Live.count (sym c.get.ensures ∙ ap option_copied c.in-Some.is) c.in-Live.is)
