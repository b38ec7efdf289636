use Rattle.std.proofs.Common.{ap, ◌∙◌, sym, subst, Option}
use Rattle.std.specs.Prelude.{IsSome}
use Rattle.ddl_slots.specs.Slots.{Entry, entry}
use Rattle.ddl_slot_map.proofs.Cells.{vacant_entry, none_is_none}
use Rattle.ddl_slot_map.proofs.Pushed.{same_gone, pushed_shown, then_ok}
use Rattle.ddl_slot_map.proofs.slots.Slots.push.Goals as goal

pub unreachable-requires : goal.unreachable-requires
unreachable-requires c =
    none_is_none (subst (λ (o : Option Entry). IsSome o)
    (ap (λ m. entry m c.args.id.key) (sym c.self.view_is) ∙ vacant_entry c.self.inside.slab.slots c.args.id.key (sym c.in-None.ensures.value)) c.requires.live)

pub invariant_of-self : goal.invariant_of-self
invariant_of-self c =
    same_gone c.self.inside.slab.slots c.args.id.key c.in-Some.cell.now c.push.new.self (sym c.in-Some.ensures.value) c.self.invariant

pub returns-clause-pushed : goal.returns-clause-pushed
returns-clause-pushed c =
    then_ok c.push.result
    (pushed_shown c.self.inside.slab.slots c.args.id.key c.in-Some.cell.now c.push.new.self c.args.word c.args.self.now (sym c.in-Some.ensures.value)
    c.self.view_is)
    c.push.ensures.pushed
