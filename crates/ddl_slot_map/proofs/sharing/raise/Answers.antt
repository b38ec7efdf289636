use Rattle.std.proofs.Common.{sym, subst, Option, ◌<◌, ◌^◌, ◌+◌, arith}
use Rattle.std.specs.Prelude.{IfSome, IsSome}
use Rattle.ddl_slots.specs.Slots.{Entry}
use Rattle.ddl_slot_map.proofs.Cells.{live_entry, more_gone, more_shown, not_gone, vacant_entry, none_is_none}
use Rattle.ddl_slot_map.proofs.sharing.raise.Goals as goal

pub overflow_add-cell : goal.overflow_add-cell
overflow_add-cell c =
    let b : c.in-Live.count < 2 ^ 127 =
    subst (λ o. IfSome o (λ (e : Entry). e.count < 2 ^ 127))
    (live_entry c.args.slab.now.slots c.args.key c.in-Some.cell.now c.in-Live.count (sym c.in-Some.ensures.value) c.in-Live.is) c.requires.fits.1 in
    omega (arith, b)

pub returns-in-Live-clause-none : goal.returns-in-Live-clause-none
returns-in-Live-clause-none c =
    more_gone c.args.slab.now.slots c.args.key c.in-Some.cell.now (c.in-Live.count + 1) (sym c.in-Some.ensures.value) c.requires.none

pub returns-in-Live-clause-shown : goal.returns-in-Live-clause-shown
returns-in-Live-clause-shown c =
    more_shown c.args.slab.now.slots c.args.key c.in-Some.cell.now c.in-Live.count (sym c.in-Some.ensures.value) c.in-Live.is

pub returns-in_default-state-clause-shown : goal.returns-in_default-state-clause-shown
returns-in_default-state-clause-shown c =
    absurd (not_gone c.args.slab.now.slots c.args.key c.in-Some.cell.now c.in_default-state.field-0 c.requires.none
    (sym c.in-Some.ensures.value) c.in_default-state.is)

pub returns-in_default-clause-shown : goal.returns-in_default-clause-shown
returns-in_default-clause-shown c =
    absurd (none_is_none (subst (λ (o : Option Entry). IsSome o)
    (vacant_entry c.args.slab.now.slots c.args.key (sym c.in_default.ensures.value)) c.requires.fits.0))
