use Rattle.std.proofs.Common.{sym, arith}
use Rattle.ddl_slot_map.proofs.Cells.{kept_walks, gone_walks, zero_stays, gone_stays, absent_stays}
use Rattle.ddl_slot_map.proofs.release.lower.Goals as goal

pub returns-then-count-gt1-clause-walks : goal.returns-then-count-gt1-clause-walks
returns-then-count-gt1-clause-walks c = kept_walks c.args.slab.now.slots c.args.dead c.args.key c.in-Some.cell.now c.in-Live.count (sym c.in-Some.ensures.value)
    c.in-Live.is c.if-count-gt1.true

pub returns-then-count-eq1-clause-walks : goal.returns-then-count-eq1-clause-walks
returns-then-count-eq1-clause-walks c = gone_walks c.args.slab.now.slots c.args.dead c.args.key c.in-Some.cell.now c.in-Live.count (sym c.in-Some.ensures.value)
    c.in-Live.is c.if-count-eq1.true

pub returns-else-count-eq1-clause-walks : goal.returns-else-count-eq1-clause-walks
returns-else-count-eq1-clause-walks c = zero_stays c.args.slab.now.slots c.args.dead c.args.key c.in-Some.cell.now c.in-Live.count (sym c.in-Some.ensures.value)
    c.in-Live.is (omega (arith, c.if-count-gt1.false, c.if-count-eq1.false))

pub returns-in_default-state-clause-walks : goal.returns-in_default-state-clause-walks
returns-in_default-state-clause-walks c = gone_stays c.args.slab.now.slots c.args.dead c.args.key c.in-Some.cell.now c.in_default-state.field-0
    (sym c.in-Some.ensures.value) c.in_default-state.is

pub returns-in_default-clause-walks : goal.returns-in_default-clause-walks
returns-in_default-clause-walks c = absent_stays c.args.slab.now.slots c.args.dead c.args.key (sym c.in_default.ensures.value)
