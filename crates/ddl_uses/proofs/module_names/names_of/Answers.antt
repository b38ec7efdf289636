-- One module more.
use Rattle.std.proofs.Common.{arith}
use Rattle.ddl_uses.proofs.Naming.{module_named}
use Rattle.ddl_uses.proofs.module_names.names_of.Goals as goal

pub loop-unit-preserved : goal.loop-unit-preserved
loop-unit-preserved c =
    module_named c.args.units.now c.loop-unit.unit-index c.unit-item.result c.deref.result.now c.loop-unit.names.items c.push.new.self.items c.in_ok-of.field-0
    c.loop-unit.first
    c.in_ok-first.first (omega arith) c.unit-item.is c.loop-unit.invariant c.deref.ensures.value c.in_ok-of.ensures
    (omega (arith, c.in_ok-first.ensures, c.len.ensures, c.deref.ensures.len)) c.in_ok-push.ensures.items
