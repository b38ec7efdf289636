use Rattle.std.proofs.Common.{take}
use Rattle.ddl_uses.proofs.Naming.{AreNamed}
use Rattle.ddl_uses.proofs.module_names.names_of.Given as goal

abbrev pub invariant-loop-unit : goal.invariant-loop-unit
invariant-loop-unit l = AreNamed (take l.unit-index l.units) l.names.items l.first
