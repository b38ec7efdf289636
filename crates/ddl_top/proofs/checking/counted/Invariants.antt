use Rattle.std.proofs.Common.{◌≡◌, length, take}
use Rattle.ddl_top.specs.Run.{all_decls}
use Rattle.ddl_top.proofs.checking.counted.Given as goal

abbrev pub invariant-loop-unit : goal.invariant-loop-unit
invariant-loop-unit l = l.count ≡ length (all_decls (take l.unit-index l.units))
