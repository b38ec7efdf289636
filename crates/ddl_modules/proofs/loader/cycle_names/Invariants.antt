use Rattle.std.proofs.Common.{◌≡◌, ◌∷◌, take}
use Rattle.std.specs.Prelude.{map}
use Rattle.ddl_modules.specs.Cycles.{unit_name}
use Rattle.ddl_modules.proofs.loader.cycle_names.Given as goal

abbrev pub invariant-loop-unit : goal.invariant-loop-unit
invariant-loop-unit l = l.names.items ≡ map (unit_name l.units) (l.cycle.first ∷ take l.unit-index l.cycle.rest.items)
