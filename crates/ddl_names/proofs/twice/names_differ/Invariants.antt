use Rattle.std.proofs.Common.{◌≡◌, drop}
use Rattle.std.specs.Prelude.{flat_map}
use Rattle.ddl_kinds.specs.Findings.{first_refusal}
use Rattle.ddl_names.specs.Modules.{declared_twice}
use Rattle.ddl_uses.specs.Walks.{loaded}
use Rattle.ddl_names.proofs.twice.names_differ.Given as goal

abbrev pub invariant-loop-unit : goal.invariant-loop-unit
invariant-loop-unit l = first_refusal (flat_map declared_twice (loaded (drop l.unit-index l.units))) ≡ first_refusal (flat_map declared_twice (loaded l.units))
