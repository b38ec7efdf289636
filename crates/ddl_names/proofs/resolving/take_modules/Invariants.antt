use Rattle.std.proofs.Common.{◌≡◌, ◌++◌, drop, length}
use Rattle.ddl_names.specs.Cutting.{begins}
use Rattle.ddl_kinds.specs.Findings.{all_uses, first_refusal}
use Rattle.ddl_uses.specs.Walks.{AreNames, loaded}
use Rattle.ddl_names.specs.Modules.{findings_from, uses_from, uses_of_each}
use Rattle.ddl_names.proofs.resolving.take_modules.Given as goal

abbrev pub invariant-loop-place : goal.invariant-loop-place
invariant-loop-place l =
    record {
      among : l.walk.outer.units.now ≡ l.units;
      named : AreNames (loaded l.units) l.walk.outer.names.items;
      rest : first_refusal (findings_from (loaded l.units) l.place (loaded (drop l.place l.units)))
          ≡ first_refusal (findings_from (loaded l.units) 0 (loaded l.units));
      taken : l.walk.uses.items ++ all_uses (findings_from (loaded l.units) l.place (loaded (drop l.place l.units)))
          ≡ all_uses (findings_from (loaded l.units) 0 (loaded l.units));
      firsts : l.firsts.items ++ begins (length l.walk.uses.items) (uses_from (loaded l.units) l.place (loaded (drop l.place l.units)))
          ≡ begins 0 (uses_of_each (loaded l.units));
    }
