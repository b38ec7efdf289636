use Rattle.std.proofs.Common.{◌≡◌, drop}
use Rattle.ddl_modules.specs.Cycles.{import_span}
use Rattle.ddl_modules.specs.Levels.{has}
use Rattle.ddl_modules.proofs.loader.import_span.Given as goal

abbrev pub invariant-loop-at : goal.invariant-loop-at
invariant-loop-at l = record {
  span : import_span l.unit.imports.items l.unit.tree.imports.items l.other ≡ import_span (drop l.at l.unit.imports.items) (drop l.at l.unit.tree.imports.items)
      l.other;
  there : has l.unit.imports.items l.other ≡ has (drop l.at l.unit.imports.items) l.other;
}
