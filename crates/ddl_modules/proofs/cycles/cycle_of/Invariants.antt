use Rattle.ddl_modules.specs.Levels.{down}
use Rattle.ddl_modules.proofs.SearchLemmas.{AreLevels}
use Rattle.ddl_modules.proofs.cycles.cycle_of.Given as goal

abbrev pub invariant-climb : goal.invariant-climb
invariant-climb l = AreLevels l.rows l.unit l.levels

abbrev pub decreases-climb : goal.decreases-climb
decreases-climb l = down l.levels.seen.items
