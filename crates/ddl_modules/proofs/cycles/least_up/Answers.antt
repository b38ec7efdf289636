use Rattle.std.proofs.Common.{◌≡◌, true}
use Rattle.ddl_modules.specs.Levels.{has}
use Rattle.ddl_modules.proofs.LevelLemmas.{least_found, some_found}
use Rattle.ddl_modules.proofs.cycles.least_up.Goals as goal

pub returns-then-has : goal.returns-then-has
returns-then-has c =
    let there : has c.args.units.now c.loop-unit.unit ≡ true = cc (c.has.ensures, c.if-has.true) in
    least_found c.args.flags.now c.args.units.now c.loop-unit.unit c.loop-unit.invariant there c.if-up.true

pub unreachable-requires : goal.unreachable-requires
unreachable-requires c = some_found c.args.flags.now c.args.units.now c.loop-unit.unit c.loop-unit.invariant c.loop-unit-test.false c.requires.some
