use Rattle.std.proofs.Common.{◌≡◌, List, arith, length, subst}
use Rattle.ddl_modules.specs.Levels.{lists_of, IsShortestCycle}
use Rattle.ddl_modules.specs.declared.rows.Row.{Row}
use Rattle.ddl_modules.proofs.SearchLemmas.{first_found, none_found, rows_long}
use Rattle.ddl_modules.proofs.cycles.first_cycle.Goals as goal

pub overflow_cast-unit : goal.overflow_cast-unit
overflow_cast-unit c =
    let long : length c.in_ok-rows.rows.items ≡ length c.args.units.now = rows_long c.args.units.now c.in_ok-rows.rows.items c.in_ok-rows.ensures in
    omega (arith, c.in_ok-rows.rows.ok.0)

pub cycle_of-requires : goal.cycle_of-requires
cycle_of-requires c =
    let long : length c.in_ok-rows.rows.items ≡ length c.args.units.now = rows_long c.args.units.now c.in_ok-rows.rows.items c.in_ok-rows.ensures in
    omega (arith, c.in_ok-rows.rows.ok.0)

pub overflow_cast-result : goal.overflow_cast-result
overflow_cast-result c =
    let long : length c.in_ok-rows.rows.items ≡ length c.args.units.now = rows_long c.args.units.now c.in_ok-rows.rows.items c.in_ok-rows.ensures in
    omega (arith, c.in_ok-rows.rows.ok.0)

pub returns-in-Some : goal.returns-in-Some
returns-in-Some c =
    let P : List Row → Type 0 = λ rows. IsShortestCycle (lists_of rows) c.loop-unit.unit c.in-Some.rest.items in
    let found : IsShortestCycle (lists_of c.deref.result.now) c.loop-unit.unit c.in-Some.rest.items = rw c.in-Some.is at c.in_ok-rest.ensures in
    first_found c.args.units.now c.in_ok-rows.rows.items c.in_ok-rows.ensures c.loop-unit.unit c.in-Some.rest.items (subst P c.deref.ensures.value found)
    c.loop-unit.invariant

pub returns : goal.returns
returns c =
    let long : length c.in_ok-rows.rows.items ≡ length c.args.units.now = rows_long c.args.units.now c.in_ok-rows.rows.items c.in_ok-rows.ensures in
    none_found c.args.units.now c.in_ok-rows.rows.items c.in_ok-rows.ensures c.loop-unit.unit (omega (arith, c.in_ok-rows.rows.ok.0)) c.loop-unit.invariant
