use Rattle.std.proofs.Common.{◌≡◌, ◌∙◌, sym, subst, arith, false}
use Rattle.std.specs.Prelude.{Option}
use Rattle.ddl_modules.specs.Levels.{flag, IsClimb}
use Rattle.ddl_modules.specs.declared.levels.Levels.{Levels}
use Rattle.ddl_modules.proofs.SearchLemmas.{climbed, fewer_down, first_levels, no_cycle, none_shorter}
use Rattle.ddl_modules.proofs.cycles.cycle_of.Goals as goal

pub climb-init : goal.climb-init
climb-init c =
    let e = c.in_ok-levels.ensures in
    first_levels c.args.rows.now c.args.unit c.in_ok-levels.levels e.0 e.1 e.2 e.3

pub returns-in-None : goal.returns-in-None
returns-in-None c =
    let not_top : flag c.climb.levels.top.items c.args.unit ≡ false = rw c.deref.ensures.value at (sym c.is_up.ensures ∙ c.climb-test.true) in
    let P : Option Levels → Type 0 = λ o. IsClimb c.args.rows.now c.climb.levels o in
    no_cycle c.args.rows.now c.args.unit c.climb.levels c.climb.invariant not_top (subst P c.in-None.is c.in_ok-higher.ensures)

pub climb-smaller : goal.climb-smaller
climb-smaller c =
    let not_top : flag c.climb.levels.top.items c.args.unit ≡ false = rw c.deref.ensures.value at (sym c.is_up.ensures ∙ c.climb-test.true) in
    let P : Option Levels → Type 0 = λ o. IsClimb c.args.rows.now c.climb.levels o in
    fewer_down c.args.rows.now c.args.unit c.climb.levels c.in-Some.higher c.climb.invariant not_top (subst P c.in-Some.is c.in_ok-higher.ensures)

pub climb-preserved : goal.climb-preserved
climb-preserved c =
    let not_top : flag c.climb.levels.top.items c.args.unit ≡ false = rw c.deref.ensures.value at (sym c.is_up.ensures ∙ c.climb-test.true) in
    let P : Option Levels → Type 0 = λ o. IsClimb c.args.rows.now c.climb.levels o in
    climbed c.args.rows.now c.args.unit c.climb.levels c.in-Some.higher c.climb.invariant not_top (subst P c.in-Some.is c.in_ok-higher.ensures)

pub returns : goal.returns
returns c = (
  c.in_ok-rest.ensures.0,
  λ other w. let shorter = none_shorter c.args.rows.now c.args.unit c.climb.levels c.climb.invariant other w in omega (arith, shorter, c.in_ok-rest.ensures.1),
)
