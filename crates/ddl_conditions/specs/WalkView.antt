-- The place of a walk, of a solver and the demands that it goes over.
use Rattle.std.specs.Prelude.{ℕ, List, map}
use Rattle.ddl_unify.specs.declared.store.Bound.{Bound}
use Rattle.ddl_unify.specs.declared.store.Pair.{Pair}
use Rattle.ddl_conditions.specs.declared.walk.Walk.{Walk}
use Rattle.ddl_judging.specs.Demands as d
use Rattle.ddl_growing.specs.SolverView.{solved}
use Rattle.ddl_judging.specs.Views.{asked_view}
use Rattle.ddl_conditions.specs.Walking.{Place}

abbrev pub place : (List Pair × List Bound × ℕ) → Walk → Place
place z w = record {
  solver = solved z;
  behind = map (λ a. asked_view a.now) w.behind.items;
  ahead = map asked_view w.ahead.now;
  checked = w.checked;
  numbers =
      map asked_view w.numbers.now;
}
