use Rattle.std.proofs.Common.{◌≡◌, ◌+◌, ◌<◌}
use Rattle.ddl_unify.specs.State.{variables}
use Rattle.ddl_bench.proofs.equations.build.Given as goal

-- each turn adds a variable, and the last one is the newest
abbrev pub invariant-loop : goal.invariant-loop
invariant-loop l = record {
  count : variables l.solver ≡ variables l.fn.solver + l.counter + 1;
  first : l.first < variables l.solver;
  last : l.last < variables l.solver;
}
