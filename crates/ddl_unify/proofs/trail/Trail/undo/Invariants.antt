use Rattle.std.proofs.Common.{◌≤◌, length}
use Rattle.ddl_unify.specs.Trails.{Grows}
use Rattle.ddl_unify.proofs.trail.Trail.undo.Given as goal

abbrev pub invariant-loop-self : goal.invariant-loop-self
invariant-loop-self l = record {
  within : l.n ≤ length l.self.0;
  grows : Grows l.self l.fn.self;
}

abbrev pub decreases-loop-self : goal.decreases-loop-self
decreases-loop-self l = length l.self.0
