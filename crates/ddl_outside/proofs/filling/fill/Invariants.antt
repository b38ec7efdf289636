use Rattle.std.proofs.Common.{length, ◌-◌, ◌+◌, ◌≡◌, ◌≤◌, take}
use Rattle.ddl_outside.specs.Files.{Later, TouchesOnly, HasAt}
use Rattle.ddl_outside.specs.Filling.{ReadsBelow}
use Rattle.ddl_outside.proofs.filling.fill.Given as goal

abbrev pub invariant-loop-done : goal.invariant-loop-done
invariant-loop-done g l = record {
  later : Later (g.F.Files.state l.initial.files) (g.F.Files.state l.files);
  only : TouchesOnly l.name (g.F.Files.state l.initial.files) (g.F.Files.state l.files);
  told : (g.F.Files.state l.files).told ≡ (g.F.Files.state l.initial.files).told;
  reach : ReadsBelow l.name (l.at + length l.initial.into) (g.F.Files.state l.initial.files) (g.F.Files.state l.files);
  within : l.done ≤ length l.into;
  filled : HasAt (g.F.Files.state l.files).held l.name l.at (take l.done l.into);
}

abbrev pub decreases-loop-done : goal.decreases-loop-done
decreases-loop-done g l = length l.initial.into - l.done
