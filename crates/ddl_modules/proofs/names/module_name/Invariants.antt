use Rattle.std.proofs.Common.{◌≡◌, ◌≤◌, drop}
use Rattle.ddl_modules.specs.Files.{after_slash}
use Rattle.ddl_modules.proofs.names.module_name.Given as goal

abbrev pub invariant-loop-at : goal.invariant-loop-at
invariant-loop-at l = (l.start ≤ l.at) × (after_slash l.root l.root ≡ after_slash (drop l.start l.root) (drop l.at l.root))
