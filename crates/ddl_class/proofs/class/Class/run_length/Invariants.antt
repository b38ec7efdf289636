use Rattle.std.proofs.Common.{◌≡◌, ℕ, ◌<◌, true, get_or}
use Rattle.ddl_class.specs.Class.{contains}
use Rattle.ddl_class.proofs.class.Class.run_length.Given as goal

abbrev pub invariant-loop-place : goal.invariant-loop-place
invariant-loop-place l = (k : ℕ) → k < l.place → contains l.self (get_or l.bytes k 0) ≡ true
