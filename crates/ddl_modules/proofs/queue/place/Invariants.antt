use Rattle.std.proofs.Common.{◌≡◌, ◌+◌, drop}
use Rattle.ddl_modules.specs.Queue.{place}
use Rattle.ddl_modules.proofs.queue.place.Given as goal

abbrev pub invariant-loop-at : goal.invariant-loop-at
invariant-loop-at l = place l.names l.name ≡ l.at + place (drop l.at l.names) l.name
