use Rattle.std.proofs.Common.{vec_len}
use Rattle.std.specs.Prelude.{map}
use Rattle.ddl_modules.proofs.WalkLemmas.{IsDescent}
use Rattle.ddl_modules.proofs.cycles.least_walk.Given as goal

abbrev pub invariant-levels : goal.invariant-levels
invariant-levels l = IsDescent l.rows l.unit (vec_len l.initial.left) (map (λ x. x.flags.items) l.left.items) (vec_len l.left) l.at l.walk.items

abbrev pub decreases-levels : goal.decreases-levels
decreases-levels l = vec_len l.left
