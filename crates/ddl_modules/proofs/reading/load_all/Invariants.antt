use Rattle.std.proofs.Common.{◌-◌, vec_len}
use Rattle.ddl_modules.proofs.ProgressLemmas.{Progress}
use Rattle.ddl_modules.proofs.reading.load_all.Given as goal

abbrev pub invariant-turns : goal.invariant-turns
invariant-turns g l = Progress (g.F.Files.state l.initial.files) (g.F.Files.state l.files) l.root l.loading

abbrev pub decreases-turns : goal.decreases-turns
decreases-turns g l = 257 - vec_len l.loading.units
