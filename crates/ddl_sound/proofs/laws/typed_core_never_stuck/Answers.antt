use Rattle.ddl_sound.proofs.NeverStuck.{core_never_stuck, kept_never_stuck}
use Rattle.ddl_sound.proofs.laws.typed_core_never_stuck.Goals as goal

pub returns-clause-core : goal.returns-clause-core
returns-clause-core c = core_never_stuck

pub returns-clause-kept : goal.returns-clause-kept
returns-clause-kept c = kept_never_stuck
