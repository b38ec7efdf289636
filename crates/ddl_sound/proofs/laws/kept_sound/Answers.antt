use Rattle.ddl_sound.proofs.Keeping.{sound_on, sound_back, sound_cut}
use Rattle.ddl_sound.proofs.laws.kept_sound.Goals as goal

pub returns-clause-on : goal.returns-clause-on
returns-clause-on c = sound_on

pub returns-clause-back : goal.returns-clause-back
returns-clause-back c = sound_back

pub returns-clause-cut : goal.returns-clause-cut
returns-clause-cut c = sound_cut
