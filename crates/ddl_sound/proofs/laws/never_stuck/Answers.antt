use Rattle.ddl_sound.proofs.NeverStuck.{never_stuck, forms_are_sound, values_are_sound}
use Rattle.ddl_sound.proofs.laws.never_stuck.Goals as goal

pub returns-clause-runs : goal.returns-clause-runs
returns-clause-runs c = never_stuck

pub returns-clause-forms : goal.returns-clause-forms
returns-clause-forms c = forms_are_sound

pub returns-clause-values : goal.returns-clause-values
returns-clause-values c = values_are_sound
