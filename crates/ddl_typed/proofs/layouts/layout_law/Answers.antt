use Rattle.ddl_typed.proofs.NamelessFits.{width_same, fits_same, con_same}
use Rattle.ddl_typed.proofs.NamelessView.{layout_same, layout_kept}
use Rattle.ddl_typed.proofs.layouts.layout_law.Goals as goal

pub returns-clause-widths : goal.returns-clause-widths
returns-clause-widths c = width_same

pub returns-clause-numbers : goal.returns-clause-numbers
returns-clause-numbers c = fits_same

pub returns-clause-constructors : goal.returns-clause-constructors
returns-clause-constructors c = con_same

pub returns-clause-layouts : goal.returns-clause-layouts
returns-clause-layouts c = layout_same

pub returns-clause-kept : goal.returns-clause-kept
returns-clause-kept c = layout_kept
