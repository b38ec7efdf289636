use Rattle.ddl_naming.proofs.Held.{takes_grammars, takes_values}
use Rattle.ddl_naming.proofs.NamedClasses.{takes_classes}
use Rattle.ddl_naming.proofs.NamedTypes.{takes_types}
use Rattle.ddl_naming.proofs.Taken.{takes_uses}
use Rattle.ddl_naming.proofs.laws.named_law.Goals as goal

pub returns : goal.returns
returns c = record { types = takes_types; classes = takes_classes; forms = takes_uses; grammars = takes_grammars; values = takes_values }
