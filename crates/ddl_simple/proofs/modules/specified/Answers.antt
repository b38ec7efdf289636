use Rattle.ddl_tree.specs.ViewModule.{module_view}
use Rattle.ddl_simple.proofs.Simple.{simple_specified}
use Rattle.ddl_simple.proofs.modules.specified.Goals as goal

pub returns-in-Ok-clause-simple : goal.returns-in-Ok-clause-simple
returns-in-Ok-clause-simple c = simple_specified (module_view c.args.tree.now) c.in-Ok.found c.in-Ok.ensures
