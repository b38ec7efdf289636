use Rattle.ddl_syntax.proofs.ReadsModules.{answers}
use Rattle.ddl_syntax.proofs.parser.parse.Goals as goal

pub returns : goal.returns
returns c = answers c.args.«module» c.args.tokens.now c.read.result c.read.ensures
