use Rattle.std.proofs.Common.{arith}
use Rattle.std.proofs.lemmas.Grind.{common_steps}
use Rattle.ddl_states.proofs.Opened.{view-push}
use Rattle.ddl_states.proofs.stack.Stack.push.Goals as goal

pub returns : goal.returns
returns c = grind (arith, common_steps, view-push)
