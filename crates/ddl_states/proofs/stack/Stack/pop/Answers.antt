use Rattle.std.proofs.Common.{arith}
use Rattle.ddl_states.proofs.Opened.{view-pop, none_of}
use Rattle.ddl_states.proofs.stack.Stack.pop.Goals as goal

pub returns : goal.returns
returns c = view-pop _ c.args.self.now.frames.items c.pop.new.self.items _ (omega arith) c.pop.ensures.items (none_of _ _ _ _ _ c.pop.ensures.cases)
