use Rattle.ddl_states.specs.Gives.{state_of}
use Rattle.ddl_syntax.specs.Parses.{seen_in, Stands}
use Rattle.ddl_syntax.proofs.parser.read.Given as goal

abbrev pub invariant-loop-k : goal.invariant-loop-k
invariant-loop-k l = Stands (seen_in l.«module» l.tokens) l.k (state_of l.stack l.focus)
