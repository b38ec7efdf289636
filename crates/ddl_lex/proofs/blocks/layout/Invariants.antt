use Rattle.std.proofs.Common.{◌≡◌, ◌++◌, [], length, None}
use Rattle.std.specs.Vec.Iter.{into_iter_items}
use Rattle.ddl_lex.specs.Layout.{lay}
use Rattle.ddl_lex.proofs.blocks.layout.Given as goal

abbrev pub invariant-loop-token : goal.invariant-loop-token
invariant-loop-token l = l.laid.items ++ lay l.last l.stack (into_iter_items l.rest) ≡ lay None [] l.fn.tokens.items

abbrev pub decreases-loop-token : goal.decreases-loop-token
decreases-loop-token l = length (into_iter_items l.rest)
