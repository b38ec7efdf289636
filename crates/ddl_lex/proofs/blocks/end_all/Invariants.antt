use Rattle.std.proofs.Common.{◌≡◌, ◌++◌, length, map}
use Rattle.ddl_lex.specs.Layout.{end_all, mark_at}
use Rattle.ddl_lex.proofs.blocks.end_all.Given as goal

abbrev pub invariant-loop-open : goal.invariant-loop-open
invariant-loop-open l = l.laid.items ++ map (mark_at l.place) (end_all l.stack) ≡ l.fn.laid.items ++ map (mark_at l.place) (end_all l.fn.stack)

abbrev pub decreases-loop-open : goal.decreases-loop-open
decreases-loop-open l = length l.stack
