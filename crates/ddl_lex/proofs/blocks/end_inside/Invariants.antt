use Rattle.std.proofs.Common.{◌≡◌, ◌++◌, length, map}
use Rattle.ddl_lex.specs.Layout.{end_inside, mark_at}
use Rattle.ddl_lex.proofs.blocks.end_inside.Given as goal

abbrev pub invariant-loop-laid : goal.invariant-loop-laid
invariant-loop-laid l = record {
  added : l.laid.items ++ map (mark_at l.place) (end_inside l.stack).0 ≡ l.fn.laid.items ++ map (mark_at l.place) (end_inside l.fn.stack).0;
  still : (end_inside l.stack).1 ≡ (end_inside l.fn.stack).1;
}

abbrev pub decreases-loop-laid : goal.decreases-loop-laid
decreases-loop-laid l = length l.stack
