use Rattle.std.proofs.Common.{◌≡◌, ◌++◌, length, map}
use Rattle.ddl_lex.specs.Layout.{end_deeper, mark_at}
use Rattle.ddl_lex.proofs.blocks.end_deeper.Given as goal

abbrev pub invariant-loop-column : goal.invariant-loop-column
invariant-loop-column l = record {
  added : l.laid.items ++ map (mark_at l.place) (end_deeper l.place.column l.stack).0 ≡ l.fn.laid.items
      ++ map (mark_at l.place) (end_deeper l.place.column l.fn.stack).0;
  still : (end_deeper l.place.column l.stack).1 ≡ (end_deeper l.place.column l.fn.stack).1;
}

abbrev pub decreases-loop-column : goal.decreases-loop-column
decreases-loop-column l = length l.stack
