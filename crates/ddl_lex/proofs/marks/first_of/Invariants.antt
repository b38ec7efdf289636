use Rattle.std.proofs.Common.{◌≡◌, drop}
use Rattle.ddl_lex.specs.Marks.{mark_among}
use Rattle.ddl_lex.proofs.marks.first_of.Given as goal

abbrev pub invariant-loop-mark : goal.invariant-loop-mark
invariant-loop-mark l = mark_among (drop l.mark-index l.marks) l.text ≡ mark_among l.marks l.text
