use Rattle.std.proofs.Common.{◌≡◌, ◌≤◌, ◌+◌, ◌-◌, length, drop}
use Rattle.ddl_lex.specs.Literals.{literal}
use Rattle.ddl_lex.proofs.Elements.{behind}
use Rattle.ddl_lex.proofs.literals.text_at.Given as goal

abbrev pub invariant-loop-n : goal.invariant-loop-n
invariant-loop-n l = record {
  within : l.n ≤ length l.inside;
  read : literal 34 l.start (l.start + 1) 0 l.inside ≡ behind l.bytes.items l.n (literal 34 l.start (l.start + 1 + l.n) 0 (drop l.n l.inside));
}

abbrev pub decreases-loop-n : goal.decreases-loop-n
decreases-loop-n l = length l.inside - l.n
