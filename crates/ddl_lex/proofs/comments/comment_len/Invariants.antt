use Rattle.std.proofs.Common.{◌≡◌, ◌≤◌, ◌-◌, length, drop}
use Rattle.ddl_lex.specs.Comments.{comment}
use Rattle.ddl_lex.proofs.Steps.{plus}
use Rattle.ddl_lex.proofs.comments.comment_len.Given as goal

abbrev pub invariant-loop-n : goal.invariant-loop-n
invariant-loop-n l = (l.n ≤ length l.text) × (l.depth ≤ l.n) × (plus l.n (comment l.depth l.before (drop l.n l.text)) ≡ comment 0 0 l.text)

abbrev pub decreases-loop-n : goal.decreases-loop-n
decreases-loop-n l = length l.text - l.n
