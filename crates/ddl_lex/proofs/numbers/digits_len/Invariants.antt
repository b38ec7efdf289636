use Rattle.std.proofs.Common.{◌≡◌, ◌≤◌, ◌+◌, ◌-◌, length, drop}
use Rattle.ddl_lex.specs.Letters.{run}
use Rattle.ddl_lex.specs.Numbers.{is_digit_of}
use Rattle.ddl_lex.proofs.numbers.digits_len.Given as goal

abbrev pub invariant-loop-n : goal.invariant-loop-n
invariant-loop-n l = (l.n ≤ length l.text) × (l.n + run (is_digit_of l.base) (drop l.n l.text) ≡ run (is_digit_of l.base) l.text)

abbrev pub decreases-loop-n : goal.decreases-loop-n
decreases-loop-n l = length l.text - l.n
