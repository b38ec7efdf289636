use Rattle.std.proofs.Common.{◌≡◌, ◌++◌}
use Rattle.ddl_show.specs.Numerals.{low_digits}
use Rattle.ddl_show.proofs.digits.low_digits.Given as goal

abbrev pub invariant-loop-left : goal.invariant-loop-left
invariant-loop-left l = l.digits.items ++ low_digits l.radix l.left l.rest ≡ low_digits l.radix l.fn.count l.fn.value

abbrev pub decreases-loop-left : goal.decreases-loop-left
decreases-loop-left l = l.left
