-- How many numbers below a bound fit.
use Rattle.std.specs.Prelude.{ℕ, zero, suc, ◌+◌, Bool, cond}
use Rattle.ddl_bits.specs.Tree.{Cons, no_cons, con, parts_fit}

-- how many numbers below n pass the test
abbrev pub tally : (ℕ → Bool) → ℕ → ℕ
tally test zero = 0
tally test (suc n) = tally test n + cond (test n) 1 0

-- how many fit the first constructor, how many the second, and so on, together
abbrev pub tally_each : Cons → ℕ → ℕ
tally_each no_cons n = 0
tally_each (con ps cons) n = tally (parts_fit ps) n + tally_each cons n
