use Rattle.std.proofs.Common.{◌≡◌, ℕ, take}
use Rattle.ddl_modules.specs.Levels.{has}
use Rattle.ddl_modules.proofs.rows.distinct.Given as goal

abbrev pub invariant-loop-number : goal.invariant-loop-number
invariant-loop-number l = (n : ℕ) → has l.once.items n ≡ has (take l.number-index l.numbers) n
