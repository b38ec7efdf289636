-- The laws of budgets.
use Rattle.std.specs.Prelude.{◌≡◌, ℕ, ◌≤◌, List, ◌++◌, length}
use Rattle.ddl_types.specs.Growth.{IsWhole, Begins}
use Rattle.ddl_types.specs.Outcome.{ticks}
use Rattle.ddl_types.specs.Value.{Stream}
use Rattle.ddl_blocks.specs.Code.{Code}
use Rattle.ddl_blocks.specs.Run.{Run}
use Rattle.ddl_blocks.specs.SlotRun.{SlotRun}

-- a budget that is large enough gives what every larger one gives
abbrev pub EnoughBudget : Type 0
EnoughBudget = (n m : ℕ) (code : Code) (s : Stream) → n ≤ m → IsWhole (Run n code s) → Run m code s ≡ Run n code s

-- what a budget gives stands at the front of what every larger one gives
abbrev pub LargerBudget : Type 0
LargerBudget = (n m : ℕ) (code : Code) (s : Stream) → n ≤ m → Begins (Run n code s) (Run m code s)

-- two budgets that are large enough give the same
abbrev pub OneRun : Type 0
OneRun = (n m : ℕ) (code : Code) (s : Stream) → IsWhole (Run n code s) → IsWhole (Run m code s) → Run n code s ≡ Run m code s

-- a run counts at most its budget
abbrev pub WithinBudget : Type 0
WithinBudget = (m : ℕ) (code : Code) (s : Stream) → ticks (Run m code s) ≤ m

-- more numbers that are offered only add to a run in the slot reading
abbrev pub MoreNumbers : Type 0
MoreNumbers = (xs ys : List ℕ) (code : Code) (bs : List ℕ) → Begins (SlotRun xs code bs) (SlotRun (xs ++ ys) code bs)

-- it counts at most as many steps as numbers are offered
abbrev pub WithinNumbers : Type 0
WithinNumbers = (xs : List ℕ) (code : Code) (bs : List ℕ) → ticks (SlotRun xs code bs) ≤ length xs
