-- Counts of what went wrong outside.
use Rattle.std.specs.Prelude.{ℕ, ◌+◌, ◌-◌, ◌^◌, ◌≤◌, min, max}

-- a count rose in a call: it is greater after it than before, or stands at its type's end
abbrev pub Rose : ℕ → ℕ → Type 0
Rose before now = min (before + 1) (2 ^ 64 - 1) ≤ now

-- a count one higher, which stays at its type's end
abbrev pub one_more : ℕ → ℕ
one_more n = max n (min (n + 1) (2 ^ 64 - 1))
