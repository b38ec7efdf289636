-- Lines and columns.
use Rattle.std.specs.Prelude.{ℕ, ◌+◌, ◌*◌, ◌/◌, ◌==◌, if◌then◌else◌, List, [], ◌∷◌, take}

-- the line behind these bytes, from a line on: a newline begins one
abbrev pub line_behind : ℕ → List ℕ → ℕ
line_behind line [] = line
line_behind line (b ∷ bs) = line_behind (if b == 10 then line + 1 else line) bs

-- the column behind a byte: a tab moves to the next multiple of 8
abbrev pub column_after : ℕ → ℕ → ℕ
column_after column b = if b == 10 then 0 else (if b == 9 then (column / 8 + 1) * 8 else column + 1)

-- the column behind these bytes, from a column on
abbrev pub column_behind : ℕ → List ℕ → ℕ
column_behind column [] = column
column_behind column (b ∷ bs) = column_behind (column_after column b) bs

-- the line of the byte at this place
abbrev pub line_at : ℕ → List ℕ → ℕ
line_at at text = line_behind 0 (take at text)

-- the column of the byte at this place
abbrev pub column_at : ℕ → List ℕ → ℕ
column_at at text = column_behind 0 (take at text)
