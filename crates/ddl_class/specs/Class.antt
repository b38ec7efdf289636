-- A class as a set of bytes.
use Rattle.std.specs.Prelude.{◌≡◌, ℕ, ◌/◌, ◌%◌, ◌<◌, Bool, ◌==◌, slice_index}
use Rattle.std.specs.Int.{bit_at}
use Rattle.ddl_class.specs.declared.class.Class.{Class}

-- whether a byte is in the class: its bit of the 256 is set
unfoldable pub contains : Class → ℕ → Bool
contains c byte = bit_at (slice_index c.words (byte / 64)) (byte % 64) == 1

-- the bytes of the class are exactly those that pass the test
abbrev pub HoldsExactly : Class → (ℕ → Bool) → Type 0
HoldsExactly c test = (byte : ℕ) → byte < 256 → contains c byte ≡ test byte
