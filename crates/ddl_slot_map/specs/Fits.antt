-- When references may be added.
use Rattle.std.specs.Prelude.{ℕ, ◌<◌, ◌^◌, List, [], ◌∷◌, Option, Some, None, IsSome, IfSome}
use Rattle.ddl_slots.specs.declared.word.Word.{Word}
use Rattle.ddl_slots.specs.Slots.{Slots, entry, slot_of, dup}

-- a slot is live, and its count is no more than a counted word can take
abbrev pub FitsSlot : Option ℕ → Slots → Type 0
FitsSlot None m = Unit {0}
FitsSlot (Some x) m = IsSome (entry m x) × IfSome (entry m x) (λ e. e.count < 2 ^ 127)

-- one word after the other may get a reference more
abbrev pub FitAll : List Word → Slots → Type 0
FitAll [] m = Unit {0}
FitAll (w ∷ ws) m = FitsSlot (slot_of w) m × FitAll ws (dup w m)
