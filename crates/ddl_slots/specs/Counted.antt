-- Counts are references.
use Rattle.std.specs.Prelude.{◌≡◌, ℕ, ◌+◌, ◌<◌, List, [], ◌∷◌, Option, Some, None, nat_eq, if◌then◌else◌}
use Rattle.ddl_slots.specs.declared.word.Word.{Word}
use Rattle.ddl_slots.specs.Slots.{Entry, Slots, entry, slot_of}

-- how many references to a slot a word is
abbrev pub hit_slot : ℕ → Option ℕ → ℕ
hit_slot x None = 0
hit_slot x (Some y) = if nat_eq x y then 1 else 0

abbrev pub hit : ℕ → Word → ℕ
hit x w = hit_slot x (slot_of w)

-- how many of the words refer to a slot
abbrev pub refs : ℕ → List Word → ℕ
refs x [] = 0
refs x (w ∷ ws) = hit x w + refs x ws

abbrev pub refs_entry : ℕ → Option Entry → ℕ
refs_entry x None = 0
refs_entry x (Some e) = refs x e.node.words

-- how many words of live slots refer to a slot
abbrev pub inner : ℕ → Slots → ℕ
inner x [] = 0
inner x (o ∷ m) = refs_entry x o + inner x m

-- a slot that is not live counts 0
abbrev pub count_of : Option Entry → ℕ
count_of None = 0
count_of (Some e) = e.count

-- each slot's count is the number of references to it, from words of live slots and from outside; so nothing refers to a slot
-- that is not live
pub record Counted (m : Slots) (outer : ℕ → ℕ) : Type 0 where
  pub by : (x : ℕ) → count_of (entry m x) ≡ outer x + inner x m
  pub positive : (x : ℕ) (e : Entry) → entry m x ≡ Some e → 0 < e.count
