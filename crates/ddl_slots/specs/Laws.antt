-- The laws of the map of slots.
use Rattle.std.specs.Prelude.{◌≡◌, ◌≢◌, ℕ, ◌+◌, List, Option, None}
use Rattle.ddl_slots.specs.declared.word.Word.{Word}
use Rattle.ddl_slots.specs.Counted.{Counted, refs}
use Rattle.ddl_slots.specs.Slots.{Entry, Slots, entry, trim, put, picked, release_all}

-- what is put at a number is there
abbrev pub PutThere : Type 0
PutThere = (m : Slots) (x : ℕ) (o : Option Entry) → entry (put m x o) x ≡ o

-- every other entry is as it was
abbrev pub PutOthers : Type 0
PutOthers = (m : Slots) (x y : ℕ) (o : Option Entry) → y ≢ x → entry (put m x o) y ≡ entry m y

-- maps with the same entries are equal
abbrev pub SameEntries : Type 0
SameEntries = (m n : Slots) → ((x : ℕ) → entry m x ≡ entry n x) → trim m ≡ trim n

-- a new slot gets a number that no live slot has
abbrev pub PicksVacant : Type 0
PicksVacant = (x : ℕ) (m : Slots) → entry m (picked x m) ≡ None

-- it gets any such number that is offered
abbrev pub PicksOffered : Type 0
PicksOffered = (x : ℕ) (m : Slots) → entry m x ≡ None → picked x m ≡ x

-- words that go give back their references, and what is left stays counted
abbrev pub ReleaseKeeps : Type 0
ReleaseKeeps = (ws : List Word) (m : Slots) (outer : ℕ → ℕ) → Counted m (λ x. refs x ws + outer x) → Counted (release_all ws m) outer
