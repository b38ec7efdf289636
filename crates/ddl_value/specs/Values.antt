-- What the calls give, as the machine's slot reading says it.
use Rattle.std.specs.Prelude.{◌≡◌, ℕ, List, length, Option, Some, IfSome, slice_get}
use Rattle.ddl_slots.specs.declared.node.Node.{Node}
use Rattle.ddl_slots.specs.declared.word.Word.{Word}
use Rattle.ddl_slots.specs.Slots.{Slots, slot_of}
use Rattle.ddl_slot_map.specs.Fits.{FitsSlot}
use Rattle.ddl_blocks.specs.Placing.{as_word}
use Rattle.ddl_blocks.specs.Reading.{and_there, node_at, elements_by, elements_at}
use Rattle.ddl_blocks.specs.SlotMachine.{settled}

-- the word at a place of a node, as of a record's field
abbrev pub word_at : Slots → Word → ℕ → Option Word
word_at m w at = and_there (node_at m w) (λ n. slice_get n.words at)

-- the element at a place of an array's node, and of the array that a word is
abbrev pub element_by : Node → ℕ → Option Word
element_by n at = and_there (elements_by n.kind n.words n.bytes) (λ us. slice_get us at)

abbrev pub element_at : Slots → Word → ℕ → Option Word
element_at m w at = and_there (elements_at m w) (λ us. slice_get us at)

-- how many elements an array has
abbrev pub size_by : Node → Option ℕ
size_by n = and_there (elements_by n.kind n.words n.bytes) (λ us. Some (length us))

abbrev pub size_at : Slots → Word → Option ℕ
size_at m w = and_there (elements_at m w) (λ us. Some (length us))

-- a word, where there is one, may get a reference more
abbrev pub MayShare : Option Word → Slots → Type 0
MayShare o m = IfSome o (λ w. FitsSlot (slot_of w) m)

-- the slots are those of the machine once the word is the result of an operation that took over these arguments, whichever
-- number it is offered
abbrev pub GivesWord : Slots → List Word → Word → Slots → Type 0
GivesWord old args w new = (x : ℕ) → settled x old args (as_word w) ≡ record { word = w; map = new }
