-- Slots: a finite map from numbers to a count and a node.
use Rattle.std.specs.Prelude.{ℕ, zero, suc, ◌+◌, List, [], ◌∷◌, length, Option, Some, None, slice_index_or}
use Rattle.ddl_slots.specs.declared.node.Node.{Node}
use Rattle.ddl_slots.specs.declared.word.Origin.{Origin}
use Rattle.ddl_slots.specs.declared.word.Origin.TheVariants.{Input, Array}
use Rattle.ddl_slots.specs.declared.word.Word.{Word}
use Rattle.ddl_slots.specs.declared.word.Word.TheVariants.{Ref, Stream, Unit, Bool, Uint, Sint, Thread}

-- a slot: how many references there are to it, and its node
pub record Entry : Type 0 where
  pub count : ℕ
  pub node : Node

-- the entries by their numbers, up to the last one that is live: so two maps with the same entries are equal
abbrev pub Slots : Type 0
Slots = List (Option Entry)

-- what stands in a slot
abbrev pub entry : Slots → ℕ → Option Entry
entry m x = slice_index_or m x None

abbrev pub set : Slots → ℕ → Option Entry → Slots
set [] zero o = o ∷ []
set [] (suc x) o = None ∷ set [] x o
set (p ∷ m) zero o = o ∷ m
set (p ∷ m) (suc x) o = p ∷ set m x o

-- an entry before others, unless all are absent
abbrev pub before : Option Entry → Slots → Slots
before None [] = []
before None (p ∷ m) = None ∷ p ∷ m
before (Some e) m = Some e ∷ m

-- without absent entries at the end
abbrev pub trim : Slots → Slots
trim [] = []
trim (o ∷ m) = before o (trim m)

-- the map where a slot has this entry, or none
abbrev pub put : Slots → ℕ → Option Entry → Slots
put m x o = trim (set m x o)

-- how many slots are live
abbrev pub is_live : Option Entry → ℕ
is_live None = 0
is_live (Some e) = 1

abbrev pub live : Slots → ℕ
live [] = 0
live (o ∷ m) = is_live o + live m

-- the slot that a word refers to: by itself, or as a stream over its bytes
abbrev pub slot_of_origin : Origin → Option ℕ
slot_of_origin Input = None
slot_of_origin (Array id) = Some id.key

abbrev pub slot_of : Word → Option ℕ
slot_of (Ref id) = Some id.key
slot_of (Stream s) = slot_of_origin s.origin
slot_of Unit = None
slot_of (Bool b) = None
slot_of (Uint n) = None
slot_of (Sint z) = None
slot_of (Thread n) = None

-- a new slot with one reference
abbrev pub made : ℕ → Node → Slots → Slots
made x n m = put m x (Some (record { count = 1; node = n }))

-- a number that is offered where no live slot has it, else one that no slot ever had
abbrev pub vacant_or : ℕ → Option Entry → Slots → ℕ
vacant_or x None m = x
vacant_or x (Some e) m = length m

abbrev pub picked : ℕ → Slots → ℕ
picked x m = vacant_or x (entry m x) m

-- one reference more
abbrev pub more_entry : Option Entry → Option Entry
more_entry None = None
more_entry (Some e) = Some (record { count = e.count + 1; node = e.node })

abbrev pub dup_slot : Option ℕ → Slots → Slots
dup_slot None m = m
dup_slot (Some x) m = put m x (more_entry (entry m x))

abbrev pub dup : Word → Slots → Slots
dup w m = dup_slot (slot_of w) m

abbrev pub dup_all : List Word → Slots → Slots
dup_all [] m = m
dup_all (w ∷ ws) m = dup_all ws (dup w m)

-- a map, and the words of slots that have gone and are not yet followed
pub record Rest : Type 0 where
  pub map : Slots
  pub dead : List (List Word)

-- one reference less: a slot without any goes
abbrev pub last : ℕ → ℕ → Node → Rest → Rest
last x zero n r = record { map = put r.map x None; dead = n.words ∷ r.dead }
last x (suc c) n r = record { map = put r.map x (Some (record { count = suc c; node = n })); dead = r.dead }

abbrev pub lowered : ℕ → ℕ → Node → Rest → Rest
lowered x zero n r = r
lowered x (suc c) n r = last x c n r

abbrev pub lower_entry : ℕ → Option Entry → Rest → Rest
lower_entry x None r = r
lower_entry x (Some e) r = lowered x e.count e.node r

abbrev pub lower_slot : Option ℕ → Rest → Rest
lower_slot None r = r
lower_slot (Some x) r = lower_entry x (entry r.map x) r

abbrev pub lower_all : List Word → Rest → Rest
lower_all [] r = r
lower_all (w ∷ ws) r = lower_all ws (lower_slot (slot_of w) r)

-- the words of slots that have gone are followed, those of the last one first; so many slots at most
abbrev pub settle : ℕ → Slots → List (List Word) → Slots
settle n m [] = m
settle zero m (ws ∷ dead) = m
settle (suc n) m (ws ∷ dead) = let r = lower_all ws (record { map = m; dead = dead }) in settle n r.map r.dead

-- the references of these words go
abbrev pub release_all : List Word → Slots → Slots
release_all ws m = settle (suc (live m)) m (ws ∷ [])

-- one reference to a slot goes
abbrev pub release : ℕ → Slots → Slots
release x m = let r = lower_slot (Some x) (record { map = m; dead = [] }) in settle (live m) r.map r.dead
