-- How cells show a map, and the list of those that have gone and are not yet followed.
use Rattle.std.specs.Prelude.{◌≡◌, ℕ, ◌+◌, ◌≤◌, List, [], ◌∷◌, length, map, Option, Some, None, slice_index_or, slice_set}
use Rattle.slab.specs.Slab.{Slab, slab_len}
use Rattle.ddl_slot_map.specs.declared.cell.Cell.{Cell}
use Rattle.ddl_slot_map.specs.declared.cell.State.{State}
use Rattle.ddl_slot_map.specs.declared.cell.State.TheVariants.{Live, Gone}
use Rattle.ddl_slots.specs.declared.word.Word.{Word}
use Rattle.ddl_slots.specs.declared.node.Node.{Node}
use Rattle.ddl_slots.specs.Slots.{Entry, Slots, Rest, trim, live, lower_slot, lower_all, settle}

abbrev pub Cells : Type 0
Cells = List (Option Cell)

abbrev pub view_state : State → Node → Option Entry
view_state (Live c) n = Some (record { count = c; node = n })
view_state (Gone next) n = None

abbrev pub view_cell : Option Cell → Option Entry
view_cell None = None
view_cell (Some c) = view_state c.state c.node

abbrev pub shown : Cells → Slots
shown cs = trim (map view_cell cs)

abbrev pub gone_state : State → ℕ
gone_state (Live c) = 0
gone_state (Gone next) = 1

abbrev pub gone_cell : Option Cell → ℕ
gone_cell None = 0
gone_cell (Some c) = gone_state c.state

abbrev pub gone : Cells → ℕ
gone [] = 0
gone (c ∷ cs) = gone_cell c + gone cs

-- the cell at d has gone, with these words, and names the next
pub record Link (cs : Cells) (d : ℕ) (next : Option ℕ) (ws : List Word) : Type 0 where
  pub cell : Cell
  pub there : slice_index_or cs d None ≡ Some cell
  pub is : cell.state ≡ Gone next
  pub words : cell.node.words ≡ ws

-- from d on each names the next, and these are their words
abbrev pub Chain : Cells → Option ℕ → List (List Word) → Type 0
Chain cs None [] = Unit {0}
Chain cs None (ws ∷ r) = ⊥
Chain cs (Some d) [] = ⊥
Chain cs (Some d) (ws ∷ r) = (next : Option ℕ) × Link cs d next ws × Chain (slice_set cs d None) next r

-- the cells that have gone are those from d on
pub record Awaits (cs : Cells) (d : Option ℕ) (r : List (List Word)) : Type 0 where
  pub chain : Chain cs d r
  pub all : gone cs ≡ length r

-- the code has come from the one state to the other
pub record Walks (old : Cells) (d : Option ℕ) (t : Rest) (new : Cells) (d' : Option ℕ) : Type 0 where
  pub awaits : Awaits new d' t.dead
  pub map : shown new ≡ t.map

-- the words are followed
abbrev pub WalksAll : Cells → Option ℕ → List Word → Cells → Option ℕ → Type 0
WalksAll old d ws new d' = (r : List (List Word)) → Awaits old d r → Walks old d (lower_all ws (record { map = shown old; dead = r })) new d'

-- a reference goes
abbrev pub WalksRef : Cells → Option ℕ → Option ℕ → Cells → Option ℕ → Type 0
WalksRef old d slot new d' = (r : List (List Word)) → Awaits old d r → Walks old d (lower_slot slot (record { map = shown old; dead = r })) new d'

-- the cells show this map, and none of them waits
pub record Settled (cs : Cells) (m : Slots) : Type 0 where
  pub map : shown cs ≡ m
  pub none : gone cs ≡ 0

-- the words of all cells that wait are followed
abbrev pub SettlesAll : Cells → Option ℕ → Cells → Type 0
SettlesAll old d new = (r : List (List Word)) (n : ℕ) → Awaits old d r → live (shown old) + length r ≤ n → Settled new (settle n (shown old) r)

-- as many cells are there, and as much room for more
abbrev pub SameRoom : Slab Cell → Slab Cell → Type 0
SameRoom old new = (slab_len new ≡ slab_len old) × (new.capacity ≡ old.capacity)

-- no cell more is there
abbrev pub HasAsMuch : Slab Cell → Slab Cell → Type 0
HasAsMuch old new = (slab_len new ≤ slab_len old) × (new.capacity ≡ old.capacity)
