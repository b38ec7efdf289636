-- A node in place of some words.
use Rattle.std.proofs.Common.{◌≡◌, ℕ, ◌∙◌, sym, ap, List, Option, None}
use Rattle.slab.specs.Slab.{Slab, get}
use Rattle.ddl_slots.specs.declared.word.Word.{Word}
use Rattle.ddl_slots.specs.Slots.{Slots, entry, release_all}
use Rattle.ddl_slot_map.specs.declared.cell.Cell.{Cell}
use Rattle.ddl_slot_map.specs.View.{shown, gone, WalksAll, SettlesAll, Settled}
use Rattle.ddl_slot_map.proofs.Cells.{released_all, vacant_entry}

-- the references of some words go, of slots that show this map
pub gone_from : (a b c : Slab Cell) (d : Option ℕ) (given : List Word) (m : Slots) → gone a.slots ≡ 0 → shown a.slots ≡ m
    → WalksAll a.slots None given b.slots d → SettlesAll b.slots d c.slots → Settled c.slots (release_all given m)
gone_from a b c d given m g s w t =
    let r : Settled c.slots (release_all given (shown a.slots)) = released_all a.slots b.slots c.slots d given g w t in
    record { map = r.map ∙ ap (release_all given) s; none = r.none }

-- a key that was vacant is one of no live slot
pub vacant_in : (a : Slab Cell) (key : ℕ) (m : Slots) → shown a.slots ≡ m → get a key ≡ None → entry m key ≡ None
vacant_in a key m s v = ap (λ z. entry z key) (sym s) ∙ vacant_entry a.slots key v
