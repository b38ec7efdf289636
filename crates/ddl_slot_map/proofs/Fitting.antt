-- References that are added one word after the other.
use Rattle.std.proofs.Common.{◌≡◌, ℕ, zero, suc, ◌+◌, ◌<◌, List, [], ◌∷◌, ◌++◌, length, take, drop, Some, None, refl, sym, ap, ◌∙◌, subst, arith}
use Rattle.std.specs.Prelude.{slice_index_or}
use Rattle.ddl_slots.specs.declared.word.Word.{Word}
use Rattle.ddl_slots.specs.Slots.{Slots, slot_of, dup, dup_slot, dup_all}
use Rattle.ddl_slot_map.specs.Fits.{FitsSlot, FitAll}
use Rattle.slab.specs.Slab.{Slab}
use Rattle.ddl_slot_map.specs.declared.cell.Cell.{Cell}
use Rattle.ddl_slot_map.specs.View.{shown, gone, SameRoom}
use Rattle.ddl_slot_map.proofs.Cells.{take_next}

dup_more : (ws vs : List Word) (m : Slots) → dup_all (ws ++ vs) m ≡ dup_all vs (dup_all ws m)
dup_more [] vs m = refl
dup_more (w ∷ ws) vs m = dup_more ws vs (dup w m)

-- one word more
pub dup_next : (ws : List Word) (i : ℕ) (w d : Word) (m : Slots) → i < length ws → slice_index_or ws i d ≡ w
    → dup_all (take (i + 1) ws) m ≡ dup w (dup_all (take i ws) m)
dup_next ws i w d m h e = ap (λ l. dup_all l m) (take_next ws i w d h e) ∙ dup_more (take i ws) (w ∷ []) m

-- the next word may get a reference more, and then the others
pub fit_next : (ws : List Word) (i : ℕ) (w d : Word) (m : Slots) → i < length ws → slice_index_or ws i d ≡ w → FitAll (drop i ws) m
    → FitsSlot (slot_of w) m × FitAll (drop (i + 1) ws) (dup w m)
fit_next [] i w d m h e f = absurd (omega arith)
fit_next (v ∷ ws) zero w d m h e f = subst (λ z. FitsSlot (slot_of z) m × FitAll ws (dup z m)) e f
fit_next (v ∷ ws) (suc i) w d m h e f =
    let q : suc i + 1 ≡ suc (i + 1) = omega arith in
    subst (λ k. FitsSlot (slot_of w) m × FitAll (drop k (v ∷ ws)) (dup w m)) (sym q) (fit_next ws i w d m (omega arith) e f)

-- what holds once some of the words have got a reference more
abbrev pub Raised : Slab Cell → Slab Cell → List Word → ℕ → Type 0
Raised old now words i =
    (shown now.slots ≡ dup_all (take i words) (shown old.slots))
    × ((gone now.slots ≡ 0) × (FitAll (drop i words) (shown now.slots) × SameRoom old now))

-- the next one is without a slot, or its slot was raised
pub raised_next : (old now after : Slab Cell) (words : List Word) (i : ℕ) (w d : Word) → i < length words → slice_index_or words i d ≡ w
    → Raised old now words i → shown after.slots ≡ dup w (shown now.slots) → gone after.slots ≡ 0 → SameRoom now after → Raised old after words (i + 1)
raised_next old now after words i w d h e r s g room = (
  s ∙ ap (dup w) r.0 ∙ sym (dup_next words i w d (shown old.slots) h e),
  (
    g,
    (
      subst (λ m. FitAll (drop (i + 1) words) m) (sym s) (fit_next words i w d (shown now.slots) h e r.1.1.0).1,
      (room.0 ∙ r.1.1.1.0, room.1 ∙ r.1.1.1.1),
    ),
  ),
)

-- a word by its slot
pub dup_some : (w : Word) (x : ℕ) (m n : Slots) → slot_of w ≡ Some x → n ≡ dup_slot (Some x) m → n ≡ dup w m
dup_some w x m n e h = h ∙ ap (λ o. dup_slot o m) (sym e)

pub dup_none : (w : Word) (m : Slots) → slot_of w ≡ None → m ≡ dup w m
dup_none w m e = ap (λ o. dup_slot o m) (sym e)

-- another slab that is the same
pub raised_is : (old now after : Slab Cell) (words : List Word) (i : ℕ) → after ≡ now → Raised old now words i → Raised old after words i
raised_is old now after words i e r = subst (λ z. Raised old z words i) (sym e) r
