-- A release keeps counts equal to references.
use Rattle.std.proofs.Common.{◌≡◌, ℕ, zero, suc, ◌+◌, ◌<◌, ◌≤◌, ◌≢◌, List, [], ◌∷◌, length, Option, Some, None, refl, sym, ap, ◌∙◌, if◌then◌else◌, arith}
use Rattle.std.proofs.Common.{eq-eqb, ne_eqb}
use Rattle.ddl_slots.specs.declared.word.Word.{Word}
use Rattle.ddl_slots.specs.Counted.{Counted, hit_slot, refs, refs_entry, inner, count_of}
use Rattle.ddl_slots.specs.Laws.{ReleaseKeeps}
use Rattle.ddl_slots.specs.Slots.{Entry, Slots, entry, set, before, trim, put, live, slot_of, Rest, last, lowered, lower_entry, lower_slot, lower_all, settle}
use Rattle.ddl_slots.proofs.Entries.{entry_put, entry_other, live_put, same_or}

-- ---- sums

inner_before : (x : ℕ) (o : Option Entry) (m : Slots) → inner x (before o m) ≡ refs_entry x o + inner x m
inner_before x None [] = refl
inner_before x None (p ∷ m) = refl
inner_before x (Some e) m = refl

inner_trim : (x : ℕ) (m : Slots) → inner x (trim m) ≡ inner x m
inner_trim x [] = refl
inner_trim x (o ∷ m) = inner_before x o (trim m) ∙ ap (λ n. refs_entry x o + n) (inner_trim x m)

inner_set : (x : ℕ) (m : Slots) (y : ℕ) (o : Option Entry) → inner x (set m y o) + refs_entry x (entry m y) ≡ inner x m + refs_entry x o
inner_set x [] zero o = omega arith
inner_set x [] (suc y) o = let k : inner x (set [] y o) + 0 ≡ 0 + refs_entry x o = inner_set x [] y o in omega arith
inner_set x (p ∷ m) zero o = omega arith
inner_set x (p ∷ m) (suc y) o = let k : inner x (set m y o) + refs_entry x (entry m y) ≡ inner x m + refs_entry x o = inner_set x m y o in omega arith

pub inner_put : (x : ℕ) (m : Slots) (y : ℕ) (e : Entry) (o : Option Entry) → entry m y ≡ Some e
    → inner x (put m y o) + refs x e.node.words ≡ inner x m + refs_entry x o
inner_put x m y e o h = let k : refs_entry x (entry m y) ≡ refs x e.node.words =
    ap (refs_entry x) h in omega (arith, inner_trim x (set m y o), inner_set x m y o)

hit_same : (x : ℕ) → hit_slot x (Some x) ≡ 1
hit_same x = ap (λ t. if t then 1 else 0) (eq-eqb x x refl)

hit_other : (x y : ℕ) → x ≢ y → hit_slot x (Some y) ≡ 0
hit_other x y h = ap (λ t. if t then 1 else 0) (ne_eqb x y h)

-- how many of the words of slots that have gone refer to a slot
abbrev pub refs_all : ℕ → List (List Word) → ℕ
refs_all x [] = 0
refs_all x (ws ∷ dead) = refs x ws + refs_all x dead

-- ---- one word after the other

-- counted, with references from these words and from slots that have gone
pub record Waits (m : Slots) (ws : List Word) (dead : List (List Word)) (outer : ℕ → ℕ) : Type 0 where
  pub by : (x : ℕ) → count_of (entry m x) ≡ refs x ws + refs_all x dead + outer x + inner x m
  pub positive : (x : ℕ) (e : Entry) → entry m x ≡ Some e → 0 < e.count

-- the same, with a reference to one slot more
pub record Held (m : Slots) (s : Option ℕ) (ws : List Word) (dead : List (List Word)) (outer : ℕ → ℕ) : Type 0 where
  pub by : (x : ℕ) → count_of (entry m x) ≡ hit_slot x s + (refs x ws + refs_all x dead + outer x + inner x m)
  pub positive : (x : ℕ) (e : Entry) → entry m x ≡ Some e → 0 < e.count

-- one word is followed, and the slots with those that wait are as many
pub record Walked (r : Rest) (ws : List Word) (outer : ℕ → ℕ) (total : ℕ) : Type 0 where
  pub waits : Waits r.map ws r.dead outer
  pub size : live r.map + length r.dead ≡ total

last_keeps : (x c : ℕ) (e : Entry) (m : Slots) (dead : List (List Word)) (ws : List Word) (outer : ℕ → ℕ) → entry m x ≡ Some e → e.count ≡ suc c
    → Held m (Some x) ws dead outer → Walked (last x c e.node (record { map = m; dead = dead })) ws outer (live m + length dead)
last_keeps x zero e m dead ws outer h k p = record {
  waits = record {
    by = λ y. same_or y x
        (λ q. let f : count_of (entry m y) ≡ suc zero = ap (λ z. count_of (entry m z)) q ∙ ap count_of h ∙ k in
        let g : entry (put m x None) y ≡ None = ap (entry (put m x None)) q ∙ entry_put m x None in
        let one : hit_slot y (Some x) ≡ 1 = ap (λ z. hit_slot z (Some x)) q ∙ hit_same x in
        let i : inner y (put m x None) + refs y e.node.words ≡ inner y m + 0 = inner_put y m x e None h in
        ap count_of g ∙ omega (arith, p.by y))
        (λ q. let g : count_of (entry (put m x None) y) ≡ count_of (entry m y) = ap count_of (entry_other m x y None q) in
        let none : hit_slot y (Some x) ≡ 0 = hit_other y x q in
        let i : inner y (put m x None) + refs y e.node.words ≡ inner y m + 0 = inner_put y m x e None h in
        g ∙ omega (arith, p.by y));
    positive = λ y f g. same_or y x
        (λ q. let n : entry (put m x None) y ≡ None = ap (entry (put m x None)) q ∙ entry_put m x None in absurd (cc))
        (λ q. p.positive y f (sym (entry_other m x y None q) ∙ g));
  };
  size = omega (arith, live_put m x e None h);
}
last_keeps x (suc c) e m dead ws outer h k p =
    let o : Option Entry = Some (record { count = suc c; node = e.node }) in
    record {
      waits = record {
        by = λ y. same_or y x
            (λ q. let f : count_of (entry m y) ≡ suc (suc c) = ap (λ z. count_of (entry m z)) q ∙ ap count_of h ∙ k in
            let g : entry (put m x o) y ≡ o = ap (entry (put m x o)) q ∙ entry_put m x o in
            let one : hit_slot y (Some x) ≡ 1 = ap (λ z. hit_slot z (Some x)) q ∙ hit_same x in
            let i : inner y (put m x o) + refs y e.node.words ≡ inner y m + refs y e.node.words = inner_put y m x e o h in
            ap count_of g ∙ omega (arith, p.by y))
            (λ q. let g : count_of (entry (put m x o) y) ≡ count_of (entry m y) = ap count_of (entry_other m x y o q) in
            let none : hit_slot y (Some x) ≡ 0 = hit_other y x q in
            let i : inner y (put m x o) + refs y e.node.words ≡ inner y m + refs y e.node.words = inner_put y m x e o h in
            g ∙ omega (arith, p.by y));
        positive = λ y f g. same_or y x
            (λ q. let n : entry (put m x o) y ≡ o = ap (entry (put m x o)) q ∙ entry_put m x o in
            let s : f.count ≡ suc c = ap count_of (sym g ∙ n) in omega arith)
            (λ q. p.positive y f (sym (entry_other m x y o q) ∙ g));
      };
      size = omega (arith, live_put m x e o h);
    }

lowered_keeps : (x k : ℕ) (e : Entry) (m : Slots) (dead : List (List Word)) (ws : List Word) (outer : ℕ → ℕ) → entry m x ≡ Some e → e.count ≡ k
    → Held m (Some x) ws dead outer → Walked (lowered x k e.node (record { map = m; dead = dead })) ws outer (live m + length dead)
lowered_keeps x zero e m dead ws outer h k p = absurd (omega (arith, p.positive x e h))
lowered_keeps x (suc c) e m dead ws outer h k p = last_keeps x c e m dead ws outer h k p

entry_keeps : (x : ℕ) (o : Option Entry) (m : Slots) (dead : List (List Word)) (ws : List Word) (outer : ℕ → ℕ) → entry m x ≡ o
    → Held m (Some x) ws dead outer → Walked (lower_entry x o (record { map = m; dead = dead })) ws outer (live m + length dead)
entry_keeps x None m dead ws outer h p = let z : count_of (entry m x) ≡ 0 = ap count_of h in absurd (omega (arith, p.by x, hit_same x))
entry_keeps x (Some e) m dead ws outer h p = lowered_keeps x e.count e m dead ws outer h refl p

slot_keeps : (s : Option ℕ) (m : Slots) (dead : List (List Word)) (ws : List Word) (outer : ℕ → ℕ)
    → Held m s ws dead outer → Walked (lower_slot s (record { map = m; dead = dead })) ws outer (live m + length dead)
slot_keeps None m dead ws outer p = record { waits = record { by = λ x. omega (arith, p.by x); positive = p.positive }; size = refl }
slot_keeps (Some x) m dead ws outer p = entry_keeps x (entry m x) m dead ws outer refl p

word_keeps : (w : Word) (ws : List Word) (m : Slots) (dead : List (List Word)) (outer : ℕ → ℕ)
    → Waits m (w ∷ ws) dead outer → Walked (lower_slot (slot_of w) (record { map = m; dead = dead })) ws outer (live m + length dead)
word_keeps w ws m dead outer p =
    slot_keeps (slot_of w) m dead ws outer (record {
      by = λ x. let e : count_of (entry m x) ≡ (hit_slot x (slot_of w) + refs x ws) + refs_all x dead + outer x + inner x m = p.by x in omega arith;
      positive = p.positive;
    })

all_keep : (ws : List Word) (m : Slots) (dead : List (List Word)) (outer : ℕ → ℕ)
    → Waits m ws dead outer → Walked (lower_all ws (record { map = m; dead = dead })) [] outer (live m + length dead)
all_keep [] m dead outer p = record { waits = p; size = refl }
all_keep (w ∷ ws) m dead outer p =
    let r : Rest = lower_slot (slot_of w) (record { map = m; dead = dead }) in
    let s : Walked r ws outer (live m + length dead) = word_keeps w ws m dead outer p in
    let t : Walked (lower_all ws r) [] outer (live r.map + length r.dead) = all_keep ws r.map r.dead outer s.waits in
    record { waits = t.waits; size = t.size ∙ s.size }

settle_keeps : (n : ℕ) (m : Slots) (dead : List (List Word)) (outer : ℕ → ℕ) → live m + length dead ≤ n → Waits m [] dead outer
    → Counted (settle n m dead) outer
settle_keeps n m [] outer le p = record { by = λ x. omega (arith, p.by x); positive = p.positive }
settle_keeps zero m (ws ∷ dead) outer le p = absurd (omega arith)
settle_keeps (suc n) m (ws ∷ dead) outer le p =
    let q : Waits m ws dead outer = record { by = λ x. omega (arith, p.by x); positive = p.positive } in
    let t : Walked (lower_all ws (record { map = m; dead = dead })) [] outer (live m + length dead) = all_keep ws m dead outer q in
    settle_keeps n _ _ outer (omega (arith, t.size)) t.waits

pub release_keeps : ReleaseKeeps
release_keeps ws m outer c =
    settle_keeps (suc (live m)) m (ws ∷ []) outer (omega arith) (record { by = λ x. omega (arith, c.by x); positive = c.positive })
