-- An element that is pushed on a builder that nothing else refers to: the slots are the same as if a new node had been made.
use Rattle.std.proofs.Common.{◌≡◌, ℕ, suc, ◌+◌, ◌-◌, ◌<◌, ◌≢◌, List, [], ◌∷◌, ◌++◌, Option, Some, None, refl, sym, ap, ◌∙◌, subst, arith}
use Rattle.std.proofs.Common.{if◌then◌else◌, eq-eqb, ne_eqb}
use Rattle.ddl_slots.specs.declared.node.Node.{Node}
use Rattle.ddl_slots.specs.declared.word.SlotId.{SlotId}
use Rattle.ddl_slots.specs.declared.word.Word.{Word}
use Rattle.ddl_slots.specs.declared.word.Word.TheVariants.{Ref}
use Rattle.ddl_slots.specs.Counted.{hit_slot, hit, refs}
use Rattle.ddl_slots.specs.Slots.{Entry, Slots, entry, set, put, live, slot_of, more_entry, dup_slot, dup, dup_all, Rest, lower_entry, lower_slot}
use Rattle.ddl_slots.specs.Slots.{lower_all, settle, release_all}
use Rattle.ddl_slots.proofs.Entries.{entry_trim, trim_same, entry_put, entry_other, live_put, same_or}

-- ---- counts that are higher

abbrev pub add : ℕ → Option Entry → Option Entry
add k None = None
add k (Some e) = Some (record { count = e.count + k; node = e.node })

add_zero : (o : Option Entry) → add 0 o ≡ o
add_zero None = refl
add_zero (Some e) = ap (λ c. Some (record { count = c; node = e.node })) (omega arith)

add_add : (j k : ℕ) (o : Option Entry) → add j (add k o) ≡ add (k + j) o
add_add j k None = refl
add_add j k (Some e) = ap (λ c. Some (record { count = c; node = e.node })) (omega arith)

more_is_add : (o : Option Entry) → more_entry o ≡ add 1 o
more_is_add None = refl
more_is_add (Some e) = refl

pub hit_same : (x : ℕ) → hit_slot x (Some x) ≡ 1
hit_same x = ap (λ t. if t then 1 else 0) (eq-eqb x x refl)

hit_other : (x y : ℕ) → x ≢ y → hit_slot x (Some y) ≡ 0
hit_other x y h = ap (λ t. if t then 1 else 0) (ne_eqb x y h)

dup_entry : (s : Option ℕ) (m : Slots) (y : ℕ) → entry (dup_slot s m) y ≡ add (hit_slot y s) (entry m y)
dup_entry None m y = sym (add_zero (entry m y))
dup_entry (Some x) m y = same_or y x
    (λ q. ap (entry (put m x (more_entry (entry m x)))) q ∙ entry_put m x (more_entry (entry m x)) ∙ more_is_add (entry m x)
    ∙ sym (ap (λ z. add (hit_slot z (Some x)) (entry m z)) q ∙ ap (λ k. add k (entry m x)) (hit_same x)))
    (λ q. entry_other m x y (more_entry (entry m x)) q ∙ sym (ap (λ k. add k (entry m y)) (hit_other y x q) ∙ add_zero (entry m y)))

-- each count is higher by the references that were added
dup_entries : (us : List Word) (m : Slots) (y : ℕ) → entry (dup_all us m) y ≡ add (refs y us) (entry m y)
dup_entries [] m y = sym (add_zero (entry m y))
dup_entries (w ∷ us) m y =
    dup_entries us (dup w m) y ∙ ap (add (refs y us)) (dup_entry (slot_of w) m y) ∙ add_add (refs y us) (hit_slot y (slot_of w)) (entry m y)

refs_more : (x : ℕ) (us : List Word) (w : Word) → refs x (us ++ w ∷ []) ≡ refs x us + hit x w
refs_more x [] w = omega arith
refs_more x (u ∷ us) w = omega (arith, refs_more x us w)

-- ---- references that were added go again

abbrev pub Positive : Slots → Type 0
Positive m = (x : ℕ) (e : Entry) → entry m x ≡ Some e → 0 < e.count

-- each count is that of a map and so many more, and no slot has gone
pub record Back (t : Rest) (base : Slots) (k : ℕ → ℕ) (dead : List (List Word)) : Type 0 where
  pub by : (y : ℕ) → entry t.map y ≡ add (k y) (entry base y)
  pub gone : t.dead ≡ dead

lower_some : (x : ℕ) (base m : Slots) (dead : List (List Word)) (k : ℕ → ℕ) (o : Option Entry) → entry base x ≡ o → Positive base
    → ((y : ℕ) → entry m y ≡ add (hit_slot y (Some x) + k y) (entry base y)) → Back (lower_slot (Some x) (record { map = m; dead = dead })) base k dead
lower_some x base m dead k None e p h =
    let r : Rest = record { map = m; dead = dead } in
    let n : entry m x ≡ None = h x ∙ ap (add (hit_slot x (Some x) + k x)) e in
    let q : lower_slot (Some x) r ≡ r = ap (λ o. lower_entry x o r) n in
    subst (λ t. Back t base k dead) (sym q) (record {
      by = λ y. same_or y x
          (λ s. ap (entry m) s ∙ n ∙ sym (ap (λ z. add (k z) (entry base z)) s ∙ ap (add (k x)) e))
          (λ d. h y ∙ ap (λ j. add j (entry base y)) (omega (arith, hit_other y x d)));
      gone = refl;
    })
lower_some x base m dead k (Some f) e p h =
    let r : Rest = record { map = m; dead = dead } in
    let c : 0 < f.count = p x f e in
    let j : ℕ = f.count + k x - 1 in
    let one : suc j ≡ f.count + k x = omega arith in
    let two : f.count + (hit_slot x (Some x) + k x) ≡ suc (suc j) = omega (arith, hit_same x) in
    let o : Option Entry = Some (record { count = suc j; node = f.node }) in
    let n : entry m x ≡ Some (record { count = suc (suc j); node = f.node }) =
    h x ∙ ap (add (hit_slot x (Some x) + k x)) e ∙ ap (λ z. Some (record { count = z; node = f.node })) two in
    let q : lower_slot (Some x) r ≡ record { map = put m x o; dead = dead } = ap (λ z. lower_entry x z r) n in
    subst (λ t. Back t base k dead) (sym q) (record {
      by = λ y. same_or y x
          (λ s. ap (entry (put m x o)) s ∙ entry_put m x o ∙ ap (λ z. Some (record { count = z; node = f.node })) one
          ∙ sym (ap (λ z. add (k z) (entry base z)) s ∙ ap (add (k x)) e))
          (λ d. entry_other m x y o d ∙ h y ∙ ap (λ j. add j (entry base y)) (omega (arith, hit_other y x d)));
      gone = refl;
    })

lower_back : (s : Option ℕ) (base m : Slots) (dead : List (List Word)) (k : ℕ → ℕ) → Positive base
    → ((y : ℕ) → entry m y ≡ add (hit_slot y s + k y) (entry base y)) → Back (lower_slot s (record { map = m; dead = dead })) base k dead
lower_back None base m dead k p h = record { by = λ y. h y ∙ ap (λ j. add j (entry base y)) (omega arith); gone = refl }
lower_back (Some x) base m dead k p h = lower_some x base m dead k (entry base x) refl p h

all_back : (us : List Word) (base m : Slots) (dead : List (List Word)) (k : ℕ → ℕ) → Positive base
    → ((y : ℕ) → entry m y ≡ add (refs y us + k y) (entry base y)) → Back (lower_all us (record { map = m; dead = dead })) base k dead
all_back [] base m dead k p h = record { by = λ y. h y ∙ ap (λ j. add j (entry base y)) (omega arith); gone = refl }
all_back (w ∷ us) base m dead k p h =
    let t : Rest = lower_slot (slot_of w) (record { map = m; dead = dead }) in
    let b : Back t base (λ y. refs y us + k y) dead =
    lower_back (slot_of w) base m dead (λ y. refs y us + k y) p (λ y. h y ∙ ap (λ j. add j (entry base y)) (omega arith)) in
    let c : Back (lower_all us t) base k t.dead = all_back us base t.map t.dead k p b.by in
    record { by = c.by; gone = c.gone ∙ b.gone }

-- ---- the push

last_one : (x : ℕ) (m : Slots) (n : Node) → entry m x ≡ Some (record { count = 1; node = n })
    → lower_slot (Some x) (record { map = m; dead = [] }) ≡ record { map = put m x None; dead = n.words ∷ [] }
last_one x m n h = ap (λ o. lower_entry x o (record { map = m; dead = [] })) h

settled_by : (n j : ℕ) (t : Rest) (ws : List Word) → n ≡ suc j → t.dead ≡ ws ∷ [] → (lower_all ws (record { map = t.map; dead = [] })).dead ≡ []
    → settle n t.map t.dead ≡ (lower_all ws (record { map = t.map; dead = [] })).map
settled_by n j t ws e d g =
    ap (λ l. settle n t.map l) d ∙ ap (λ z. settle z t.map (ws ∷ [])) e
    ∙ ap (λ l. settle j (lower_all ws (record { map = t.map; dead = [] })).map l) g

-- all but the builder is as it was, and the builder's slot is free
pub push_after : (m : Slots) (id : SlotId) (e : Entry) (item : Word) → entry m id.key ≡ Some e → e.count ≡ 1 → refs id.key e.node.words ≡ 0
    → hit id.key item ≡ 0 → Positive m → (y : ℕ)
    → entry (release_all (Ref id ∷ item ∷ []) (dup_all (e.node.words ++ item ∷ []) m)) y ≡ entry (put m id.key None) y
push_after m id e item h one none other p y =
    let x : ℕ = id.key in
    let ws : List Word = e.node.words in
    let us : List Word = ws ++ item ∷ [] in
    let m1 : Slots = dup_all us m in
    let first : entry m1 x ≡ Some (record { count = 1; node = e.node }) =
    dup_entries us m x ∙ ap (add (refs x us)) h ∙ ap (λ z. Some (record { count = z; node = e.node })) (omega (arith, refs_more x ws item)) in
    let base : Slots = put m x None in
    let positive : Positive base = λ z f g. same_or z x
    (λ q. let n : None ≡ Some f = sym (ap (entry base) q ∙ entry_put m x None) ∙ g in absurd (cc))
    (λ q. p z f (sym (entry_other m x z None q) ∙ g)) in
    let m2 : Slots = put m1 x None in
    let second : (z : ℕ) → entry m2 z ≡ add (hit_slot z (slot_of item) + refs z ws) (entry base z) = λ z. same_or z x
    (λ q. ap (entry m2) q ∙ entry_put m1 x None
    ∙ sym (ap (λ v. add (hit_slot z (slot_of item) + refs z ws) (entry base v)) q ∙ ap (add (hit_slot z (slot_of item) + refs z ws)) (entry_put m x None)))
    (λ q. entry_other m1 x z None q ∙ dup_entries us m z ∙ ap (λ k. add k (entry m z)) (omega (arith, refs_more z ws item))
    ∙ ap (add (hit_slot z (slot_of item) + refs z ws)) (sym (entry_other m x z None q))) in
    let t : Rest = lower_slot (slot_of item) (record { map = m2; dead = ws ∷ [] }) in
    let b : Back t base (λ z. refs z ws) (ws ∷ []) = lower_back (slot_of item) base m2 (ws ∷ []) (λ z. refs z ws) positive second in
    let c : Back (lower_all ws (record { map = t.map; dead = [] })) base (λ z. 0) [] =
    all_back ws base t.map [] (λ z. 0) positive (λ z. b.by z ∙ ap (λ k. add k (entry base z)) (omega arith)) in
    let r : lower_all (Ref id ∷ item ∷ []) (record { map = m1; dead = [] }) ≡ t = ap (λ z. lower_slot (slot_of item) z) (last_one x m1 e.node first) in
    let more : live m1 ≡ suc (live m2) = omega (arith, live_put m1 x (record { count = 1; node = e.node }) None first) in
    ap (λ (z : Rest). entry (settle (live m1) z.map z.dead) y) r
    ∙ ap (λ z. entry z y) (settled_by (live m1) (live m2) t ws more b.gone c.gone)
    ∙ c.by y ∙ add_zero (entry base y)

-- a slot that is set in maps that agree on all others
pub put_over : (a b : Slots) (x : ℕ) (o : Option Entry) → ((y : ℕ) → y ≢ x → entry a y ≡ entry b y) → put a x o ≡ put b x o
put_over a b x o h = trim_same (set a x o) (set b x o) (λ y.
    sym (entry_trim (set a x o) y) ∙ same_or y x
    (λ q. ap (entry (put a x o)) q ∙ entry_put a x o ∙ sym (ap (entry (put b x o)) q ∙ entry_put b x o))
    (λ q. entry_other a x y o q ∙ h y q ∙ sym (entry_other b x y o q)) ∙ entry_trim (set b x o) y)
