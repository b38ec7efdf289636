-- Cells that change, and the list of those that have gone.
use Rattle.std.proofs.Common.{◌≡◌, ℕ, zero, suc, ◌+◌, ◌-◌, ◌<◌, ◌≤◌, ◌≢◌, List, [], ◌∷◌, ◌++◌, length, map, take, Option, Some, None, refl, sym, ap, ◌∙◌, subst}
use Rattle.std.proofs.Common.{arith, get_or-set_same, get_or-set_other, set-set}
use Rattle.std.proofs.lemmas.List.Sums.{sum_by-cons}
use Rattle.std.specs.Prelude.{◌==◌, cond, IsSome, slice_index_or, slice_set, count_by, is_some, IfSome, IfOk, OnErr, Result, Ok, Err}
use Rattle.std.specs.declared.alloc.AllocFailed.{AllocFailed}
use Rattle.slab.specs.Slab.{Slab, Updates}
use Rattle.ddl_slot_map.specs.declared.cell.Cell.{Cell}
use Rattle.ddl_slot_map.specs.declared.cell.State.{State}
use Rattle.ddl_slot_map.specs.declared.cell.State.TheVariants.{Live, Gone}
use Rattle.ddl_slots.specs.declared.word.Word.{Word}
use Rattle.ddl_slots.specs.declared.node.Node.{Node}
use Rattle.ddl_slots.specs.Slots.{Entry, Slots, entry, put, trim, set, Rest, slot_of, last, lowered, lower_entry, lower_slot, lower_all, settle, live, is_live}
use Rattle.ddl_slots.specs.Slots.{release, release_all, made, more_entry, dup_slot}
use Rattle.ddl_slot_map.specs.View.{Cells, view_state, view_cell, shown, gone_state, gone_cell, gone, Link, Chain, Awaits, Walks, WalksAll, WalksRef, Settled}
use Rattle.ddl_slot_map.specs.View.{SettlesAll}
use Rattle.ddl_slots.proofs.Entries.{entry_trim, trim_same, entry_put, entry_other, live_put, live_trim, same_or}

pub cell_in : (cs : Cells) (x : ℕ) (c : Cell) → slice_index_or cs x None ≡ Some c → x < length cs
cell_in [] x c h = absurd (cc)
cell_in (o ∷ cs) zero c h = omega arith
cell_in (o ∷ cs) (suc x) c h = let r : x < length cs = cell_in cs x c h in omega arith

map_at : (cs : Cells) (x : ℕ) → entry (map view_cell cs) x ≡ view_cell (slice_index_or cs x None)
map_at [] x = refl
map_at (o ∷ cs) zero = refl
map_at (o ∷ cs) (suc x) = map_at cs x

pub shown_at : (cs : Cells) (x : ℕ) → entry (shown cs) x ≡ view_cell (slice_index_or cs x None)
shown_at cs x = entry_trim (map view_cell cs) x ∙ map_at cs x

-- cells that differ at one place show maps that differ there
pub shown_by : (cs new : Cells) (x : ℕ) (o : Option Cell) → slice_index_or new x None ≡ o
    → ((y : ℕ) → y ≢ x → slice_index_or new y None ≡ slice_index_or cs y None) → shown new ≡ put (shown cs) x (view_cell o)
shown_by cs new x o hx hy = trim_same (map view_cell new) (set (shown cs) x (view_cell o))
    (λ y. map_at new y ∙ same_or y x
    (λ e. ap (λ z. view_cell (slice_index_or new z None)) e ∙ ap view_cell hx
    ∙ sym (sym (entry_trim (set (shown cs) x (view_cell o)) y) ∙ ap (λ z. entry (put (shown cs) x (view_cell o)) z) e
    ∙ entry_put (shown cs) x (view_cell o)))
    (λ ne. ap view_cell (hy y ne) ∙ sym (shown_at cs y) ∙ sym (sym (entry_trim (set (shown cs) x (view_cell o)) y)
    ∙ entry_other (shown cs) x y (view_cell o) ne)))

pub shown_set : (cs : Cells) (x : ℕ) (o : Option Cell) → x < length cs → shown (slice_set cs x o) ≡ put (shown cs) x (view_cell o)
shown_set cs x o h = shown_by cs (slice_set cs x o) x o (get_or-set_same cs x o None h) (λ y ne. get_or-set_other cs x y o None ne)

pub gone_set : (cs : Cells) (x : ℕ) (o : Option Cell) → x < length cs → gone (slice_set cs x o) + gone_cell (slice_index_or cs x None) ≡ gone cs + gone_cell o
gone_set [] x o h = absurd (omega arith)
gone_set (p ∷ cs) zero o h = omega arith
gone_set (p ∷ cs) (suc x) o h = let r : gone (slice_set cs x o) + gone_cell (slice_index_or cs x None) ≡ gone cs + gone_cell o =
    gone_set cs x o (omega arith) in omega arith

set_swap : (cs : Cells) (x y : ℕ) (a b : Option Cell) → x ≢ y → slice_set (slice_set cs x a) y b ≡ slice_set (slice_set cs y b) x a
set_swap [] x y a b h = refl
set_swap (p ∷ cs) zero zero a b h = absurd (h refl)
set_swap (p ∷ cs) zero (suc y) a b h = refl
set_swap (p ∷ cs) (suc x) zero a b h = refl
set_swap (p ∷ cs) (suc x) (suc y) a b h = ap (λ l. p ∷ l) (set_swap cs x y a b (λ q. h (ap suc q)))

link_gone : (cs : Cells) (d : ℕ) (next : Option ℕ) (ws : List Word) → Link cs d next ws → gone_cell (slice_index_or cs d None) ≡ 1
link_gone cs d next ws l = ap gone_cell l.there ∙ ap gone_state l.is

-- another cell changes
pub chain_set : (cs : Cells) (d : Option ℕ) (r : List (List Word)) (x : ℕ) (o : Option Cell) → gone_cell (slice_index_or cs x None) ≡ 0 → Chain cs d r
    → Chain (slice_set cs x o) d r
chain_set cs None [] x o h c = tt
chain_set cs None (ws ∷ r) x o h c = c
chain_set cs (Some d) [] x o h c = c
chain_set cs (Some d) (ws ∷ r) x o h c =
    let l : Link cs d c.0 ws = c.1 in
    let ne : d ≢ x = λ q. let a : gone_cell (slice_index_or cs d None) ≡ 1 = link_gone cs d c.0 ws l in let b : gone_cell (slice_index_or cs d None) ≡ 0 =
    ap (λ z. gone_cell (slice_index_or cs z None)) q ∙ h in absurd (omega arith) in
    let ne' : x ≢ d = λ q. ne (sym q) in (
      c.0,
      record { cell = l.cell; there = get_or-set_other cs x d o None ne ∙ l.there; is = l.is; words = l.words },
      subst (λ z. Chain z c.0 r) (set_swap cs d x None o ne)
          (chain_set (slice_set cs d None) c.0 r x o (ap gone_cell (get_or-set_other cs d x None None ne') ∙ h) c.2),
    )

lower_at : (x : ℕ) (e : Entry) (k : ℕ) (m : Slots) (r : List (List Word)) → entry m x ≡ Some e → e.count ≡ suc k
    → lower_slot (Some x) (record { map = m; dead = r }) ≡ last x k e.node (record { map = m; dead = r })
lower_at x e k m r h c = ap (λ o. lower_entry x o (record { map = m; dead = r })) h ∙ ap (λ n. lowered x n e.node (record { map = m; dead = r })) c

pub live_entry : (cs : Cells) (x : ℕ) (c : Cell) (n : ℕ) → slice_index_or cs x None ≡ Some c → c.state ≡ Live n
    → entry (shown cs) x ≡ Some (record { count = n; node = c.node })
live_entry cs x c n h s = shown_at cs x ∙ ap view_cell h ∙ ap (λ z. view_state z c.node) s

walks_by : (old : Cells) (d : Option ℕ) (new : Cells) (d' : Option ℕ) (t u : Rest) → u ≡ t → Awaits new d' t.dead → shown new ≡ t.map → Walks old d u new d'
walks_by old d new d' t u e a m = record {
  awaits = subst (λ (z : Rest). Awaits new d' z.dead) (sym e) a;
  map = m ∙ ap (λ (z : Rest). z.map) (sym e);
}

pub kept_walks : (cs : Cells) (d : Option ℕ) (x : ℕ) (c : Cell) (n : ℕ) → slice_index_or cs x None ≡ Some c → c.state ≡ Live n → 1 < n
    → WalksRef cs d (Some x) (slice_set cs x (Some (record { state = Live (n - 1); node = c.node }))) d
kept_walks cs d x c n h s l r a =
    let k : ℕ = n - 2 in
    let o : Option Cell = Some (record { state = Live (n - 1); node = c.node }) in
    let e : Entry = record { count = n; node = c.node } in
    let inside : x < length cs = cell_in cs x c h in
    let z : gone_cell (slice_index_or cs x None) ≡ 0 = ap gone_cell h ∙ ap gone_state s in
    let two : n ≡ suc (suc k) = omega arith in
    let less : n - 1 ≡ suc k = omega arith in
    walks_by cs d (slice_set cs x o) d (record { map = put (shown cs) x (Some (record { count = suc k; node = c.node })); dead = r }) _
    (lower_at x e (suc k) (shown cs) r (live_entry cs x c n h s) two)
    (record { chain = chain_set cs d r x o z a.chain; all = omega (arith, gone_set cs x o inside, a.all) })
    (shown_set cs x o inside ∙ ap (λ j. put (shown cs) x (Some (record { count = j; node = c.node }))) less)

pub gone_walks : (cs : Cells) (d : Option ℕ) (x : ℕ) (c : Cell) (n : ℕ) → slice_index_or cs x None ≡ Some c → c.state ≡ Live n → n ≡ 1
    → WalksRef cs d (Some x) (slice_set cs x (Some (record { state = Gone d; node = c.node }))) (Some x)
gone_walks cs d x c n h s l r a =
    let g : Cell = record { state = Gone d; node = c.node } in
    let e : Entry = record { count = n; node = c.node } in
    let inside : x < length cs = cell_in cs x c h in
    let z : gone_cell (slice_index_or cs x None) ≡ 0 = ap gone_cell h ∙ ap gone_state s in
    walks_by cs d (slice_set cs x (Some g)) (Some x) (record { map = put (shown cs) x None; dead = c.node.words ∷ r }) _
    (lower_at x e zero (shown cs) r (live_entry cs x c n h s) l)
    (record {
      chain = (
        d,
        record { cell = g; there = get_or-set_same cs x (Some g) None inside; is = refl; words = refl },
        subst (λ q. Chain q d r) (sym (set-set cs x (Some g) None)) (chain_set cs d r x None z a.chain),
      );
      all = omega (arith, gone_set cs x (Some g) inside, a.all);
    })
    (shown_set cs x (Some g) inside)

-- nothing is live there
none_entry : (x : ℕ) (t : Rest) (o : Option Entry) → entry t.map x ≡ o → ((e : Entry) → o ≡ Some e → e.count ≡ 0) → lower_slot (Some x) t ≡ t
none_entry x t None h z = ap (λ o. lower_entry x o t) h
none_entry x t (Some e) h z = ap (λ o. lower_entry x o t) h ∙ ap (λ n. lowered x n e.node t) (z e refl)

pub zero_walks : (cs : Cells) (d : Option ℕ) (x : ℕ) → ((c : Cell) (n : ℕ) → slice_index_or cs x None ≡ Some c → c.state ≡ Live n → n ≡ 0)
    → WalksRef cs d (Some x) cs d
zero_walks cs d x z r a =
    walks_by cs d cs d (record { map = shown cs; dead = r }) _
    (none_entry x (record { map = shown cs; dead = r }) (view_cell (slice_index_or cs x None)) (shown_at cs x) (λ e h.
    by_cell (slice_index_or cs x None) refl e h))
    a refl
  where
    by_state : (c : Cell) (s : State) (n : Node) (e : Entry) → slice_index_or cs x None ≡ Some c → c.state ≡ s → view_state s n ≡ Some e → e.count ≡ 0
    by_state c (Live k) n e hc hs h = let q : record { count = k; node = n } ≡ e = cc in sym (ap (λ (y : Entry). y.count) q) ∙ z c k hc hs
    by_state c (Gone next) n e hc hs h = absurd (cc)

    by_cell : (o : Option Cell) → slice_index_or cs x None ≡ o → (e : Entry) → view_cell o ≡ Some e → e.count ≡ 0
    by_cell None ho e h = absurd (cc)
    by_cell (Some c) ho e h = by_state c c.state c.node e ho refl h

pub no_walks : (cs : Cells) (d : Option ℕ) → WalksRef cs d None cs d
no_walks cs d r a = record { awaits = a; map = refl }

pub none_walks : (cs : Cells) (d : Option ℕ) → WalksAll cs d [] cs d
none_walks cs d r a = record { awaits = a; map = refl }

lower_more : (ws vs : List Word) (t : Rest) → lower_all (ws ++ vs) t ≡ lower_all vs (lower_all ws t)
lower_more [] vs t = refl
lower_more (w ∷ ws) vs t = lower_more ws vs (lower_slot (slot_of w) t)

-- some words, then one more
pub walks_on : (a b c : Cells) (d e f : Option ℕ) (ws : List Word) (w : Word) → WalksAll a d ws b e → WalksRef b e (slot_of w) c f
    → WalksAll a d (ws ++ w ∷ []) c f
walks_on a b c d e f ws w p q r h =
    let s : Rest = lower_all ws (record { map = shown a; dead = r }) in
    let u = p r h in
    let v = q s.dead u.awaits in
    let m : lower_slot (slot_of w) (record { map = shown b; dead = s.dead }) ≡ lower_slot (slot_of w) s =
    ap (λ z. lower_slot (slot_of w) (record { map = z; dead = s.dead })) u.map in
    walks_by a d c f (lower_slot (slot_of w) (record { map = shown b; dead = s.dead })) _ (lower_more ws (w ∷ []) (record { map = shown a; dead = r })
    ∙ sym m) v.awaits v.map

-- what is left to walk ends in this map
pub record Settles (cs : Cells) (d : Option ℕ) (result : Slots) : Type 0 where
  pub r : List (List Word)
  pub n : ℕ
  pub awaits : Awaits cs d r
  pub rest : settle n (shown cs) r ≡ result
  pub fuel : live (shown cs) + length r ≤ n

last_size : (x k : ℕ) (e : Entry) (m : Slots) (r : List (List Word)) → entry m x ≡ Some e
    → live (last x k e.node (record { map = m; dead = r })).map + length (last x k e.node (record { map = m; dead = r })).dead ≡ live m + length r
last_size x zero e m r h = omega (arith, live_put m x e None h)
last_size x (suc k) e m r h = omega (arith, live_put m x e (Some (record { count = suc k; node = e.node })) h)

lowered_size : (x n : ℕ) (e : Entry) (m : Slots) (r : List (List Word)) → entry m x ≡ Some e
    → live (lowered x n e.node (record { map = m; dead = r })).map + length (lowered x n e.node (record { map = m; dead = r })).dead ≡ live m + length r
lowered_size x zero e m r h = refl
lowered_size x (suc k) e m r h = last_size x k e m r h

entry_size : (x : ℕ) (o : Option Entry) (m : Slots) (r : List (List Word)) → entry m x ≡ o
    → live (lower_entry x o (record { map = m; dead = r })).map + length (lower_entry x o (record { map = m; dead = r })).dead ≡ live m + length r
entry_size x None m r h = refl
entry_size x (Some e) m r h = lowered_size x e.count e m r h

slot_size : (o : Option ℕ) (m : Slots) (r : List (List Word))
    → live (lower_slot o (record { map = m; dead = r })).map + length (lower_slot o (record { map = m; dead = r })).dead ≡ live m + length r
slot_size None m r = refl
slot_size (Some x) m r = entry_size x (entry m x) m r refl

all_size : (ws : List Word) (m : Slots) (r : List (List Word))
    → live (lower_all ws (record { map = m; dead = r })).map + length (lower_all ws (record { map = m; dead = r })).dead ≡ live m + length r
all_size [] m r = refl
all_size (w ∷ ws) m r = let t : Rest = lower_slot (slot_of w) (record { map = m; dead = r }) in all_size ws t.map t.dead ∙ slot_size (slot_of w) m r

pub settles_begins : (cs : Cells) (d : Option ℕ) (r : List (List Word)) (n : ℕ) → Awaits cs d r → live (shown cs) + length r ≤ n
    → Settles cs d (settle n (shown cs) r)
settles_begins cs d r n a f = record { r = r; n = n; awaits = a; rest = refl; fuel = f }

-- what a release does, and then what is left to follow
settled_from : (old mid new : Cells) (c d : Option ℕ) (t : Rest) (n : ℕ) → Walks old c t mid d → live t.map + length t.dead ≤ n → SettlesAll mid d new
    → Settled new (settle n t.map t.dead)
settled_from old mid new c d t n u f s =
    subst (λ m. Settled new (settle n m t.dead)) u.map (s t.dead n u.awaits (let e : live (shown mid) ≡ live t.map = ap live u.map in omega arith))

-- one reference goes
pub released : (cs mid new : Cells) (d : Option ℕ) (x : ℕ) → gone cs ≡ 0 → WalksRef cs None (Some x) mid d → SettlesAll mid d new
    → Settled new (release x (shown cs))
released cs mid new d x g w s =
    settled_from cs mid new None d (lower_slot (Some x) (record { map = shown cs; dead = [] })) (live (shown cs)) (w [] (record { chain = tt; all = g }))
    (omega (arith, slot_size (Some x) (shown cs) [])) s

-- the references of some words go
pub released_all : (cs mid new : Cells) (d : Option ℕ) (ws : List Word) → gone cs ≡ 0 → WalksAll cs None ws mid d → SettlesAll mid d new
    → Settled new (release_all ws (shown cs))
released_all cs mid new d ws g w s =
    settled_from cs mid new None d (lower_all ws (record { map = shown cs; dead = [] })) (live (shown cs)) (w [] (record { chain = tt; all = g }))
    (omega (arith, all_size ws (shown cs) [])) s

map_gone : (cs : Cells) (d : ℕ) → view_cell (slice_index_or cs d None) ≡ None → map view_cell (slice_set cs d None) ≡ map view_cell cs
map_gone [] d h = refl
map_gone (o ∷ cs) zero h = ap (λ v. v ∷ map view_cell cs) (sym h)
map_gone (o ∷ cs) (suc d) h = ap (λ l. view_cell o ∷ l) (map_gone cs d h)

shown_gone : (cs : Cells) (d : ℕ) → view_cell (slice_index_or cs d None) ≡ None → shown (slice_set cs d None) ≡ shown cs
shown_gone cs d h = ap trim (map_gone cs d h)

next_by : (cs new : Cells) (d n : ℕ) (cell : Cell) (d' : Option ℕ) (result : Slots) (r : List (List Word)) → Awaits cs (Some d) r
    → settle n (shown cs) r ≡ result → live (shown cs) + length r ≤ n → slice_index_or cs d None ≡ Some cell
    → ((next : Option ℕ) → cell.state ≡ Gone next → WalksAll (slice_set cs d None) next cell.node.words new d') → Settles new d' result
next_by cs new d n cell d' result [] a s f h w = absurd a.chain
next_by cs new d zero cell d' result (ws ∷ r) a s f h w = absurd (omega arith)
next_by cs new d (suc n) cell d' result (ws ∷ r) a s f h w =
    let next : Option ℕ = a.chain.0 in
    let l : Link cs d next ws = a.chain.1 in
    let same : Some cell ≡ Some l.cell = sym h ∙ l.there in
    let same' : cell ≡ l.cell = cc in
    let is : cell.state ≡ Gone next = ap (λ (z : Cell). z.state) same' ∙ l.is in
    let words : cell.node.words ≡ ws = ap (λ (z : Cell). z.node.words) same' ∙ l.words in
    let hidden : view_cell (slice_index_or cs d None) ≡ None = ap view_cell h ∙ ap (λ z. view_state z cell.node) is in
    let kept : shown (slice_set cs d None) ≡ shown cs = shown_gone cs d hidden in
    let one : gone_cell (slice_index_or cs d None) ≡ 1 = ap gone_cell h ∙ ap gone_state is in
    let u = w next is r (record { chain = a.chain.2; all = omega (arith, gone_set cs d None (cell_in cs d cell h), a.all) }) in
    let t : Rest = lower_all ws (record { map = shown cs; dead = r }) in
    let e : lower_all cell.node.words (record { map = shown (slice_set cs d None); dead = r }) ≡ t =
    ap (λ m. lower_all cell.node.words (record { map = m; dead = r })) kept ∙ ap (λ v. lower_all v (record { map = shown cs; dead = r })) words in
    record {
      r = t.dead;
      n = n;
      awaits = subst (λ (z : Rest). Awaits new d' z.dead) e u.awaits;
      rest = ap (λ m. settle n m t.dead) (u.map ∙ ap (λ (z : Rest). z.map) e) ∙ s;
      fuel = let q : live (shown new) ≡ live t.map = ap live (u.map ∙ ap (λ (z : Rest). z.map) e) in omega (arith, all_size ws (shown cs) r);
    }

pub settles_next : (cs new : Cells) (d : ℕ) (cell : Cell) (d' : Option ℕ) (result : Slots) → Settles cs (Some d) result → slice_index_or cs d None ≡ Some cell
    → ((next : Option ℕ) → cell.state ≡ Gone next → WalksAll (slice_set cs d None) next cell.node.words new d') → Settles new d' result
settles_next cs new d cell d' result s h w = next_by cs new d s.n cell d' result s.r s.awaits s.rest s.fuel h w

end_by : (cs : Cells) (n : ℕ) (result : Slots) (r : List (List Word)) → Awaits cs None r → settle n (shown cs) r ≡ result → Settled cs result
end_by cs n result [] a s = record { map = s; none = a.all }
end_by cs n result (ws ∷ r) a s = absurd a.chain

pub settles_end : (cs : Cells) (result : Slots) → Settles cs None result → Settled cs result
settles_end cs result s = end_by cs s.n result s.r s.awaits s.rest

there_by : (cs : Cells) (d : ℕ) (r : List (List Word)) → Chain cs (Some d) r → (c : Cell) × (slice_index_or cs d None ≡ Some c)
there_by cs d [] c = absurd c
there_by cs d (ws ∷ r) c = (c.1.cell, c.1.there)

pub settles_there : (cs : Cells) (d : ℕ) (result : Slots) → Settles cs (Some d) result → (c : Cell) × (slice_index_or cs d None ≡ Some c)
settles_there cs d result s = there_by cs d s.r s.awaits.chain

-- one that is named is there
pub settles_absent : {P : Type 0} (cs : Cells) (d : ℕ) (result : Slots) → Settles cs (Some d) result → slice_index_or cs d None ≡ None → P
settles_absent cs d result s h = let t : (c : Cell) × (slice_index_or cs d None ≡ Some c) = settles_there cs d result s in
    let e : None ≡ Some t.0 = sym h ∙ t.1 in absurd (cc)

pub take_next : (ws : List Word) (i : ℕ) (w d : Word) → i < length ws → slice_index_or ws i d ≡ w → take (i + 1) ws ≡ take i ws ++ w ∷ []
take_next [] i w d h e = absurd (omega arith)
take_next (v ∷ ws) zero w d h e = ap (λ z. z ∷ []) e
take_next (v ∷ ws) (suc i) w d h e = ap (λ k. take k (v ∷ ws)) (let q : suc i + 1 ≡ suc (i + 1) = omega arith in q)
    ∙ ap (λ l. v ∷ l) (take_next ws i w d (omega arith) e)

-- the walk of one word more
pub walks_next : (a b c : Cells) (d e f : Option ℕ) (ws : List Word) (i : ℕ) (w z : Word) → i < length ws → slice_index_or ws i z ≡ w
    → WalksAll a d (take i ws) b e → WalksRef b e (slot_of w) c f → WalksAll a d (take (i + 1) ws) c f
walks_next a b c d e f ws i w z h q p r = subst (λ l. WalksAll a d l c f) (sym (take_next ws i w z h q)) (walks_on a b c d e f (take i ws) w p r)

pub walks_to : (a m n : Cells) (d f g : Option ℕ) (l : List Word) → m ≡ n → g ≡ f → WalksAll a d l n f → WalksAll a d l m g
walks_to a m n d f g l p q w = subst (λ x. WalksAll a d l x g) (sym p) (subst (λ x. WalksAll a d l n x) (sym q) w)

pub walks_from : (a a' n : Cells) (d d' f : Option ℕ) (l l' : List Word) → a ≡ a' → d ≡ d' → l ≡ l' → WalksAll a d l n f → WalksAll a' d' l' n f
walks_from a a' n d d' f l l' p q r w = subst (λ x. WalksAll x d' l' n f) p (subst (λ x. WalksAll a x l' n f) q (subst (λ x. WalksAll a d x n f) r w))

pub ref_is : (a n : Cells) (d f : Option ℕ) (o p : Option ℕ) → o ≡ p → WalksRef a d o n f → WalksRef a d p n f
ref_is a n d f o p e w = subst (λ x. WalksRef a d x n f) e w

pub same_next : (s : State) (p q n : Option ℕ) → s ≡ Gone p → q ≡ p → s ≡ Gone n → q ≡ n
same_next s p q n h k e = cc

pub not_live : (s : State) (p q n : Option ℕ) (c : ℕ) → s ≡ Live c → s ≡ Gone n → q ≡ n
not_live s p q n c h e = absurd (cc)

-- make and dup ----------------------------------------------------------------

pub gone_at : (cs : Cells) (x : ℕ) → gone cs ≡ 0 → gone_cell (slice_index_or cs x None) ≡ 0
gone_at [] x h = refl
gone_at (o ∷ cs) zero h = omega arith
gone_at (o ∷ cs) (suc x) h = gone_at cs x (omega arith)

none_gone : (cs : Cells) → ((x : ℕ) → gone_cell (slice_index_or cs x None) ≡ 0) → gone cs ≡ 0
none_gone [] h = refl
none_gone (o ∷ cs) h = let a : gone_cell o ≡ 0 = h zero in let b : gone cs ≡ 0 = none_gone cs (λ x. h (suc x)) in omega arith

pub insert_gone : (old new : Slab Cell) (x : ℕ) (c : Cell) (n : ℕ) → c.state ≡ Live n → Updates old new x (Some c) → gone old.slots ≡ 0 → gone new.slots ≡ 0
insert_gone old new x c n s u g = none_gone new.slots (λ y. same_or y x
    (λ e. ap (λ z. gone_cell (slice_index_or new.slots z None)) e ∙ ap gone_cell u.changed ∙ ap gone_state s)
    (λ ne. ap gone_cell (u.others y ne) ∙ gone_at old.slots y g))

pub insert_made : (old new : Slab Cell) (x : ℕ) (n : Node) → Updates old new x (Some (record { state = Live 1; node = n }))
    → shown new.slots ≡ made x n (shown old.slots)
insert_made old new x n u = shown_by old.slots new.slots x (Some (record { state = Live 1; node = n })) u.changed u.others

pub vacant_entry : (cs : Cells) (x : ℕ) → slice_index_or cs x None ≡ None → entry (shown cs) x ≡ None
vacant_entry cs x h = shown_at cs x ∙ ap view_cell h

pub more_gone : (cs : Cells) (x : ℕ) (c : Cell) (n : ℕ) → slice_index_or cs x None ≡ Some c → gone cs ≡ 0
    → gone (slice_set cs x (Some (record { state = Live n; node = c.node }))) ≡ 0
more_gone cs x c n h g = let a : gone_cell (slice_index_or cs x None) ≡ 0 =
    gone_at cs x g in omega (arith, gone_set cs x (Some (record { state = Live n; node = c.node })) (cell_in cs x c h))

pub more_shown : (cs : Cells) (x : ℕ) (c : Cell) (n : ℕ) → slice_index_or cs x None ≡ Some c → c.state ≡ Live n
    → shown (slice_set cs x (Some (record { state = Live (n + 1); node = c.node }))) ≡ dup_slot (Some x) (shown cs)
more_shown cs x c n h s = shown_set cs x (Some (record { state = Live (n + 1); node = c.node })) (cell_in cs x c h)
    ∙ sym (ap (λ o. put (shown cs) x (more_entry o)) (live_entry cs x c n h s))

count_live : (cs : Cells) → gone cs ≡ 0 → count_by is_some cs ≡ live (map view_cell cs)
count_live [] g = refl
count_live (None ∷ cs) g = let r : count_by is_some cs ≡ live (map view_cell cs) =
    count_live cs (omega arith) in omega (arith, r, sum_by-cons (λ (o : Option Cell). cond (is_some o) 1 0) None cs)
count_live (Some c ∷ cs) g = one c.state refl (count_live cs (omega arith))
  where
    one : (s : State) → c.state ≡ s → count_by is_some cs ≡ live (map view_cell cs) → count_by is_some (Some c ∷ cs) ≡ live (map view_cell (Some c ∷ cs))
    one (Live n) e r = let k : is_live (view_state c.state c.node) ≡ 1 = ap (λ z. is_live (view_state z c.node)) e
        in omega (arith, k, r, sum_by-cons (λ (o : Option Cell). cond (is_some o) 1 0) (Some c) cs)
    one (Gone next) e r = let k : gone_state c.state ≡ 1 = ap gone_state e in absurd (omega (arith, k, g))

pub live_is : (cs : Cells) → gone cs ≡ 0 → count_by is_some cs ≡ live (shown cs)
live_is cs g = count_live cs g ∙ sym (live_trim (map view_cell cs))

-- where nothing is written or nothing has to be done --------------------------

pub set_own : (cs : Cells) (x : ℕ) (c : Cell) → slice_index_or cs x None ≡ Some c → slice_set cs x (Some c) ≡ cs
set_own [] x c h = absurd (cc)
set_own (o ∷ cs) zero c h = ap (λ z. z ∷ cs) (sym h)
set_own (o ∷ cs) (suc x) c h = ap (λ l. o ∷ l) (set_own cs x c h)

as_written : (cs : Cells) (d : Option ℕ) (x : ℕ) (c : Cell) → slice_index_or cs x None ≡ Some c → WalksRef cs d (Some x) cs d
    → WalksRef cs d (Some x) (slice_set cs x (Some c)) d
as_written cs d x c h w = subst (λ l. WalksRef cs d (Some x) l d) (sym (set_own cs x c h)) w

pub zero_stays : (cs : Cells) (d : Option ℕ) (x : ℕ) (c : Cell) (n : ℕ) → slice_index_or cs x None ≡ Some c → c.state ≡ Live n → n ≡ 0
    → WalksRef cs d (Some x) (slice_set cs x (Some c)) d
zero_stays cs d x c n h s z = as_written cs d x c h (zero_walks cs d x (λ c' n' h' s'. let a : Some c ≡ Some c' = sym h ∙ h' in let b : c ≡ c' =
    cc in let e : Live n ≡ Live n' = sym s ∙ ap (λ (y : Cell). y.state) b ∙ s' in let q : n ≡ n' = cc in sym q ∙ z))

pub gone_stays : (cs : Cells) (d : Option ℕ) (x : ℕ) (c : Cell) (next : Option ℕ) → slice_index_or cs x None ≡ Some c → c.state ≡ Gone next
    → WalksRef cs d (Some x) (slice_set cs x (Some c)) d
gone_stays cs d x c next h s = as_written cs d x c h (zero_walks cs d x (λ c' n' h' s'. let a : Some c ≡ Some c' = sym h ∙ h' in let b : c ≡ c' =
    cc in let e : Gone next ≡ Live n' = sym s ∙ ap (λ (y : Cell). y.state) b ∙ s' in absurd (cc)))

pub absent_stays : (cs : Cells) (d : Option ℕ) (x : ℕ) → slice_index_or cs x None ≡ None → WalksRef cs d (Some x) cs d
absent_stays cs d x h = zero_walks cs d x (λ c' n' h' s'. let a : None ≡ Some c' = sym h ∙ h' in absurd (cc))

-- all cells are live
pub not_gone : (cs : Cells) (x : ℕ) (c : Cell) (next : Option ℕ) → gone cs ≡ 0 → slice_index_or cs x None ≡ Some c → c.state ≡ Gone next → ⊥
not_gone cs x c next g h s = let a : gone_cell (slice_index_or cs x None) ≡ 0 = gone_at cs x g in let b : gone_cell (slice_index_or cs x None) ≡ 1 =
    ap gone_cell h ∙ ap gone_state s in omega arith

pub node_is : (cs : Cells) (x : ℕ) (c : Cell) → gone cs ≡ 0 → slice_index_or cs x None ≡ Some c → IfSome (entry (shown cs) x) (λ e. c.node ≡ e.node)
node_is cs x c g h = by_state c.state refl
  where
    by_state : (s : State) → c.state ≡ s → IfSome (entry (shown cs) x) (λ e. c.node ≡ e.node)
    by_state (Live n) e = subst (λ o. IfSome o (λ (z : Entry). c.node ≡ z.node)) (sym (live_entry cs x c n h e)) refl
    by_state (Gone next) e = absurd (not_gone cs x c next g h e)

pub make_gone : (old new : Slab Cell) (r : Result ℕ (AllocFailed Cell)) (n : Node)
    → IfOk r (λ key. Updates old new key (Some (record { state = Live 1; node = n }))) → OnErr r (new ≡ record old { capacity = new.capacity })
    → gone old.slots ≡ 0 → gone new.slots ≡ 0
make_gone old new (Ok key) n u e g = insert_gone old new key (record { state = Live 1; node = n }) 1 refl u g
make_gone old new (Err failed) n u e g = ap (λ (s : Slab Cell). gone s.slots) e ∙ g

pub none_is_none : IsSome {T = Entry} None → ⊥
none_is_none h = cc

pub there_is : (cs : Cells) (x : ℕ) → IsSome (entry (shown cs) x) → IsSome (slice_index_or cs x None)
there_is cs x h = by_cell (slice_index_or cs x None) refl
  where
    by_cell : (o : Option Cell) → slice_index_or cs x None ≡ o → IsSome (slice_index_or cs x None)
    by_cell None e = absurd (none_is_none (subst (λ (o : Option Entry). IsSome o) (shown_at cs x ∙ ap view_cell e) h))
    by_cell (Some c) e = subst (λ (o : Option Cell). IsSome o) (sym e) refl

pub less_gone : (cs : Cells) (x : ℕ) (c : Cell) → slice_index_or cs x None ≡ Some c → gone cs ≡ 0 → gone (slice_set cs x None) ≡ 0
less_gone cs x c h g = let a : gone_cell (slice_index_or cs x None) ≡ 0 = gone_at cs x g in omega (arith, gone_set cs x None (cell_in cs x c h))

pub count_is : (cs : Cells) (x : ℕ) (c : Cell) (n : ℕ) → slice_index_or cs x None ≡ Some c → c.state ≡ Live n
    → IfSome (entry (shown cs) x) (λ e. (n == 1) ≡ (e.count == 1))
count_is cs x c n h s = subst (λ o. IfSome o (λ (z : Entry). (n == 1) ≡ (z.count == 1))) (sym (live_entry cs x c n h s)) refl
