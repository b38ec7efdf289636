-- One local name more, one less, and the search for the innermost.
use Rattle.std.proofs.Common.{◌≡◌, ℕ, suc, ◌<◌, List, [], ◌∷◌, ◌++◌, length, map, reverse, drop, get_or, Bool, true, false, cond, Some, None, refl, ap, sym}
use Rattle.std.proofs.Common.{subst, ◌∙◌, true≢false, is_some, arith}
use Rattle.std.specs.Prelude.{bytes_eq, find, unwrap_or}
use Rattle.std.specs.HashMap.{HashMap}
use Rattle.std.specs.Cmp.Lexicographic.{bytes_decides}
use Rattle.std.proofs.lemmas.List.{get_or_append_left, length-reverse, reverse-append, reverse-reverse}
use Rattle.std.proofs.Math.Seq.{get_or-append_seam}
use denote.Ref.{Bor}
use Rattle.ddl_uses.specs.declared.scope.Local.{Local}
use Rattle.ddl_uses.specs.Scope.{in_scope}
use Rattle.ddl_uses.specs.Held.{AreLinked, IsLatest, at_text, local_view, names_view, number_of}

innermost : (ls : List Local) (l : Local) → reverse (ls ++ l ∷ []) ≡ l ∷ reverse ls
innermost ls l = reverse-append ls (l ∷ [])

-- ---- one more

pub bound_view : (ls : List Local) (l : Local) → names_view (ls ++ l ∷ []) ≡ local_view l ∷ names_view ls
bound_view ls l = ap (map local_view) (innermost ls l)

pub bound_latest : {S : Type 0} (ls : List Local) (l : Local) (old new : HashMap (Bor (List ℕ)) ℕ S) → IsLatest ls old → l.hides ≡ at_text old l.name.now.text
    → ((q : List ℕ) → at_text new q ≡ cond (bytes_eq l.name.now.text q) (Some (length ls)) (at_text old q)) → IsLatest (ls ++ l ∷ []) new
bound_latest ls l old new h e u = (subst AreLinked (sym (innermost ls l)) (e ∙ h.1 l.name.now.text, h.0), number)
  where
    number : (q : List ℕ) → at_text new q ≡ number_of (reverse (ls ++ l ∷ [])) q
    number q =
        u q ∙ ap (λ n. cond (bytes_eq l.name.now.text q) (Some n) (at_text old q)) (sym (length-reverse ls))
        ∙ ap (λ o. cond (bytes_eq l.name.now.text q) (Some (length (reverse ls))) o) (h.1 q)
        ∙ ap (λ rs. number_of rs q) (sym (innermost ls l))

-- ---- one less

pub forgotten_view : (ls : List Local) (l : Local) → drop 1 (names_view (ls ++ l ∷ [])) ≡ names_view ls
forgotten_view ls l = ap (drop 1) (bound_view ls l)

hidden : (rs : List Local) (l : Local) (q : List ℕ) (b : Bool) → bytes_eq l.name.now.text q ≡ b → l.hides ≡ number_of rs l.name.now.text
    → cond b l.hides (cond b (Some (length rs)) (number_of rs q)) ≡ number_of rs q
hidden rs l q true t e = e ∙ ap (number_of rs) ((bytes_decides l.name.now.text q).0 t)
hidden rs l q false t e = refl

pub forgotten_latest : {S : Type 0} (all ls : List Local) (l : Local) (old new : HashMap (Bor (List ℕ)) ℕ S) → IsLatest all old → all ≡ ls ++ l ∷ []
    → ((q : List ℕ) → at_text new q ≡ cond (bytes_eq l.name.now.text q) l.hides (at_text old q)) → IsLatest ls new
forgotten_latest all ls l old new h e u = (linked.1, number)
  where
    rest : reverse all ≡ l ∷ reverse ls
    rest = ap reverse e ∙ innermost ls l

    linked : AreLinked (l ∷ reverse ls)
    linked = subst AreLinked rest h.0

    number : (q : List ℕ) → at_text new q ≡ number_of (reverse ls) q
    number q =
        u q ∙ ap (cond (bytes_eq l.name.now.text q) l.hides) (h.1 q ∙ ap (λ rs. number_of rs q) rest)
        ∙ hidden (reverse ls) l q (bytes_eq l.name.now.text q) refl linked.0

-- ---- the search

last_of : (rs : List Local) (l : Local) → reverse (l ∷ rs) ≡ reverse rs ++ l ∷ []
last_of rs l = reverse-append (l ∷ []) rs

-- what is found over the innermost first stands at its number from the outermost on
abbrev IsFoundIn : List Local → List ℕ → ℕ → Local → Type 0
IsFoundIn rs text n d = (n < length rs) × (find (λ l. bytes_eq l.name.text text) (map local_view rs) ≡ Some (local_view (get_or (reverse rs) n d)))

found_here : (rs : List Local) (l : Local) (n : ℕ) (d : Local) → length rs ≡ n → local_view l ≡ local_view (get_or (reverse (l ∷ rs)) n d)
found_here rs l n d e =
    ap local_view (sym (ap (λ r. get_or r n d) (last_of rs l) ∙ ap (λ k. get_or (reverse rs ++ l ∷ []) k d) (sym e ∙ sym (length-reverse rs))
    ∙ get_or-append_seam (reverse rs) l [] d))

found_before : (rs : List Local) (l : Local) (n : ℕ) (d : Local) → n < length rs → get_or (reverse rs) n d ≡ get_or (reverse (l ∷ rs)) n d
found_before rs l n d h =
    sym (ap (λ r. get_or r n d) (last_of rs l) ∙ get_or_append_left (reverse rs) (l ∷ []) d n (subst (λ k. n < k) (sym (length-reverse rs)) h))

found_in : (rs : List Local) (text : List ℕ) (n : ℕ) (d : Local) → number_of rs text ≡ Some n → IsFoundIn rs text n d
found_in [] text n d e = absurd (true≢false (sym (ap is_some e)))
found_in (l ∷ rs) text n d e = by (bytes_eq l.name.now.text text) (found_in rs text n d) e
  where
    by : (b : Bool) → (number_of rs text ≡ Some n → IsFoundIn rs text n d) → cond b (Some (length rs)) (number_of rs text) ≡ Some n
        → (n < suc (length rs)) × (cond b (Some (local_view l)) (find (λ l. bytes_eq l.name.text text) (map local_view rs))
        ≡ Some (local_view (get_or (reverse (l ∷ rs)) n d)))
    by true more e = let same : length rs ≡ n = ap (λ o. unwrap_or o 0) e in (omega arith, ap Some (found_here rs l n d same))
    by false more e =
        let h : IsFoundIn rs text n d = more e in
        let less : n < length rs = h.0 in
        (omega arith, h.1 ∙ ap (λ x. Some (local_view x)) (found_before rs l n d less))

none_in : (rs : List Local) (text : List ℕ) → number_of rs text ≡ None → find (λ l. bytes_eq l.name.text text) (map local_view rs) ≡ None
none_in [] text e = refl
none_in (l ∷ rs) text e = by (bytes_eq l.name.now.text text) (none_in rs text) e
  where
    by : (b : Bool) → (number_of rs text ≡ None → find (λ l. bytes_eq l.name.text text) (map local_view rs) ≡ None)
        → cond b (Some (length rs)) (number_of rs text) ≡ None
        → cond b (Some (local_view l)) (find (λ l. bytes_eq l.name.text text) (map local_view rs)) ≡ None
    by true more e = absurd (true≢false (ap is_some e))
    by false more e = more e

pub found_within : {S : Type 0} (ls : List Local) (latest : HashMap (Bor (List ℕ)) ℕ S) (text : List ℕ) (n : ℕ) → IsLatest ls latest
    → at_text latest text ≡ Some n → n < length ls
found_within ls latest text n h e = by ls refl (sym (h.1 text) ∙ e)
  where
    by : (xs : List Local) → ls ≡ xs → number_of (reverse ls) text ≡ Some n → n < length ls
    by [] q e = absurd (true≢false (sym (ap is_some e) ∙ ap (λ xs. is_some (number_of (reverse xs) text)) q))
    by (l ∷ xs) q e = subst (λ k. n < k) (length-reverse ls) (found_in (reverse ls) text n l e).0

pub found_at : {S : Type 0} (ls : List Local) (latest : HashMap (Bor (List ℕ)) ℕ S) (text : List ℕ) (n : ℕ) (d : Local) → IsLatest ls latest
    → at_text latest text ≡ Some n
    → in_scope (names_view ls) text ≡ Some (local_view (get_or ls n d))
found_at ls latest text n d h e =
    (found_in (reverse ls) text n d (sym (h.1 text) ∙ e)).1 ∙ ap (λ r. Some (local_view (get_or r n d))) (reverse-reverse ls)

pub found_none : {S : Type 0} (ls : List Local) (latest : HashMap (Bor (List ℕ)) ℕ S) (text : List ℕ) → IsLatest ls latest → at_text latest text ≡ None
    → in_scope (names_view ls) text ≡ None
found_none ls latest text h e = none_in (reverse ls) text (sym (h.1 text) ∙ e)

pub ruleset scoped = (bound_view, bound_latest, forgotten_view, forgotten_latest, found_within, found_at, found_none)
