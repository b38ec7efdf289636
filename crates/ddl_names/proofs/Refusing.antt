-- Declarations that stand twice, or are too many.
use Rattle.std.proofs.Common.{◌≡◌, ℕ, zero, suc, ◌+◌, ◌<◌, ◌≤◌, List, [], ◌∷◌, ◌++◌, length, map, take, drop, get_or, Bool, true, false, cond, Option, Some}
use Rattle.std.proofs.Common.{None, refl, ap, sym, subst, ◌∙◌, add-one, true≢false, is_some, arith}
use Rattle.std.specs.Prelude.{bytes_eq, find, flat_map, option_map, slice_get, unwrap_or}
use Rattle.std.specs.Option.{option_or}
use Rattle.std.specs.HashMap.{HashMap}
use Rattle.std.proofs.lemmas.List.{drop_all, drop-map, length-map, map-append, take-map, take_more}
use Rattle.std.proofs.lemmas.List.Concat.{flat_map-cons}
use Rattle.std.proofs.Math.Seq.{drop-cons}
use denote.Ref.{Bor}
use Rattle.ddl_base.specs.declared.span.Span.{Span}
use Rattle.ddl_tree.specs.declared.name.Name.{Name}
use Rattle.ddl_tree.specs.declared.decl.Decl.{Decl}
use Rattle.ddl_tree.specs.declared.module.SourceUnit.{SourceUnit}
use Rattle.ddl_tree.specs.ModuleTree as mo
use Rattle.ddl_tree.specs.ViewModule.{decl_view}
use Rattle.ddl_kinds.specs.declared.error.NameError.{NameError}
use Rattle.ddl_kinds.specs.declared.error.NameError.TheVariants as e
use Rattle.ddl_kinds.specs.Meanings.{decl_name}
use Rattle.ddl_kinds.specs.Findings.{Finding, first_refusal, twice_after, twice_among}
use Rattle.ddl_names.specs.Modules.{declared_twice, too_many}
use Rattle.ddl_uses.specs.Held.{ArePlaced, at_text}
use Rattle.ddl_kinds.specs.Found.{IsFirst}
use Rattle.ddl_uses.specs.Walks.{unit_view, loaded}
use Rattle.ddl_kinds.proofs.Finding.{first_append}

-- ---- refusals

pub moved : (fs gs : List Finding) (r : NameError) → (first_refusal fs ≡ Some r → first_refusal gs ≡ Some r) → IsFirst fs r → IsFirst gs r
moved fs gs (e.Unknown s) f h = f h
moved fs gs (e.Twice s t) f h = f h
moved fs gs (e.TwoImports s i j) f h = f h
moved fs gs (e.WrongKind s) f h = f h
moved fs gs (e.WrongCount s n m) f h = f h
moved fs gs (e.TooManyDecls s) f h = f h
moved fs gs e.NoMemory f h = tt

-- the first refusal of a part in front is that of the whole
pub in_front : (fs gs whole : List Finding) (r : NameError) → first_refusal (fs ++ gs) ≡ first_refusal whole → IsFirst fs r → IsFirst whole r
in_front fs gs whole r same = moved fs whole r (λ h. sym same ∙ first_append fs gs ∙ ap (λ o. option_or o (first_refusal gs)) h)

-- behind a part without a refusal it is that of the rest
pub behind : (fs gs whole : List Finding) → first_refusal (fs ++ gs) ≡ first_refusal whole → first_refusal fs ≡ None → first_refusal gs ≡ first_refusal whole
behind fs gs whole same none = sym (first_append fs gs ∙ ap (λ o. option_or o (first_refusal gs)) none) ∙ same

-- ---- the elements of a list from its k-th on

pub next_dropped : {X : Type 0} (xs : List X) (k : ℕ) (x : X) → k < length xs → x ≡ get_or xs k x → drop k xs ≡ x ∷ drop (k + 1) xs
next_dropped xs k x h e = drop-cons xs k x h ∙ ap (λ y. y ∷ drop (suc k) xs) (sym e) ∙ ap (λ n. x ∷ drop n xs) (sym (add-one k))

-- ---- declarations of one module

abbrev names : List Decl → List Name
names ds = map decl_name (map decl_view ds)

names_dropped : (ds : List Decl) (k : ℕ) (d : Decl) → k < length ds → d ≡ get_or ds k d → drop k (names ds) ≡ decl_name (decl_view d) ∷ drop (k + 1) (names ds)
names_dropped ds k d h e =
    drop-map decl_name k (map decl_view ds) ∙ ap (map decl_name) (drop-map decl_view k ds) ∙ ap names (next_dropped ds k d h e)
    ∙ ap (λ ns. decl_name (decl_view d) ∷ ns) (sym (drop-map decl_name (k + 1) (map decl_view ds) ∙ ap (map decl_name) (drop-map decl_view (k + 1) ds)))

names_taken : (ds : List Decl) (k : ℕ) (d : Decl) → k < length ds → d ≡ get_or ds k d
    → take (k + 1) (names ds) ≡ take k (names ds) ++ decl_name (decl_view d) ∷ []
names_taken ds k d h e =
    taken (k + 1) ∙ ap names (take_more ds k d h ∙ ap (λ x. take k ds ++ x ∷ []) (sym e))
    ∙ ap (map decl_name) (map-append decl_view (take k ds) (d ∷ [])) ∙ map-append decl_name (map decl_view (take k ds)) (decl_view d ∷ [])
    ∙ ap (λ ns. ns ++ decl_name (decl_view d) ∷ []) (sym (taken k))
  where
    taken : (n : ℕ) → take n (names ds) ≡ names (take n ds)
    taken n = take-map decl_name n (map decl_view ds) ∙ ap (map decl_name) (take-map decl_view n ds)

not_found : (o : Option Name) → option_map (λ y. y.span) o ≡ None → o ≡ None
not_found None h = refl
not_found (Some y) h = absurd (true≢false (ap is_some h))

-- what is found in the rest, where the next name stands for the first time
first_time : (before rest : List Name) (x : Name) → option_map (λ y. y.span) (find (λ y. bytes_eq y.text x.text) before) ≡ None
    → first_refusal (twice_among before (x ∷ rest)) ≡ first_refusal (twice_among (before ++ x ∷ []) rest)
first_time before rest x h = ap (λ o. first_refusal (twice_after x o ++ twice_among (before ++ x ∷ []) rest))
    (not_found (find (λ y. bytes_eq y.text x.text) before) h)

second_time : (before rest : List Name) (x : Name) (first : Span) → option_map (λ y. y.span) (find (λ y. bytes_eq y.text x.text) before) ≡ Some first
    → first_refusal (twice_among before (x ∷ rest)) ≡ Some (e.Twice x.span first)
second_time before rest x first h = by (find (λ y. bytes_eq y.text x.text) before) h
  where
    by : (o : Option Name) → option_map (λ y. y.span) o ≡ Some first
        → first_refusal (twice_after x o ++ twice_among (before ++ x ∷ []) rest) ≡ Some (e.Twice x.span first)
    by None h = absurd (true≢false (sym (ap is_some h)))
    by (Some y) h = ap (λ s. Some (e.Twice x.span s)) (ap (λ o. unwrap_or o first) h)

pub differs : {S : Type 0} (ds : List Decl) (k : ℕ) (d : Decl) (places : HashMap (Bor (List ℕ)) Span S) → k < length ds → d ≡ get_or ds k d
    → ArePlaced (take k (names ds)) places → first_refusal (twice_among (take k (names ds)) (drop k (names ds))) ≡ first_refusal (twice_among [] (names ds))
    → at_text places (decl_name (decl_view d)).text ≡ None
    → first_refusal (twice_among (take (k + 1) (names ds)) (drop (k + 1) (names ds))) ≡ first_refusal (twice_among [] (names ds))
differs ds k d places h e kept same none =
    ap (λ ns. first_refusal (twice_among ns (drop (k + 1) (names ds)))) (names_taken ds k d h e)
    ∙ sym (first_time (take k (names ds)) (drop (k + 1) (names ds)) (decl_name (decl_view d)) (sym (kept (decl_name (decl_view d)).text) ∙ none))
    ∙ ap (λ ns. first_refusal (twice_among (take k (names ds)) ns)) (sym (names_dropped ds k d h e)) ∙ same

pub stands_twice : {S : Type 0} (ds : List Decl) (k : ℕ) (d : Decl) (first : Span) (places : HashMap (Bor (List ℕ)) Span S) → k < length ds → d ≡ get_or ds k d
    → ArePlaced (take k (names ds)) places → first_refusal (twice_among (take k (names ds)) (drop k (names ds))) ≡ first_refusal (twice_among [] (names ds))
    → Some first ≡ at_text places (decl_name (decl_view d)).text
    → first_refusal (twice_among [] (names ds)) ≡ Some (e.Twice (decl_name (decl_view d)).span first)
stands_twice ds k d first places h e kept same some =
    sym same ∙ ap (λ ns. first_refusal (twice_among (take k (names ds)) ns)) (names_dropped ds k d h e)
    ∙ second_time (take k (names ds)) (drop (k + 1) (names ds)) (decl_name (decl_view d)) first (sym (kept (decl_name (decl_view d)).text) ∙ sym some)

find_more : (ns : List Name) (x : Name) (q : List ℕ)
    → find (λ y. bytes_eq y.text q) (ns ++ x ∷ []) ≡ option_or (find (λ y. bytes_eq y.text q) ns) (cond (bytes_eq x.text q) (Some x) None)
find_more [] x q = refl
find_more (n ∷ ns) x q = by (bytes_eq n.text q) (find_more ns x q)
  where
    by : (b : Bool) → find (λ y. bytes_eq y.text q) (ns ++ x ∷ []) ≡ option_or (find (λ y. bytes_eq y.text q) ns) (cond (bytes_eq x.text q) (Some x) None)
        → cond b (Some n) (find (λ y. bytes_eq y.text q) (ns ++ x ∷ []))
        ≡ option_or (cond b (Some n) (find (λ y. bytes_eq y.text q) ns)) (cond (bytes_eq x.text q) (Some x) None)
    by true h = refl
    by false h = h

spans_or : (o : Option Name) (b : Bool) (x : Name) → option_or (option_map (λ y. y.span) o) (cond b (Some x.span) None)
    ≡ option_map (λ y. y.span) (option_or o (cond b (Some x) None))
spans_or None true x = refl
spans_or None false x = refl
spans_or (Some y) b x = refl

pub place_more : {S : Type 0} (ds : List Decl) (k : ℕ) (d : Decl) (text : List ℕ) (span : Span) (old new : HashMap (Bor (List ℕ)) Span S) → k < length ds
    → d ≡ get_or ds k d
    → text ≡ (decl_name (decl_view d)).text → span ≡ (decl_name (decl_view d)).span
    → ((q : List ℕ) → at_text new q ≡ option_or (at_text old q) (cond (bytes_eq text q) (Some span) None))
    → ArePlaced (take k (names ds)) old → ArePlaced (take (k + 1) (names ds)) new
place_more ds k d text span old new h e same there u kept q =
    u q ∙ ap (λ o. option_or o (cond (bytes_eq text q) (Some span) None)) (kept q)
    ∙ ap (λ t. option_or found (cond (bytes_eq t q) (Some span) None)) same ∙ ap (λ s. option_or found (cond (bytes_eq x.text q) (Some s) None)) there
    ∙ spans_or (find (λ y. bytes_eq y.text q) (take k (names ds))) (bytes_eq x.text q) x
    ∙ ap (option_map (λ y. y.span)) (sym (find_more (take k (names ds)) x q) ∙ ap (find (λ y. bytes_eq y.text q)) (sym (names_taken ds k d h e)))
  where
    x : Name
    x = decl_name (decl_view d)

    found : Option Span
    found = option_map (λ y. y.span) (find (λ y. bytes_eq y.text q) (take k (names ds)))

pub all_differ : (ds : List Decl) (k : ℕ) → length ds ≤ k → first_refusal (twice_among (take k (names ds)) (drop k (names ds))) ≡ None
all_differ ds k past = ap (λ ns. first_refusal (twice_among (take k (names ds)) ns))
    (drop_all k (names ds) (subst (λ n. n ≤ k) (sym (length-map (map decl_view ds) decl_name ∙ length-map ds decl_view)) past))

-- ---- all modules

modules_dropped : (us : List SourceUnit) (k : ℕ) (u : SourceUnit) → k < length us → u ≡ get_or us k u
    → flat_map declared_twice (loaded (drop k us)) ≡ declared_twice (unit_view u) ++ flat_map declared_twice (loaded (drop (k + 1) us))
modules_dropped us k u h e = ap (λ vs. flat_map declared_twice (loaded vs)) (next_dropped us k u h e)
    ∙ flat_map-cons declared_twice (unit_view u) (loaded (drop (k + 1) us))

pub module_differs : (us : List SourceUnit) (k : ℕ) (u : SourceUnit) → k < length us → u ≡ get_or us k u
    → first_refusal (flat_map declared_twice (loaded (drop k us))) ≡ first_refusal (flat_map declared_twice (loaded us))
    → first_refusal (twice_among [] (names u.tree.decls.items)) ≡ None
    → first_refusal (flat_map declared_twice (loaded (drop (k + 1) us))) ≡ first_refusal (flat_map declared_twice (loaded us))
module_differs us k u h e same none =
    behind (declared_twice (unit_view u)) (flat_map declared_twice (loaded (drop (k + 1) us))) (flat_map declared_twice (loaded us))
    (ap first_refusal (sym (modules_dropped us k u h e)) ∙ same) none

pub module_stops : (us : List SourceUnit) (k : ℕ) (u : SourceUnit) (r : NameError) → k < length us → u ≡ get_or us k u
    → first_refusal (flat_map declared_twice (loaded (drop k us))) ≡ first_refusal (flat_map declared_twice (loaded us))
    → IsFirst (twice_among [] (names u.tree.decls.items)) r → IsFirst (flat_map declared_twice (loaded us)) r
module_stops us k u r h e same first =
    in_front (declared_twice (unit_view u)) (flat_map declared_twice (loaded (drop (k + 1) us))) (flat_map declared_twice (loaded us)) r
    (ap first_refusal (sym (modules_dropped us k u h e)) ∙ same) first

-- ---- the number of declarations

abbrev all_decls : List SourceUnit → List mo.Decl
all_decls us = flat_map (λ u. u.tree.decls) (loaded us)

front : (xs ys : List mo.Decl) (n : ℕ) → n < length xs → slice_get (xs ++ ys) n ≡ slice_get xs n
front [] ys n h = absurd (omega arith)
front (x ∷ xs) ys zero h = refl
front (x ∷ xs) ys (suc n) h = front xs ys n (omega arith)

back : (xs ys : List mo.Decl) (m n : ℕ) → n ≡ length xs + m → slice_get (xs ++ ys) n ≡ slice_get ys m
back [] ys m n h = ap (slice_get ys) (omega arith)
back (x ∷ xs) ys m zero h = absurd (omega arith)
back (x ∷ xs) ys m (suc n) h = back xs ys m n (omega arith)

decls_dropped : (us : List SourceUnit) (k : ℕ) (u : SourceUnit) → k < length us → u ≡ get_or us k u
    → all_decls (drop k us) ≡ map decl_view u.tree.decls.items ++ all_decls (drop (k + 1) us)
decls_dropped us k u h e = ap all_decls (next_dropped us k u h e) ∙ flat_map-cons (λ v. v.tree.decls) (unit_view u) (loaded (drop (k + 1) us))

abbrev span_of : Option mo.Decl → Option Span
span_of o = option_map (λ d. (decl_name d).span) o

view_at : (ds : List Decl) (n : ℕ) (d : Decl) → n < length ds → d ≡ get_or ds n d → slice_get (map decl_view ds) n ≡ Some (decl_view d)
view_at [] n d h e = absurd (omega arith)
view_at (x ∷ ds) zero d h e = ap (λ y. Some (decl_view y)) (sym e)
view_at (x ∷ ds) (suc n) d h e = view_at ds n d (omega arith) e

pub decl_here : (us : List SourceUnit) (k : ℕ) (u : SourceUnit) (left : ℕ) (d : Decl) → k < length us → u ≡ get_or us k u → left < length u.tree.decls.items
    → d ≡ get_or u.tree.decls.items left d
    → span_of (slice_get (all_decls (drop k us)) left) ≡ Some (decl_name (decl_view d)).span
decl_here us k u left d h e less at =
    ap (λ ds. span_of (slice_get ds left)) (decls_dropped us k u h e)
    ∙ ap span_of (front (map decl_view u.tree.decls.items) (all_decls (drop (k + 1) us)) left
    (subst (λ n. left < n) (sym (length-map u.tree.decls.items decl_view)) less) ∙ view_at u.tree.decls.items left d less at)

pub decl_behind : (us : List SourceUnit) (k : ℕ) (u : SourceUnit) (left less : ℕ) → k < length us → u ≡ get_or us k u → left ≡ length u.tree.decls.items + less
    → span_of (slice_get (all_decls (drop k us)) left) ≡ span_of (slice_get (all_decls (drop (k + 1) us)) less)
decl_behind us k u left less h e more =
    ap (λ ds. span_of (slice_get ds left)) (decls_dropped us k u h e)
    ∙ ap span_of (back (map decl_view u.tree.decls.items) (all_decls (drop (k + 1) us)) less left (more
    ∙ ap (λ n. n + less) (sym (length-map u.tree.decls.items decl_view))))

pub rest_of : (us others : List SourceUnit) (u : SourceUnit) → us ≡ u ∷ others → others ≡ drop 1 us
rest_of us others u e = ap (drop 1) (sym e)

pub without_prelude : (us : List SourceUnit) (n : ℕ) → span_of (slice_get (all_decls (drop 1 us)) n)
    ≡ span_of (slice_get (flat_map (λ u. u.tree.decls) (drop 1 (loaded us))) n)
without_prelude us n = ap (λ vs. span_of (slice_get (flat_map (λ u. u.tree.decls) vs) n)) (sym (drop-map unit_view 1 us))

pub few : (o : Option mo.Decl) → span_of o ≡ None → first_refusal (too_many o) ≡ None
few None h = refl
few (Some d) h = absurd (true≢false (ap is_some h))

pub many : (o : Option mo.Decl) (s : Span) → span_of o ≡ Some s → first_refusal (too_many o) ≡ Some (e.TooManyDecls s)
many None s h = absurd (true≢false (sym (ap is_some h)))
many (Some d) s h = ap (λ t. Some (e.TooManyDecls t)) (ap (λ o. unwrap_or o s) h)

pub ruleset refusing = (
  differs,
  stands_twice,
  place_more,
  all_differ,
  module_differs,
  module_stops,
  decl_here,
  decl_behind,
  rest_of,
  without_prelude,
  few,
  many,
)
