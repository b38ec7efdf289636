-- What declarations use, one use and one declaration after another.
use Rattle.std.proofs.Common.{◌≡◌, ℕ, zero, suc, ◌+◌, ◌-◌, ◌<◌, ◌≤◌, Bool, true, false, List, [], ◌∷◌, ◌++◌, Some, None, Vec, Contains, length, take, drop}
use Rattle.std.proofs.Common.{get_or, min, if◌then◌else◌, nat_lt, subst, arith, add-one, append-nil, ap, sym, ◌∙◌, refl, ◌⊎◌, inl, inr}
use Rattle.std.specs.declared.alloc.Global.{Global}
use Rattle.std.proofs.lemmas.Bool.{cases_lt, ltb-true}
use Rattle.std.proofs.lemmas.List.{get_or-map, get_or_past, length-map, map_push, take_all}
use Rattle.std.proofs.lemmas.List.Concat.{flat_map-append}
use Rattle.std.proofs.lemmas.List.Elements.{Contains-append_cases}
use Rattle.std.proofs.Math.Seq.{take-suc}
use Rattle.ddl_kinds.specs.declared.bound.Bound.{Bound}
use Rattle.ddl_kinds.specs.declared.bound.Bound.TheVariants as bound
use Rattle.ddl_names.specs.declared.resolved.DeclInfo.{DeclInfo}
use Rattle.ddl_kinds.specs.declared.bound.Use.{Use}
use Rattle.ddl_names.specs.Cutting.{cut_at}
use Rattle.ddl_names.specs.Resolves.{firsts_of}
use Rattle.ddl_names.proofs.Firsts.{length_cut}
use Rattle.ddl_groups.specs.Needs.{declared, listed, needs_in, needs_of}
use Rattle.ddl_groups.specs.Ordered.{AreDeclared}
use Rattle.ddl_groups.specs.Placing.{lists_of}
use Rattle.ddl_groups.proofs.CutAt.{cut_inner, cut_last, rest_is, sliced}

-- what one more use adds
pub needs_more : (count : ℕ) (us : List Use) (k : ℕ) (d : Use) → k < length us
    → needs_in count (take (k + 1) us) ≡ needs_in count (take k us) ++ listed (declared count (get_or us k d).bound)
needs_more count us k d l =
    let q : take (k + 1) us ≡ take k us ++ get_or us k d ∷ [] = rw (add-one, take-suc us k d l) refl in
    ap (needs_in count) q ∙ flat_map-append (λ v. listed (declared count v.bound)) (take k us) (get_or us k d ∷ [])
    ∙ ap (λ z. needs_in count (take k us) ++ z) (append-nil (listed (declared count (get_or us k d).bound)))

-- ---- the uses in a declaration

firsts_long : (ds : List DeclInfo) → length (firsts_of ds) ≡ length ds
firsts_long ds = length-map ds (λ d. d.first_use)

first_at : (ds : List DeclInfo) (k : ℕ) (d : DeclInfo) → k < length ds → get_or (firsts_of ds) k 0 ≡ (get_or ds k d).first_use
first_at ds k d l = get_or-map (λ e. e.first_use) ds k d 0 l

-- those of a declaration that another follows
pub inner_uses : (ds : List DeclInfo) (us : List Use) (k c m n : ℕ) (d e : DeclInfo) → k + 1 < length ds
    → m ≡ min (get_or ds k d).first_use (length us) → c ≡ (get_or ds (k + 1) e).first_use - (get_or ds k d).first_use
    → n ≡ min c (length (take (length us - m) (drop m us)))
    → take n (take (length us - m) (drop m us)) ≡ get_or (cut_at us (firsts_of ds)) k []
inner_uses ds us k c m n d e l em ec en =
    let f : get_or (firsts_of ds) k 0 ≡ (get_or ds k d).first_use = first_at ds k d (omega arith) in
    let g : get_or (firsts_of ds) (suc k) 0 ≡ (get_or ds (k + 1) e).first_use = ap (λ i. get_or (firsts_of ds) i 0) (sym (add-one k))
    ∙ first_at ds (k + 1) e l in
    let long : suc k < length (firsts_of ds) = rw (firsts_long ds) (omega arith) in
    sliced us (get_or ds k d).first_use c m n em en
    ∙ rw (ec, ← f, ← g) refl ∙ sym (cut_inner us (firsts_of ds) k long)

-- those of the last declaration
pub last_uses : (ds : List DeclInfo) (us : List Use) (k m : ℕ) (d : DeclInfo) → k < length ds → length ds ≤ k + 1
    → m ≡ min (get_or ds k d).first_use (length us) → take (length us - m) (drop m us) ≡ get_or (cut_at us (firsts_of ds)) k []
last_uses ds us k m d l last em =
    rw em (rest_is us (get_or ds k d).first_use) ∙ ap (λ f. drop f us) (sym (first_at ds k d l))
    ∙ sym (cut_last us (firsts_of ds) k (rw (firsts_long ds) (omega arith)))

-- ---- what all declarations use

module _ (ds : List DeclInfo) (us : List Use) where
  needs_long : length (needs_of ds us) ≡ length ds
  needs_long = length-map (cut_at us (firsts_of ds)) (needs_in (length ds)) ∙ length_cut us (firsts_of ds) ∙ firsts_long ds

  need_at : (k : ℕ) → k < length ds → get_or (needs_of ds us) k [] ≡ needs_in (length ds) (get_or (cut_at us (firsts_of ds)) k [])
  need_at k l = get_or-map (needs_in (length ds)) (cut_at us (firsts_of ds)) k [] [] (rw (length_cut us (firsts_of ds), firsts_long ds) l)

  -- one more declaration
  pub needs_push : (vs : List (Vec ℕ Global)) (k : ℕ) (v : Vec ℕ Global) → k < length ds → lists_of vs ≡ take k (needs_of ds us)
      → v.items ≡ needs_in (length ds) (get_or (cut_at us (firsts_of ds)) k []) → lists_of (vs ++ v ∷ []) ≡ take (k + 1) (needs_of ds us)
  needs_push vs k v l before e =
      map_push (λ w. w.items) vs v ∙ rw (before, e, ← need_at k l, add-one, take-suc (needs_of ds us) k [] (rw needs_long l)) refl

  -- all declarations
  pub needs_all : (vs : List (Vec ℕ Global)) (k : ℕ) → length ds ≤ k → lists_of vs ≡ take k (needs_of ds us) → lists_of vs ≡ needs_of ds us
  needs_all vs k l before = before ∙ take_all k (needs_of ds us) (rw needs_long l)

-- ---- what is used is declared

listed_below : (count : ℕ) (x : Bound) (b : ℕ) → Contains (listed (declared count x)) b → b < count
listed_below count (bound.Decl n) b h = by (nat_lt n count) refl h
  where
    by : (t : Bool) → nat_lt n count ≡ t → Contains (listed (if t then Some n else None)) b → b < count
    by true e (zero, l, q) = subst (λ m. m < count) q (ltb-true n count e)
    by true e (suc k, l, q) = absurd (omega arith)
    by false e (k, l, q) = absurd (omega arith)
listed_below count (bound.Local s) b (k, l, q) = absurd (omega arith)
listed_below count (bound.BuiltIn s) b (k, l, q) = absurd (omega arith)

needs_below : (count : ℕ) (us : List Use) (b : ℕ) → Contains (needs_in count us) b → b < count
needs_below count [] b (k, l, q) = absurd (omega arith)
needs_below count (u ∷ us) b h = elim (Contains-append_cases (listed (declared count u.bound)) (needs_in count us) b h)
    [ inl p ↦ listed_below count u.bound b p | inr p ↦ needs_below count us b p ]

pub needs_declared : (ds : List DeclInfo) (us : List Use) → AreDeclared (needs_of ds us)
needs_declared ds us a b h = by (cases_lt a (length ds))
  where
    none : Contains [] b → b < length (needs_of ds us)
    none (k, l, q) = absurd (omega arith)

    by : (a < length ds) ⊎ (length ds ≤ a) → b < length (needs_of ds us)
    by (inl l) = rw (needs_long ds us) (needs_below (length ds) (get_or (cut_at us (firsts_of ds)) a []) b (subst (λ xs. Contains xs b) (need_at ds us a l) h))
    by (inr past) = none (subst (λ xs. Contains xs b) (get_or_past (needs_of ds us) a [] (rw (needs_long ds us) past)) h)
