-- What a demand that holds says of its types, where a map solves what it gives at the heads of its subjects.
use Rattle.std.proofs.Common.{◌≡◌, ℕ, suc, ◌+◌, List, [], ◌∷◌, Bool, true, false, Option, Some, None, nat_le, if◌then◌else◌}
use Rattle.std.proofs.Common.{refl, sym, ap, ◌∙◌, subst}
use Rattle.ddl_types.specs.Types.{Ty, Ty.var, Ty.con, Tys, Tys.none, Tys.more, Sub, on, Head, Head.uint}
use Rattle.ddl_types.specs.Types.{Head.array_of, Head.map_of}
use Rattle.ddl_types.specs.Conditions.{key, cat}
use Rattle.ddl_unify.specs.Equations.{Solves, equal}
use Rattle.ddl_judging.specs.Demands.{Demand, condition, gather}
use Rattle.ddl_judging.specs.Judging.{Wrong, holds, if_true, joined, width_range}
use Rattle.ddl_judging.specs.Shapes.{Shapes}
use Rattle.ddl_growing.specs.Giving.{gives, nothing, turns}
use Rattle.ddl_growing.specs.Heads.{add_head, head, heads_of}
use Rattle.ddl_group_typing.specs.WellTyped.{IsOfBytes, IsAsWide, AreTurns, IsGathered}
use Rattle.ddl_group_typing.proofs.Staying.{no_verdict}

-- ---- heads and parts

abbrev heads_in : Option (List Head) → List Head
heads_in None = []
heads_in (Some hs) = hs

some_same : (a b : List Head) → Some a ≡ Some b → a ≡ b
some_same a b e = ap heads_in e

abbrev parts_in : Ty → Tys
parts_in (var v) = none
parts_in (con h us) = us

abbrev first_in : Ty → Tys → Ty
first_in d none = d
first_in d (more u us) = u

abbrev rest_in : Tys → Tys
rest_in none = none
rest_in (more u us) = us

pub same_parts : (h k : Head) (us vs : Tys) → con h us ≡ con k vs → us ≡ vs
same_parts h k us vs e = ap parts_in e

same_first : (h k : Head) (u v : Ty) (us vs : Tys) → con h (more u us) ≡ con k (more v vs) → u ≡ v
same_first h k u v us vs e = ap (first_in u) (ap parts_in e)

same_second : (h k : Head) (u v p q : Ty) (us vs : Tys) → con h (more u (more p us)) ≡ con k (more v (more q vs)) → p ≡ q
same_second h k u v p q us vs e = ap (first_in p) (ap rest_in (ap parts_in e))

-- the one subject has this head
pub one_head : (t : Ty) (g : Sub) (h : Head) (us : Tys) (hs : List Head) → on t g ≡ con h us → heads_of (t ∷ []) g ≡ Some hs → h ∷ [] ≡ hs
one_head t g h us hs q k = some_same (h ∷ []) hs (sym (ap (λ x. add_head (head x) (Some [])) q) ∙ k)

two_heads : (s t : Ty) (g : Sub) (h k : Head) (us vs : Tys) (hs : List Head) → on s g ≡ con h us → on t g ≡ con k vs → heads_of (s ∷ t ∷ []) g ≡ Some hs
    → h ∷ k ∷ [] ≡ hs
two_heads s t g h k us vs hs p q e = some_same (h ∷ k ∷ []) hs
    (sym (ap (λ x. add_head (head x) (add_head (head (on t g)) (Some []))) p ∙ ap (λ x. add_head (Some h) (add_head (head x) (Some []))) q) ∙ e)

module _ (ss : Shapes) (g : Sub) where
  -- what a demand gives at these heads is solved
  abbrev Gave : Demand → List Head → ℕ → Type 0
  Gave d hs n = Solves g (gives ss d hs n).equations

  -- ---- arrays that are compared, and words side by side

  pub bytes_given : (t : Ty) (hs : List Head) (n : ℕ) → heads_of (t ∷ []) g ≡ Some hs → Gave (condition (key t)) hs n → IsOfBytes (on t g)
  bytes_given t hs n k sol = by_type (on t g) refl
    where
      by_type : (x : Ty) → on t g ≡ x → IsOfBytes x
      by_type (var v) q = tt
      by_type (con array_of none) q = tt
      by_type (con array_of (more u none)) q =
          let P : List Head → Type 0 = λ ys. Gave (condition (key t)) ys n in
          let s = subst P (sym (one_head t g array_of (more u none) hs q k)) sol in
          sym (same_first array_of array_of (g n) u none none (s.0 ∙ q)) ∙ sym s.1.0
      by_type (con array_of (more u (more v us))) q = tt
      by_type (con h us) q = tt

  pub wide_given : (a b r : Ty) (hs : List Head) (n : ℕ) → holds ≡ joined (on a g) (on b g) → heads_of (a ∷ b ∷ []) g ≡ Some hs
      → Gave (condition (cat a b r)) hs n → IsAsWide (on a g) (on b g) (on r g)
  wide_given a b r hs n j k sol = by_types (on a g) (on b g) refl refl j
    where
      by_test : (c : Bool) (m i : ℕ) (w : Wrong) → holds ≡ if_true c w
          → Solves g (if c then record { equations = equal (con (uint (m + i)) none) r ∷ []; vars = 0 } else nothing).equations
          → on r g ≡ con (uint (m + i)) none
      by_test true m i w e s = sym s.0
      by_test false m i w e s = no_verdict e

      by_types : (x y : Ty) → on a g ≡ x → on b g ≡ y → holds ≡ joined x y → IsAsWide x y (on r g)
      by_types (con (uint m) us) (con (uint i) vs) p q e =
          let P : List Head → Type 0 = λ ys. Gave (condition (cat a b r)) ys n in
          let s = subst P (sym (two_heads a b g (uint m) (uint i) us vs hs p q k)) sol in
          by_test (nat_le (m + i) 128) m i (width_range (m + i)) e s
      by_types (con (uint m) us) (con c vs) p q e = tt
      by_types (con (uint m) us) (var v) p q e = tt
      by_types (con h us) (con c vs) p q e = tt
      by_types (con h us) (var v) p q e = tt
      by_types (var v) y p q e = tt

  -- ---- turns

  pub turns_given : (t k v : Ty) (hs : List Head) (n : ℕ)
      → heads_of (t ∷ []) g ≡ Some hs → ((h : Head) → h ∷ [] ≡ hs → Solves g (turns h t k v n).equations) → AreTurns (on t g) (on k g) (on v g)
  turns_given t k v hs n e sol = by_type (on t g) refl
    where
      by_type : (x : Ty) → on t g ≡ x → AreTurns x (on k g) (on v g)
      by_type (var w) q = tt
      by_type (con array_of none) q = tt
      by_type (con array_of (more u none)) q =
          let s = sol array_of (one_head t g array_of (more u none) hs q e) in
          (sym s.1.0, sym s.1.1.0 ∙ same_first array_of array_of (g n) u none none (s.0 ∙ q))
      by_type (con array_of (more u (more w us))) q = tt
      by_type (con map_of none) q = tt
      by_type (con map_of (more u none)) q = tt
      by_type (con map_of (more u (more w none))) q =
          let s = sol map_of (one_head t g map_of (more u (more w none)) hs q e) in (
            sym s.1.0 ∙ same_first map_of map_of (g n) u (more (g (suc n)) none) (more w none) (s.0 ∙ q),
            sym s.1.1.0 ∙ same_second map_of map_of (g n) u (g (suc n)) w none none (s.0 ∙ q),
          )
      by_type (con map_of (more u (more w (more z us)))) q = tt
      by_type (con h us) q = tt

  pub gathered_given : (t k v b r : Ty) (hs : List Head) (n : ℕ) → heads_of (t ∷ []) g ≡ Some hs → Gave (gather t k v b r) hs n
      → IsGathered (on t g) (on b g) (on r g)
  gathered_given t k v b r hs n e sol = by_type (on t g) refl
    where
      at_head : (h : Head) → h ∷ [] ≡ hs → Gave (gather t k v b r) (h ∷ []) n
      at_head h p = let P : List Head → Type 0 = λ ys. Gave (gather t k v b r) ys n in subst P (sym p) sol

      by_type : (x : Ty) → on t g ≡ x → IsGathered x (on b g) (on r g)
      by_type (var w) q = tt
      by_type (con array_of none) q = tt
      by_type (con array_of (more u none)) q = let s = at_head array_of (one_head t g array_of (more u none) hs q e) in sym s.1.1.1.0
      by_type (con array_of (more u (more w us))) q = tt
      by_type (con map_of none) q = tt
      by_type (con map_of (more u none)) q = tt
      by_type (con map_of (more u (more w none))) q =
          let s = at_head map_of (one_head t g map_of (more u (more w none)) hs q e) in
          sym s.1.1.1.0 ∙ ap (λ x. con map_of (more x (more (on b g) none))) (same_first map_of map_of (g n) u (more (g (suc n)) none) (more w none) (s.0 ∙ q))
      by_type (con map_of (more u (more w (more z us)))) q = tt
      by_type (con h us) q = tt
