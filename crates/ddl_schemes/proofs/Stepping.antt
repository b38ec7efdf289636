-- One step of a walk.
use Rattle.std.proofs.Common.{◌≡◌, ◌≢◌, ℕ, ◌++◌, List, [], ◌∷◌, Bool, true, false, not, map, if◌then◌else◌, ◌==◌, ne_eqb, refl, sym, ap, ◌∙◌, subst}
use Rattle.std.proofs.Common.{append_assoc}
use Rattle.ddl_types.specs.Types.{Ty, Ty.var, Ty.con, Sub, on, tys_of, Head.place}
use Rattle.ddl_judging.specs.Shapes.{Shapes, place_at}
use Rattle.ddl_schemes.specs.Order.{Seen, Walks, among, is_new, members, parts, with_head}
use Rattle.ddl_schemes.specs.Steps.{behind, seen_after, with_place}

-- what walks on behind a type has walked the type
pub walk_on : (ss : Shapes) (f : Sub) (t : Ty) (ts : List Ty) (s z : Seen) → Walks ss f (behind ss f s t ++ ts) (seen_after ss t s) z → Walks ss f (t ∷ ts) s z
walk_on ss f (var v) ts s z w = Walks.variable w
walk_on ss f (con h us) ts s z w = Walks.head w

-- the same of a stack and of what has appeared, before the step and after
pub walked_on : (ss : Shapes) (f : Sub) (t : Ty) (all ts after : List Ty) (s s2 z : Seen) → all ≡ t ∷ ts → s2 ≡ seen_after ss t s
    → after ≡ behind ss f s t ++ ts → Walks ss f after s2 z → Walks ss f all s z
walked_on ss f t all ts after s s2 z e g h w =
    let w1 : Walks ss f (behind ss f s t ++ ts) s2 z = subst (λ (xs : List Ty). Walks ss f xs s2 z) h w in
    let w2 : Walks ss f (behind ss f s t ++ ts) (seen_after ss t s) z = subst (λ (q : Seen). Walks ss f (behind ss f s t ++ ts) q z) g w1 in
    subst (λ (xs : List Ty). Walks ss f xs s z) (sym e) (walk_on ss f t ts s z w2)

pub walked_out : (ss : Shapes) (f : Sub) (ts : List Ty) (s : Seen) → ts ≡ [] → Walks ss f ts s s
walked_out ss f ts s e = subst (λ (xs : List Ty). Walks ss f xs s s) (sym e) Walks.ends

pub parts_list : (ts : List Ty) → parts (tys_of ts) ≡ ts
parts_list [] = refl
parts_list (t ∷ ts) = ap (λ us. t ∷ us) (parts_list ts)

-- the parts of a place before its members
pub parts_first : (ss : Shapes) (f : Sub) (s : Seen) (p : ℕ) (xs stack mid new : List Ty) → mid ≡ members ss f s (place p) ++ stack → new ≡ xs ++ mid
    → new ≡ (parts (tys_of xs) ++ members ss f s (place p)) ++ stack
parts_first ss f s p xs stack mid new e g =
    g ∙ ap (λ ts. xs ++ ts) e ∙ sym (append_assoc xs (members ss f s (place p)) stack)
    ∙ ap (λ ts. (ts ++ members ss f s (place p)) ++ stack) (sym (parts_list xs))

pub ruleset steppings = (parts_list, parts_first)

module _ (ss : Shapes) (f : Sub) (s : Seen) (p : ℕ) where
  by_vars : (place_at ss.places p).vars ≢ 0 → is_new ss s (place p) ≡ false
  by_vars h = ap (λ b. if b then (if among s.places p then false else true) else false) (ne_eqb (place_at ss.places p).vars 0 h)

  by_place : (place_at ss.places p).vars ≡ 0 → is_new ss s (place p) ≡ not (among s.places p)
  by_place h = ap (λ v. if v == 0 then (if among s.places p then false else true) else false) h ∙ turned (among s.places p)
    where
      turned : (b : Bool) → (if b then false else true) ≡ not b
      turned true = refl
      turned false = refl

  -- a place with variables of its own is passed by
  pub head_kept : (place_at ss.places p).vars ≢ 0 → with_head ss (place p) s ≡ s
  head_kept h = ap (λ b. if b then record { places = p ∷ s.places; variables = s.variables } else s) (by_vars h)

  pub members_kept : (place_at ss.places p).vars ≢ 0 → members ss f s (place p) ≡ []
  members_kept h = ap (λ b. if b then map (λ t. on t f) (place_at ss.places p).types else []) (by_vars h)

  -- one without is kept in mind, and its members are walked the first time
  pub head_own : (place_at ss.places p).vars ≡ 0 → with_head ss (place p) s ≡ with_place p s
  head_own h =
      ap (λ b. if b then record { places = p ∷ s.places; variables = s.variables } else s) (by_place h) ∙ turned (among s.places p)
    where
      turned : (b : Bool) → (if not b then record { places = p ∷ s.places; variables = s.variables } else s)
          ≡ (if b then s else record { places = p ∷ s.places; variables = s.variables })
      turned true = refl
      turned false = refl

  pub members_new : (b : Bool) → (place_at ss.places p).vars ≡ 0 → b ≡ not (among s.places p) → b ≡ true
      → members ss f s (place p) ≡ map (λ t. on t f) (place_at ss.places p).types
  members_new b h e g = ap (λ c. if c then map (λ t. on t f) (place_at ss.places p).types else []) (by_place h ∙ sym e ∙ g)

  pub members_old : (b : Bool) → (place_at ss.places p).vars ≡ 0 → b ≡ not (among s.places p) → b ≡ false → members ss f s (place p) ≡ []
  members_old b h e g = ap (λ c. if c then map (λ t. on t f) (place_at ss.places p).types else []) (by_place h ∙ sym e ∙ g)

pub ruleset openings = (head_kept, members_kept, head_own, members_new, members_old)
