-- Which variables stand in the types of a group's declarations.
use Rattle.std.specs.Prelude.{◌≡◌, ◌==◌, ◌||◌, ℕ, List, Contains, Bool, true, false}
use Rattle.ddl_types.specs.Types.{Ty, Ty.var, Ty.con, Tys, Tys.none, Tys.more, Sub, on, Head, Head.place}
use Rattle.ddl_unify.specs.Occurs.{has}
use Rattle.ddl_judging.specs.Shapes.{Shapes, place_at}

-- whether a head is that of this place
abbrev pub is_place : ℕ → Head → Bool
is_place p (place q) = p == q
is_place p h = false

-- whether a record or a union stands in a type
abbrev mutual
  pub has_place : Ty → ℕ → Bool
  has_place (var v) p = false
  has_place (con h ts) p = is_place p h || has_place_all ts p

  pub has_place_all : Tys → ℕ → Bool
  has_place_all none p = false
  has_place_all (more t ts) p = has_place t p || has_place_all ts p

-- the types of a group: those of its declarations, and the types of the members of each record or union of the group that
-- stands in one of them as it is solved
pub data Shows (ss : Shapes) (roots : List Ty) (f : Sub) : Ty → Type 0 where
  root : {t : Ty} → Contains roots t → Shows ss roots f t
  inner : {t u : Ty} (p : ℕ) → Shows ss roots f t → has_place (on t f) p ≡ true → (place_at ss.places p).vars ≡ 0 → Contains (place_at ss.places p).types u
      → Shows ss roots f u

-- a variable that stands in one of them
pub record Stands (ss : Shapes) (roots : List Ty) (f : Sub) (v : ℕ) : Type 0 where
  pub where_ : Ty
  pub shown : Shows ss roots f where_
  pub there : has (on where_ f) v ≡ true
