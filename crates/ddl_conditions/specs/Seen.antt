-- Which places were seen in types, and which of them are still to be opened.
use Rattle.std.specs.Prelude.{◌≡◌, ◌⊎◌, ◌==◌, ℕ, ◌+◌, List, [], Contains, length, get_or, sum_by, if◌then◌else◌, Bool, true, false}
use Rattle.ddl_types.specs.Types.{Ty, Sub, on}
use Rattle.ddl_unify.specs.Occurs.{has}
use Rattle.ddl_judging.specs.Shapes.{Shape, Shapes, place_at}
use Rattle.ddl_conditions.specs.Standing.{has_place, Shows}

-- whether a place has a mark; beyond the list there is nothing to see
abbrev pub is_seen : List Bool → ℕ → Bool
is_seen seen p = get_or seen p true

-- 1 for what was not seen
abbrev pub weight : Bool → ℕ
weight true = 0
weight false = 1

abbrev pub unseen : List Bool → ℕ
unseen seen = sum_by weight seen

-- the places of a set were marked, and those that were new are pending
pub record Noted (IsIn : ℕ → Type 0) (seen seen2 : List Bool) (pending pending2 : List ℕ) : Type 0 where
  pub counted : unseen seen2 + length pending2 ≡ unseen seen + length pending
  pub keeps : (p : ℕ) → is_seen seen p ≡ true → is_seen seen2 p ≡ true
  pub marks : (p : ℕ) → IsIn p → is_seen seen2 p ≡ true
  pub new : (p : ℕ) → is_seen seen2 p ≡ true → (is_seen seen p ≡ true) ⊎ Contains pending2 p
  pub stays : (p : ℕ) → Contains pending p → Contains pending2 p
  pub from : (p : ℕ) → Contains pending2 p → Contains pending p ⊎ IsIn p

abbrev pub PlaceIn : Ty → ℕ → Type 0
PlaceIn t p = has_place t p ≡ true

-- a place that stands in one of these types as it is solved
abbrev pub PlaceInAny : Sub → List Ty → ℕ → Type 0
PlaceInAny f ts p = (t : Ty) × Contains ts t × PlaceIn (on t f) p

-- a variable stands in a type as it is solved, or it does not and the places in it were marked
abbrev pub IsRead : Bool → Sub → ℕ → Ty → List Bool → List Bool → List ℕ → List ℕ → Type 0
IsRead true f v t seen seen2 pending pending2 = has (on t f) v ≡ true
IsRead false f v t seen seen2 pending pending2 = (has (on t f) v ≡ false) × Noted (PlaceIn (on t f)) seen seen2 pending pending2

-- the same of some types
abbrev pub AreRead : Bool → Sub → ℕ → List Ty → List Bool → List Bool → List ℕ → List ℕ → Type 0
AreRead true f v ts seen seen2 pending pending2 = (t : Ty) × Contains ts t × (has (on t f) v ≡ true)
AreRead false f v ts seen seen2 pending pending2 = ((t : Ty) → Contains ts t → has (on t f) v ≡ false) × Noted (PlaceInAny f ts) seen seen2 pending pending2

-- the types of the members of a place without variables of its own
abbrev pub open_types : Shape → List Ty
open_types s = if s.vars == 0 then s.types else []

abbrev pub members : Shapes → ℕ → List Ty
members ss p = open_types (place_at ss.places p)

-- a variable does not stand in a type as it is solved, and the places in it were seen
pub record IsClear (f : Sub) (v : ℕ) (seen : List Bool) (t : Ty) : Type 0 where
  pub absent : has (on t f) v ≡ false
  pub marked : (p : ℕ) → PlaceIn (on t f) p → is_seen seen p ≡ true

-- the types of the group were read, and the members of each place that was seen and is not pending
pub record IsOpening (ss : Shapes) (roots : List Ty) (f : Sub) (v : ℕ) (seen : List Bool) (pending : List ℕ) : Type 0 where
  pub roots_read : (t : Ty) → Contains roots t → IsClear f v seen t
  pub opened : (p : ℕ) → is_seen seen p ≡ true → Contains pending p ⊎ ((t : Ty) → Contains (members ss p) t → IsClear f v seen t)
  pub shown : (p : ℕ) → Contains pending p → (t : Ty) × Shows ss roots f t × PlaceIn (on t f) p
