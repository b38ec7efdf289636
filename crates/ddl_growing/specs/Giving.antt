-- The equations that a demand adds once the heads of its subjects are known.
use Rattle.std.specs.Prelude.{ℕ, zero, suc, ◌+◌, List, [], ◌∷◌, ◌++◌, nat_le, if◌then◌else◌, Bool, true, false, Option, Some, None}
use Rattle.ddl_types.specs.Types.{Ty, Ty.var, Ty.con, Tys, Tys.none, Tys.more, Sub, on, Head, Head.int, Head.uint, Head.array_of, Head.map_of, Head.bits}
use Rattle.ddl_types.specs.Types.{Head.place}
use Rattle.ddl_types.specs.Conditions.{key, cat, field, tag, loops}
use Rattle.ddl_unify.specs.Equations.{Equation, equal}
use Rattle.ddl_judging.specs.Demands.{Demand, condition, make, gather}
use Rattle.ddl_judging.specs.Shapes.{Shapes, Shape, place_at, bits_at, found, fresh, at}

-- equations, and how many new variables they speak of: the parts of a known head are named by new variables, so that what
-- is added does not depend on which solution is kept
pub record Given : Type 0 where
  pub equations : List Equation
  pub vars : ℕ

abbrev pub nothing : Given
nothing = record { equations = []; vars = 0 }

-- the type of a member at the types of a place
abbrev pub of_member : Ty → ℕ → Option Ty → ℕ → Ty → Given
of_member t p None n r = nothing
of_member t p (Some u) n r = record { equations = equal u r ∷ []; vars = 0 }

-- a member of a place: the place's types are named, and the member is what it is at these
abbrev pub of_place : Shape → Bool → ℕ → Ty → List ℕ → Ty → ℕ → Given
of_place s tagged p t x r n = by_member (found tagged x s)
  where
    by_member : Option Ty → Given
    by_member None = nothing
    by_member (Some u) = record { equations = equal (con (place p) (fresh s.vars n)) t ∷ equal (on u (at s.vars n)) r ∷ []; vars = s.vars }

-- a member of a bitdata
abbrev pub of_bits : Option Ty → Ty → Given
of_bits None r = nothing
of_bits (Some u) r = record { equations = equal u r ∷ []; vars = 0 }

-- the key and the value of each turn: the position and the element of an array, the key and the value of a map
abbrev pub turns : Head → Ty → Ty → Ty → ℕ → Given
turns array_of t k v n = record { equations = equal (con array_of (more (var n) none)) t ∷ equal (con (uint 64) none) k ∷ equal (var n) v ∷ []; vars = 1 }
turns map_of t k v n = record {
  equations = equal (con map_of (more (var n) (more (var (suc n)) none))) t ∷ equal (var n) k ∷ equal (var (suc n)) v ∷ [];
  vars =
      2;
}
turns h t k v n = nothing

-- what a `map` makes: an array of its bodies, or a map from the same keys
abbrev pub gathered : Head → Ty → Ty → ℕ → List Equation
gathered array_of b r n = equal (con array_of (more b none)) r ∷ []
gathered map_of b r n = equal (con map_of (more (var n) (more b none))) r ∷ []
gathered h b r n = []

abbrev pub joined : ℕ → ℕ → Ty → Given
joined m n r = if nat_le (m + n) 128 then record { equations = equal (con (uint (m + n)) none) r ∷ []; vars = 0 } else nothing

-- what a demand adds at these heads, the next variable being the n-th
abbrev pub gives : Shapes → Demand → List Head → ℕ → Given
gives ss (condition (key t)) (array_of ∷ []) n = record {
  equations = equal (con array_of (more (var n) none)) t ∷ equal (con (uint 8) none) (var n) ∷ [];
  vars = 1;
}
gives ss (condition (cat a b r)) (uint m ∷ uint k ∷ []) n = joined m k r
gives ss (condition (field t x r)) (place p ∷ []) n = of_place (place_at ss.places p) false p t x r n
gives ss (condition (field t x r)) (bits b ∷ []) n = of_bits (found false x (bits_at ss.bitdata b).shape) r
gives ss (condition (tag t x r)) (place p ∷ []) n = of_place (place_at ss.places p) true p t x r n
gives ss (condition (tag t x r)) (bits b ∷ []) n = of_bits (found true x (bits_at ss.bitdata b).shape) r
gives ss (condition (loops t k v)) (h ∷ []) n = turns h t k v n
gives ss (make t x r) (place p ∷ []) n = of_place (place_at ss.places p) true p t x r n
gives ss (gather t k v b r) (h ∷ []) n = record { equations = (turns h t k v n).equations ++ gathered h b r n; vars = (turns h t k v n).vars }
gives ss d hs n = nothing
