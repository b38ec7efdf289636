-- What conditions read of records, unions and bitdata.
use Rattle.std.specs.Prelude.{ℕ, zero, suc, ◌+◌, ◌==◌, List, [], ◌∷◌, bytes_eq, if◌then◌else◌, Bool, true, false, Option, Some, None}
use Rattle.ddl_types.specs.Types.{Ty, Ty.var, Tys, Tys.none, Tys.more, Sub}

-- a record, a union or a bitdata, by the names and types of its fields or tags; a place has types for so many variables
pub record Shape : Type 0 where
  pub vars : ℕ
  pub tagged : Bool
  pub names : List (List ℕ)
  pub types : List Ty

-- a bitdata: how wide it is, and the least number that fits none of its constructors
pub record BitShape : Type 0 where
  pub width : ℕ
  pub gap : Option ℕ
  pub shape : Shape

pub record Shapes : Type 0 where
  pub places : List Shape
  pub bitdata : List BitShape

abbrev pub no_shape : Shape
no_shape = record { vars = 0; tagged = false; names = []; types = [] }

-- the shape of a place; there is none beyond the list
abbrev pub place_at : List Shape → ℕ → Shape
place_at [] p = no_shape
place_at (s ∷ ss) zero = s
place_at (s ∷ ss) (suc p) = place_at ss p

abbrev pub bits_at : List BitShape → ℕ → BitShape
bits_at [] b = record { width = 0; gap = None; shape = no_shape }
bits_at (s ∷ ss) zero = s
bits_at (s ∷ ss) (suc b) = bits_at ss b

-- the type of the first member of a name
abbrev pub member : List ℕ → List (List ℕ) → List Ty → Option Ty
member x [] ts = None
member x (n ∷ ns) [] = None
member x (n ∷ ns) (t ∷ ts) = if bytes_eq n x then Some t else member x ns ts

-- a field of a record, or a tag of a union
abbrev pub found : Bool → List ℕ → Shape → Option Ty
found false x s = if s.tagged then None else member x s.names s.types
found true x s = if s.tagged then member x s.names s.types else None

-- so many variables, from the n-th on
abbrev pub fresh : ℕ → ℕ → Tys
fresh zero n = none
fresh (suc k) n = more (var n) (fresh k (suc n))

-- the map from a shape's own variables to those from the n-th on; a shape without variables is taken as it is
abbrev pub at : ℕ → ℕ → Sub
at vars n v = if vars == 0 then var v else var (n + v)
