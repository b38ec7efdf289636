-- Two types that are no variables: whether their heads are one, and the equations between their parts.
use Rattle.std.specs.Prelude.{◌==◌, ◌&&◌, Bool, true, false, List, [], ◌∷◌, ◌++◌}
use Rattle.ddl_types.specs.Types.{Head, Head.int, Head.uint, Head.sint, Head.bool, Head.unit, Head.stream, Head.maybe_of, Head.array_of, Head.map_of, Head.bits}
use Rattle.ddl_types.specs.Types.{Head.place, Ty, Ty.var, Ty.con, Tys, Tys.none, Tys.more}
use Rattle.ddl_unify.specs.Equations.{Equation, equal}

abbrev pub head_eq : Head → Head → Bool
head_eq int int = true
head_eq (uint m) (uint n) = m == n
head_eq (sint m) (sint n) = m == n
head_eq bool bool = true
head_eq unit unit = true
head_eq stream stream = true
head_eq maybe_of maybe_of = true
head_eq array_of array_of = true
head_eq map_of map_of = true
head_eq (bits m) (bits n) = m == n
head_eq (place m) (place n) = m == n
head_eq _ _ = false

-- as many parts
abbrev pub long_as : Tys → Tys → Bool
long_as none none = true
long_as (more t ts) (more u us) = long_as ts us
long_as _ _ = false

-- one head and as many parts
abbrev pub alike : Ty → Ty → Bool
alike (con h ts) (con g us) = head_eq h g && long_as ts us
alike _ _ = false

abbrev pub parts : Ty → Tys
parts (var v) = none
parts (con h ts) = ts

-- a type that is no variable
abbrev pub IsCon : Ty → Type 0
IsCon (var v) = ⊥
IsCon (con h ts) = Unit {0}

-- the equations between the parts of two lists; the first part stands last, and is solved first
abbrev pub pairs : Tys → Tys → List Equation
pairs none rs = []
pairs (more l ls) none = []
pairs (more l ls) (more r rs) = pairs ls rs ++ equal l r ∷ []

-- the type of maps
abbrev pub map_type : Ty → Ty → Ty
map_type k v = con map_of (more k (more v none))
