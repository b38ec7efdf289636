-- The heads of types under a solution.
use Rattle.std.specs.Prelude.{List, [], ◌∷◌, Option, Some, None}
use Rattle.ddl_types.specs.Types.{Ty, Ty.var, Ty.con, Sub, on, Head}

-- the head of a type that is known
abbrev pub head : Ty → Option Head
head (var v) = None
head (con h ts) = Some h

abbrev pub add_head : Option Head → Option (List Head) → Option (List Head)
add_head (Some h) (Some hs) = Some (h ∷ hs)
add_head h hs = None

-- the heads of types under a solution, where all are known
abbrev pub heads_of : List Ty → Sub → Option (List Head)
heads_of [] f = Some []
heads_of (t ∷ ts) f = add_head (head (on t f)) (heads_of ts f)
