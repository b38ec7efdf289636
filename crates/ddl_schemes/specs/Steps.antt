-- One step of a walk.
use Rattle.std.specs.Prelude.{ℕ, ◌++◌, List, [], ◌∷◌, if◌then◌else◌}
use Rattle.ddl_types.specs.Types.{Ty, Ty.var, Ty.con, Sub}
use Rattle.ddl_judging.specs.Shapes.{Shapes}
use Rattle.ddl_schemes.specs.Order.{Seen, among, members, parts, with_head, with_variable}

-- the types that are walked right behind a type
abbrev pub behind : Shapes → Sub → Seen → Ty → List Ty
behind ss f s (var v) = []
behind ss f s (con h us) = parts us ++ members ss f s h

-- what has appeared once it was met
abbrev pub seen_after : Shapes → Ty → Seen → Seen
seen_after ss (var v) s = with_variable v s
seen_after ss (con h us) s = with_head ss h s

-- the same of a place without variables of its own
abbrev pub with_place : ℕ → Seen → Seen
with_place p s = if among s.places p then s else record s { places = p ∷ s.places }
