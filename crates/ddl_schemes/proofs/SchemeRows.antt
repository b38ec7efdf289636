-- Worked rows of numberings, and of types with numbered variables, computed from the definitions.
use Rattle.std.specs.Prelude.{◌≡◌, ◌==◌, [], ◌∷◌, refl, map, true, false, if◌then◌else◌}
use Rattle.ddl_types.specs.Types.{Ty.var, Ty.con, Tys.none, Tys.more, Sub, Head.int, Head.bool, Head.unit, Head.array_of, Head.map_of, Head.place, on}
use Rattle.ddl_types.specs.Conditions.{field, lossless, num}
use Rattle.ddl_judging.specs.Shapes.{Shapes}
use Rattle.ddl_schemes.specs.Order.{AreVariables, Walks}
use Rattle.ddl_schemes.specs.Renaming.{renaming, shared, shared_condition}

-- place 0 has a variable of its own; place 1 has the members `?7` and place 1, and none of its own
abbrev shapes : Shapes
shapes = record {
  places = record { vars = 1; tagged = false; names = (97 ∷ []) ∷ []; types = var 0 ∷ [] }
      ∷ record { vars = 0; tagged = true; names = (97 ∷ []) ∷ (98 ∷ []) ∷ []; types = var 7 ∷ con (place 1) none ∷ [] }
      ∷ [];
  bitdata = [];
}

-- `?5` is `int`, and no other variable is bound
abbrev solved : Sub
solved v = if v == 5 then con int none else var v

-- parts come in order, each variable once, and a bound one not at all: `[?3 -> ?5]`, `[?4]`, `?3`
parts_in_order : AreVariables shapes solved (con map_of (more (var 3) (more (var 5) none)) ∷ con array_of (more (var 4) none) ∷ var 3 ∷ []) (3 ∷ 4 ∷ [])
parts_in_order = record {
  places = [];
  walk = Walks.head (Walks.variable (Walks.head (Walks.head (Walks.variable (Walks.variable Walks.ends)))));
}

-- the members of place 1 come where it appears first, and once, though it stands in itself: place 1, `?2`, place 1
members_at_first : AreVariables shapes solved (con (place 1) none ∷ var 2 ∷ con (place 1) none ∷ []) (7 ∷ 2 ∷ [])
members_at_first = record {
  places = 1 ∷ [];
  walk = Walks.head (Walks.variable (Walks.head (Walks.variable (Walks.head Walks.ends))));
}

-- of a place with variables of its own only the arguments come, and a place beyond the list has no members
arguments_alone : AreVariables shapes solved (con (place 0) (more (var 6) none) ∷ con (place 9) none ∷ []) (6 ∷ [])
arguments_alone = record { places = 9 ∷ []; walk = Walks.head (Walks.variable (Walks.head Walks.ends)) }

-- arguments come before members
arguments_first : AreVariables shapes solved (con (place 1) (more (var 8) none) ∷ []) (8 ∷ 7 ∷ [])
arguments_first = record { places = 1 ∷ []; walk = Walks.head (Walks.variable (Walks.variable (Walks.head Walks.ends))) }

-- among `?3` and `?4` the second has the number 1, and `?9` is the type of `{}`
numbered : on (con map_of (more (var 4) (more (var 9) none))) (renaming (3 ∷ 4 ∷ []) 0) ≡ con map_of (more (var 1) (more (con unit none) none))
numbered = refl

-- a place of the group has all its variables as arguments, and one from below keeps its own
first_place : shared 2 2 (con (place 2) none) ≡ con (place 2) (more (var 0) (more (var 1) none))
first_place = refl

place_below : shared 2 2 (con (place 1) (more (con (place 3) none) none)) ≡ con (place 1) (more (con (place 3) (more (var 0) (more (var 1) none))) none)
place_below = refl

-- one of a group without variables has no arguments
no_arguments : shared 2 0 (con array_of (more (con (place 3) none) none)) ≡ con array_of (more (con (place 3) none) none)
no_arguments = refl

conditions_shared : map (shared_condition 0 1) (num (var 0) ∷ lossless (var 0) (con int none) ∷ field (con (place 4) none) (120 ∷ []) (con bool none) ∷ [])
    ≡ num (var 0) ∷ lossless (var 0) (con int none) ∷ field (con (place 4) (more (var 0) none)) (120 ∷ []) (con bool none) ∷ []
conditions_shared = refl
