-- Worked rows of substitution, computed from its definition.
use Rattle.std.specs.Prelude.{◌≡◌, [], ◌∷◌, refl, map}
use Rattle.ddl_types.specs.Types.{Ty.var, Ty.con, Tys.none, Tys.more, Head.int, Head.bool, Head.array_of, Head.map_of, Head.place, on, arguments}
use Rattle.ddl_types.specs.Conditions.{num, lit, field, on_condition}

-- `[?0 -> ?1]` at `int` and `bool` is `[int -> bool]`
both_replaced : on (con map_of (more (var 0) (more (var 1) none))) (arguments (con int none ∷ con bool none ∷ []))
    ≡ con map_of (more (con int none) (more (con bool none) none))
both_replaced = refl

-- a variable inside a place's arguments, at every level
inside_replaced : on (con (place 3) (more (con array_of (more (var 0) none)) none)) (arguments (con bool none ∷ []))
    ≡ con (place 3) (more (con array_of (more (con bool none) none)) none)
inside_replaced = refl

-- an argument is not itself replaced: `?0` at `[?0]` is `[?0]`
once_replaced : on (var 0) (arguments (con array_of (more (var 0) none) ∷ [])) ≡ con array_of (more (var 0) none)
once_replaced = refl

-- the conditions of a scheme at `int`
conditions_replaced : map (on_condition (arguments (con int none ∷ []))) (num (var 0) ∷ lit 255 (var 0) ∷ field (var 0) (120 ∷ []) (con bool none) ∷ [])
    ≡ num (con int none) ∷ lit 255 (con int none) ∷ field (con int none) (120 ∷ []) (con bool none) ∷ []
conditions_replaced = refl
