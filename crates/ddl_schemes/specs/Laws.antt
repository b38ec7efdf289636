-- The variables of a group are one list.
use Rattle.std.specs.Prelude.{◌≡◌, ℕ, List}
use Rattle.ddl_types.specs.Types.{Ty, Sub}
use Rattle.ddl_judging.specs.Shapes.{Shapes}
use Rattle.ddl_schemes.specs.Order.{AreVariables}

-- at most one list is that of a group with these types
abbrev pub OneNumbering : Type 0
OneNumbering = (ss : Shapes) (f : Sub) (roots : List Ty) (ms ns : List ℕ) → AreVariables ss f roots ms → AreVariables ss f roots ns → ms ≡ ns
