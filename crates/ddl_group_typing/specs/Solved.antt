-- The bodies of a typed group, with the types that they have once the group is solved.
use Rattle.std.specs.Prelude.{ℕ, List}
use Rattle.ddl_types.specs.Types.{Sub, on}
use Rattle.ddl_types.specs.Conditions.{Condition}
use Rattle.ddl_schemes.specs.Renaming.{renaming}
use Rattle.ddl_typing.specs.Groups.{bodies_on}
use Rattle.ddl_typing.specs.Replaced.{all_known_on, state_on, trees_on}
use Rattle.ddl_group_typing.specs.OwnShapes.{shapes_on}
use Rattle.ddl_group_typing.specs.Tables.{Opening, Table, elaborated_in, overlaid, shapes_in}
use Rattle.ddl_group_typing.specs.WellTyped.{AreWellTyped}

-- a solution, over the numbers of these variables
abbrev pub numbered : List ℕ → Sub → Sub
numbered vs f v = on (f v) (renaming vs 0)

-- a map, followed by another one
abbrev pub followed : Sub → Sub → Sub
followed f h v = on (f v) h

-- the bodies of a group are well typed with the types that a map gives, these conditions being assumed
abbrev pub AreWellTypedAt : Opening → Table → Sub → List Condition → Type 0
AreWellTypedAt o z f assumed = AreWellTyped (shapes_on (shapes_in o z) f) assumed (all_known_on (overlaid o.own z.known) f) (bodies_on o.bodies f)
    (state_on o.state f) (trees_on (elaborated_in o z).trees f)
