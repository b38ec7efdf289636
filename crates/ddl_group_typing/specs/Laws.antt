-- What holds of the typing of groups.
use Rattle.std.specs.Prelude.{◌≡◌, ◌++◌, ℕ, Bool, true, Contains, List, length}
use Rattle.ddl_tree.specs.declared.kind.Kind.TheVariants as k
use Rattle.ddl_types.specs.Types.{Sub}
use Rattle.ddl_types.specs.Conditions.{Condition, on_condition}
use Rattle.ddl_judging.specs.Demands.{condition}
use Rattle.ddl_judging.specs.Shapes.{Shapes}
use Rattle.ddl_growing.specs.Carrying.{listed}
use Rattle.ddl_schemes.specs.Renaming.{shared}
use Rattle.ddl_typed.specs.Tree as t
use Rattle.ddl_rules.specs.Asks.{Known, State}
use Rattle.ddl_typing.specs.Closed.{Closes}
use Rattle.ddl_typing.specs.Groups.{Body, bodies_on}
use Rattle.ddl_typing.specs.Names.{calling, types_first}
use Rattle.ddl_typing.specs.Replaced.{all_known_on, conditions_on, state_on, trees_on}
use Rattle.ddl_group_typing.specs.Finals.{final_bodies, kept_of}
use Rattle.ddl_group_typing.specs.OwnCalls.{args_calls, form_calls}
use Rattle.ddl_group_typing.specs.OwnShapes.{ShapesClose, shapes_on}
use Rattle.ddl_group_typing.specs.Refusals.{shapes_of}
use Rattle.ddl_group_typing.specs.Solved.{AreWellTypedAt, followed, numbered}
use Rattle.ddl_group_typing.specs.Tables.{Opening, Table, asked_in, elaborated_in, overlaid, shapes_in}
use Rattle.ddl_group_typing.specs.WellTyped.{AreClosedShapes, AreWellTyped, IsGranted}
use Rattle.ddl_group_typing.specs.Whole.{AreTyped, IsGroup}

-- ---- one typing

-- whichever most general solutions are kept, a group has one typing
abbrev pub OneGroup : Type 0
OneGroup = (o : Opening) (z a b : Table) → IsGroup o z a → IsGroup o z b → a ≡ b

-- and so has a specification
abbrev pub OneTyping : Type 0
OneTyping = (opened : List ℕ → Table → Opening) (groups : List (List ℕ)) (z a b : Table) → AreTyped opened groups z a → AreTyped opened groups z b → a ≡ b

-- ---- instances

-- what is well typed is so with its variables replaced, where what was assumed is granted then
abbrev pub InstancesAreWellTyped : Type 0
InstancesAreWellTyped = (ss : Shapes) (assumed granted : List Condition) (known : ℕ → Known) (bs : List Body) (z : State) (trees : List t.Expr) (f : Sub)
    → AreClosedShapes ss → ((d : ℕ) → Closes (known d))
    → ((c : Condition) → Contains assumed c → IsGranted ss granted (condition (on_condition f c)))
    → AreWellTyped ss assumed known bs z trees → AreWellTyped ss granted (all_known_on known f) (bodies_on bs f) (state_on z f) (trees_on trees f)

-- the same where there are records and unions of the group, whose types are over its variables
abbrev pub OwnInstancesAreWellTyped : Type 0
OwnInstancesAreWellTyped = (ss : Shapes) (assumed granted : List Condition) (known : ℕ → Known) (bs : List Body) (z : State) (trees : List t.Expr) (f : Sub)
    → ShapesClose ss → ((d : ℕ) → Closes (known d))
    → ((c : Condition) → Contains assumed c → IsGranted (shapes_on ss f) granted (condition (on_condition f c)))
    → AreWellTyped ss assumed known bs z trees
    → AreWellTyped (shapes_on ss f) granted (all_known_on known f) (bodies_on bs f) (state_on z f) (trees_on trees f)

-- ---- a typed group

-- it is well typed at its own variables, where what it keeps is assumed
abbrev pub GroupsAreWellTyped : Type 0
GroupsAreWellTyped = (o : Opening) (z a : Table) (x : IsGroup o z a) → ((d : ℕ) → Closes (overlaid o.own z.known d)) → ShapesClose (shapes_in o z)
    → AreWellTypedAt o z (numbered x.variables x.solution)
    (conditions_on (kept_of (asked_in o z).asked x.kept) (numbered x.variables x.solution))

-- and at all types of these at which what it keeps is granted
abbrev pub GroupsAreWellTypedAtAll : Type 0
GroupsAreWellTypedAtAll = (o : Opening) (z a : Table) (x : IsGroup o z a) (h : Sub) (granted : List Condition)
    → ((d : ℕ) → Closes (overlaid o.own z.known d)) → ShapesClose (shapes_in o z)
    → (let f : Sub = followed (numbered x.variables x.solution) h in
    ((c : Condition) → Contains (kept_of (asked_in o z).asked x.kept) c → IsGranted (shapes_on (shapes_in o z) f) granted (condition (on_condition f c)))
    → AreWellTypedAt o z f granted)

-- the trees in the table are those that are well typed at its own variables, with each of its records and unions at all of
-- them, and with its own calls
abbrev pub TreesAreOfGroup : Type 0
TreesAreOfGroup = (o : Opening) (z a : Table) (x : IsGroup o z a)
    → a.done ≡ z.done ++ final_bodies (length x.variables) (shared (length z.places) (length x.variables)) o.members o.members
    (trees_on (elaborated_in o z).trees (numbered x.variables x.solution))

-- there a call of a member is as it is made at all types of the group's variables, with these variables themselves
abbrev pub OwnCallsAreAtVariables : Type 0
OwnCallsAreAtVariables = (is_member : ℕ → Bool) (n d : ℕ) (as_ : t.Args) → is_member d ≡ true
    → (form_calls is_member n (t.value_call d as_) ≡ calling k.Value d (types_first 0 (listed n 0) (args_calls is_member n as_)))
    × (form_calls is_member n (t.call d as_) ≡ calling k.Grammar d (types_first 0 (listed n 0) (args_calls is_member n as_)))

-- where what is known before a group closes, and so do the records and unions that there are in it, so does all behind it: each
-- declaration, record and union of the group is over the group's variables
abbrev pub TablesClose : Type 0
TablesClose = (o : Opening) (z a : Table) → IsGroup o z a → ((d : ℕ) → Closes (z.known d)) → ShapesClose (shapes_in o z)
    → ((d : ℕ) → Closes (a.known d)) × ShapesClose (shapes_of a)
