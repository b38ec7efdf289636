-- The core of `Many`. Its state is the array so far and, where there are bounds, the count of the turns that are still
-- wanted, of those that are still allowed, or both. Counts fall by one a turn, but not below 0. The body stands once.
use Rattle.std.specs.Prelude.{[], ◌∷◌, None}
use Rattle.ddl_base.specs.declared.span.Span.{Span}
use Rattle.ddl_types.specs.Types.{Ty}
use Rattle.ddl_typed.specs.declared.parts.Choice.{Choice}
use Rattle.ddl_typed.specs.Tree.{Bounds, unbounded, exactly, from_, up_to, between}
use Rattle.ddl_mono.specs.Copies.{Scope}
use Rattle.ddl_core.specs.Core.{Form, give, perform, none, bind, again, push, less_one}
use Rattle.ddl_lowering.specs.PartTypes.{count_type}
use Rattle.ddl_lowering.specs.Choices.{choice, at_zero}

-- after the body: one more element, and the next turn
abbrev pub push_on : Ty → Span → Form
push_on ty span = bind ty (perform push (1 ∷ 0 ∷ []) span) (again (0 ∷ []))

-- the same with one count
abbrev pub push_count : Ty → Span → Form
push_count ty span =
    bind ty (perform push (1 ∷ 0 ∷ []) span) (bind count_type (perform less_one (3 ∷ []) span) (again (1 ∷ 0 ∷ [])))

-- the same with two counts
abbrev pub push_counts : Ty → Span → Form
push_counts ty span =
    bind ty (perform push (1 ∷ 0 ∷ []) span)
    (bind count_type (perform less_one (3 ∷ []) span)
    (bind count_type (perform less_one (5 ∷ []) span) (again (2 ∷ 1 ∷ 0 ∷ []))))

-- a turn: the body where one more is allowed, and the array where the body has no parse and no more are wanted
abbrev pub turns : Choice → Bounds → Form → Ty → Ty → Span → Form
turns k unbounded g inner ty span = choice k inner g (push_on ty span) (give 0)
turns k (exactly a) g inner ty span = at_zero 1 (bind inner g (push_count ty span))
turns k (from_ a) g inner ty span = choice k inner g (push_count ty span) (at_zero 1 none)
turns k (up_to b) g inner ty span = at_zero 1 (choice k inner g (push_count ty span) (give 0))
turns k (between a b) g inner ty span = at_zero 2 (choice k inner g (push_counts ty span) (at_zero 1 none))

-- the variables around the turns: the bounds, their counts, and the empty array
abbrev pub around_scope : Bounds → Scope → Scope
around_scope unbounded os = None ∷ os
around_scope (exactly a) os = None ∷ None ∷ None ∷ os
around_scope (from_ a) os = None ∷ None ∷ None ∷ os
around_scope (up_to b) os = None ∷ None ∷ None ∷ os
around_scope (between a b) os = None ∷ None ∷ None ∷ None ∷ None ∷ None ∷ os

-- the variables of the state before them
abbrev pub state_scope : Bounds → Scope → Scope
state_scope unbounded os = None ∷ os
state_scope (exactly a) os = None ∷ None ∷ os
state_scope (from_ a) os = None ∷ None ∷ os
state_scope (up_to b) os = None ∷ None ∷ os
state_scope (between a b) os = None ∷ None ∷ None ∷ os
