-- The core of `for` and of `map`: loops over the positions of an array or of a map.
use Rattle.std.specs.Prelude.{ℕ, [], ◌∷◌, Some, None}
use Rattle.ddl_base.specs.declared.span.Span.{Span}
use Rattle.ddl_types.specs.Types.{Ty}
use Rattle.ddl_typed.specs.declared.parts.Binder.{Binder}
use Rattle.ddl_mono.specs.Copies.{Scope}
use Rattle.ddl_core.specs.Core.{Form, give, perform, bind, loop, again, list, push, first_position, has_position, element_at, key_at, next_position, gather}
use Rattle.ddl_lowering.specs.Scopes.{named_at}
use Rattle.ddl_lowering.specs.PartTypes.{truth_type, count_type, key_type, element_type}
use Rattle.ddl_lowering.specs.Choices.{by_truth}

-- The names of the variables in the body of a `for`: the element, the key, the result so far, the position; then those
-- around the turns: `{}`, whether there is an element, the first position, what is gone over, the start.
abbrev pub for_scope : ℕ → Binder → Scope → Scope
for_scope x names os =
    named_at (Some names.element) ∷ named_at names.key ∷ named_at (Some x) ∷ None ∷
    None ∷ None ∷ None ∷ None ∷ None ∷ os

-- Those in the body of a `map`: the element, the key, the array so far, the position; then those around the turns: `{}`,
-- whether there is an element, the first position, the empty array, what is gone over.
abbrev pub map_scope : Binder → Scope → Scope
map_scope names os =
    named_at (Some names.element) ∷ named_at names.key ∷ None ∷ None ∷
    None ∷ None ∷ None ∷ None ∷ None ∷ os

-- after the body of a `for`: the next position, and the next turn or the result
abbrev pub for_on : Span → Form
for_on span =
    bind count_type (perform next_position (8 ∷ 4 ∷ []) span)
    (bind truth_type (perform has_position (9 ∷ 0 ∷ []) span)
    (by_truth (again (3 ∷ 2 ∷ [])) (give 3) span))

-- a turn of a `for`: the key and the element at the position, and the body
abbrev pub for_turn : Ty → Ty → Form → Span → Form
for_turn over ty body span =
    bind (key_type over) (perform key_at (5 ∷ 1 ∷ []) span)
    (bind (element_type over) (perform element_at (6 ∷ 2 ∷ []) span) (bind ty body (for_on span)))

-- a `for`: the start, what is gone over, and the turns or the start
abbrev pub for_loop : Ty → Form → Ty → Form → Ty → Form → Span → Form
for_loop begun start over e ty body span =
    bind begun start (bind over e (bind count_type (perform first_position [] span)
    (bind truth_type (perform has_position (1 ∷ 0 ∷ []) span)
    (by_truth (loop (ty ∷ count_type ∷ []) (4 ∷ 2 ∷ []) (for_turn over ty body span)) (give 4) span))))

-- after the push of a `map`: the next position, and the next turn or what is gathered
abbrev pub map_next : Span → Form
map_next span =
    bind count_type (perform next_position (10 ∷ 5 ∷ []) span)
    (bind truth_type (perform has_position (11 ∷ 0 ∷ []) span)
    (by_truth (again (3 ∷ 2 ∷ [])) (perform gather (13 ∷ 3 ∷ []) span) span))

-- after the body of a `map`: one more element
abbrev pub map_on : Ty → Span → Form
map_on ty span = bind ty (perform push (3 ∷ 0 ∷ []) span) (map_next span)

-- a turn of a `map`: the key and the element at the position, and the body
abbrev pub map_turn : Ty → Ty → Ty → Form → Span → Form
map_turn over ty inner body span =
    bind (key_type over) (perform key_at (6 ∷ 1 ∷ []) span)
    (bind (element_type over) (perform element_at (7 ∷ 2 ∷ []) span) (bind inner body (map_on ty span)))

-- a `map`: what is gone over, and the turns or what is gathered of none
abbrev pub map_loop : Ty → Form → Ty → Ty → Form → Span → Form
map_loop over e ty inner body span =
    bind over e (bind ty (perform list [] span) (bind count_type (perform first_position [] span)
    (bind truth_type (perform has_position (2 ∷ 0 ∷ []) span)
    (by_truth (loop (ty ∷ count_type ∷ []) (3 ∷ 2 ∷ []) (map_turn over ty inner body span))
    (perform gather (4 ∷ 3 ∷ []) span) span))))
