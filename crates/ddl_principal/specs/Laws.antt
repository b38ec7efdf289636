-- What holds of the typing of a group.
use Rattle.std.specs.Prelude.{◌≡◌, ℕ, List}
use Rattle.ddl_types.specs.Types.{Sub}
use Rattle.ddl_unify.specs.Equations.{MostGeneral}
use Rattle.ddl_rules.specs.Asks.{Known, State}
use Rattle.ddl_typing.specs.Closed.{Closes}
use Rattle.ddl_typing.specs.Groups.{Body, TypedGroup, TypingGroup, elaborated_group, bodies_on, group_on, equations_of, AreMet, IsOwn}
use Rattle.ddl_typing.specs.Replaced.{all_known_on, state_on}

-- what is elaborated is a typing, whatever its variables become
abbrev pub IsTyping : Type 0
IsTyping = (bs : List Body) (known : ℕ → Known) (z : State) (f : Sub) → ((d : ℕ) → Closes (known d))
    → TypingGroup (bodies_on bs f) (all_known_on known f) (state_on z f) (group_on (elaborated_group bs known z) f)

-- each typing whose equations are met is the elaborated one under the most general solution of its equations, followed by a map
abbrev pub IsPrincipal : Type 0
IsPrincipal = (bs : List Body) (known : ℕ → Known) (z : State) (g : Sub) (m : TypedGroup) (f : Sub) → IsOwn bs known z → ((d : ℕ) → Closes (known d))
    → TypingGroup (bodies_on bs g) (all_known_on known g) (state_on z g) m → AreMet m.asks
    → MostGeneral (equations_of (elaborated_group bs known z).asks) f → (h : Sub) × (m ≡ group_on (group_on (elaborated_group bs known z) f) h)
