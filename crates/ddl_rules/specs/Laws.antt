-- What holds of the steps of elaboration one after another.
use Rattle.std.specs.Prelude.{◌≡◌, ℕ, List, ◌++◌, length, Option}
use Rattle.ddl_base.specs.declared.span.Span.{Span}
use Rattle.ddl_tree.specs.declared.pattern.Shape.{Shape}
use Rattle.ddl_types.specs.Types.{Ty}
use Rattle.ddl_types.specs.declared.ty.Ty as program
use Rattle.ddl_ops.specs.declared.pattern.Pattern.{Pattern}
use Rattle.ddl_rules.specs.declared.elaboration.Elaboration.{Elaboration}
use Rattle.ddl_rules.specs.Asks.{Ask, Env, State}
use Rattle.ddl_rules.specs.Patterns.{IsGuarded, guard_held, guard_slot, guarded}
use Rattle.ddl_rules.specs.Steps.{Asks, GoesOn}
use Rattle.ddl_rules.specs.Views.{asks_of}

-- what `is` asks of a tag stands before what its subject asks, and any equation behind it
abbrev pub GuardsStandAround : Type 0
GuardsStandAround = (q : Shape) (span : Span) (slot : Option ℕ) (asks : List Ask) (z : State) (e : Env) (p : Pattern) (t : program.Ty) (u : Ty)
    → (old before behind now : Elaboration) → slot ≡ guard_slot q (length (asks_of old)) → Asks (guard_held q span) old before
    → GoesOn asks z e before behind → IsGuarded p t (guarded q u span z) slot e behind now
    → GoesOn ((guarded q u span z).before ++ (asks ++ (guarded q u span z).behind)) (guarded q u span z).state e old now
