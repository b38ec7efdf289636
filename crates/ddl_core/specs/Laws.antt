-- The laws of the meaning.
use Rattle.std.specs.Prelude.{◌≡◌, ℕ, ◌≤◌}
use Rattle.ddl_base.specs.declared.span.Span.{Span}
use Rattle.ddl_types.specs.Growth.{IsWhole, Begins}
use Rattle.ddl_types.specs.Joining.{leave}
use Rattle.ddl_types.specs.Outcome.{Outcome}
use Rattle.ddl_types.specs.Value.{Value, Values, Stream}
use Rattle.ddl_core.specs.Attempt.{Attempt, Single, then_or}
use Rattle.ddl_core.specs.Core.{Core, Operation}
use Rattle.ddl_core.specs.Meaning.{Run}
use Rattle.ddl_core.specs.Operations.{performed}

-- a depth that is large enough gives what every larger one gives
abbrev pub EnoughDepth : Type 0
EnoughDepth = (n m : ℕ) (program : Core) (s : Stream) → n ≤ m → IsWhole (Run n program s) → Run m program s ≡ Run n program s

-- what a depth gives stands at the front of what every larger one gives
abbrev pub LargerDepth : Type 0
LargerDepth = (n m : ℕ) (program : Core) (s : Stream) → n ≤ m → Begins (Run n program s) (Run m program s)

-- two depths that are large enough give the same
abbrev pub OneOutcome : Type 0
OneOutcome = (n m : ℕ) (program : Core) (s : Stream) → IsWhole (Run n program s) → IsWhole (Run m program s) → Run n program s ≡ Run m program s

-- an operation gives at most one parse, as its last event
abbrev pub PerformsOnce : Type 0
PerformsOnce = (op : Operation) (vs : Values) (span : Span) (s : Stream) → Single (performed op vs span s)

-- a choice whose left side does so goes on at its parse, or after its failures with the right side
abbrev pub ChoosesOnce : Type 0
ChoosesOnce = (o : Outcome) (rest : Value → Stream → Outcome) (p : Outcome) → Single o → Attempt (leave o) rest p ≡ then_or o rest p
