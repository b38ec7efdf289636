-- The forms of the core language for tests and choices.
use Rattle.std.specs.Prelude.{ℕ, Bool, true, false, []}
use Rattle.ddl_base.specs.declared.span.Span.{Span}
use Rattle.ddl_types.specs.Types.{Ty}
use Rattle.ddl_ops.specs.declared.pattern.Pattern.TheVariants as P
use Rattle.ddl_typed.specs.declared.parts.Choice.{Choice}
use Rattle.ddl_typed.specs.declared.parts.Choice.TheVariants as C
use Rattle.ddl_core.specs.Core.{Form, Alternatives, perform, bind, both, attempt, case_, give, none_left, when}
use Rattle.ddl_core.specs.Core as c
use Rattle.ddl_lowering.specs.PartTypes.{unit_type}

-- what no form of a specialised specification asks for
abbrev pub wrong : Span → Form
wrong span = perform c.wrong [] span

-- an alternative for a truth value
abbrev pub on_truth : Bool → Form → Alternatives → Alternatives
on_truth b g rest = when (P.Truth b) unit_type g rest

-- one form where a variable is true, the other where it is false; both have `{}` as their variable 0
abbrev pub by_truth : Form → Form → Span → Form
by_truth g h span = case_ 0 (on_truth true g (on_truth false h none_left)) (wrong span)

-- the array that is variable 0 where a count is 0, else another form
abbrev pub at_zero : ℕ → Form → Form
at_zero x other = case_ x (when (P.Number 0) unit_type (give 1) none_left) other

-- a choice: the left side, what follows each parse of it with its value as variable 0, and the right side
abbrev pub choice : Choice → Ty → Form → Form → Form → Form
choice C.Biased ty l k r = attempt ty l k r
choice C.Unbiased ty l k r = both (bind ty l k) r
