-- Small specialised specifications for worked rows, and what a row says.
use Rattle.std.proofs.Common.{◌≡◌, ℕ, ◌*◌, List, [], ◌∷◌, true}
use Rattle.std.specs.Prelude.{length, nat_le, ◌&&◌}
use Rattle.ddl_base.specs.declared.span.Span.{Span}
use Rattle.ddl_tree.specs.declared.kind.Kind.{Kind}
use Rattle.ddl_tree.specs.declared.kind.Kind.TheVariants.{Grammar}
use Rattle.ddl_types.specs.Types.{Ty, con, none, uint}
use Rattle.ddl_types.specs.Value.{Stream, in_input}
use Rattle.ddl_types.specs.Outcome.{Outcome, unticked, ticks}
use Rattle.ddl_typed.specs.Tree.{Name, Expr, expr, local, literal, uint8, class, those}
use Rattle.ddl_typed.specs.Tree as t
use Rattle.ddl_typed.specs.Meaning as typed
use Rattle.ddl_mono.specs.Copies.{Copy, Mono, spec_of}
use Rattle.ddl_core.specs.Meaning as core
use Rattle.ddl_lowering.specs.Program.{core_of}

abbrev pub span : Span
span = record { «module» = 0; from = 0; to = 1 }

abbrev pub word : Ty
word = con (uint 64) none

abbrev pub on : List ℕ → Stream
on input = record { bytes = input; source = in_input; from = 0; to = length input }

-- ---- forms

abbrev pub e : t.Form → Expr
e form = expr form word span

abbrev pub at_byte : t.Form → Expr
at_byte form = expr form (con (uint 8) none) span

-- the first local name
abbrev pub x : Expr
x = at_byte (local 0)

abbrev pub byte : Expr
byte = at_byte uint8

abbrev pub num : ℕ → Expr
num n = e (literal n)

-- `a` or `b`
abbrev pub any_byte : Expr
any_byte = e (class (those (λ b. nat_le 97 b && nat_le b 98)))

-- ---- specifications

-- a copy without a name of interest
abbrev pub copy : Kind → List Name → List Ty → Expr → Copy
copy kind names params p = record { declaration = 0; unit = 0; name = []; span = span; kind = kind; names = names; params = params; result = word; body = p }

abbrev pub mono : List Copy → Mono
mono ks = record { units = []; texts = []; entry = 0; copies = ks; places = []; bitdata = [] }

-- one grammar alone
abbrev pub one : Expr → Mono
one p = mono (copy Grammar [] [] p ∷ [])

-- ---- what a row says: the same events, and the ticks within eight times

abbrev pub typed_run : Mono → List ℕ → Outcome
typed_run m input = typed.Run 9 (spec_of m) m.entry (on input)

abbrev pub core_run : Mono → List ℕ → Outcome
core_run m input = core.Run 9 (core_of m) (on input)

abbrev pub AgreesAll : Mono → List ℕ → Type 0
AgreesAll m input = (unticked (typed_run m input) ≡ unticked (core_run m input)) × (nat_le (ticks (core_run m input)) (8 * ticks (typed_run m input)) ≡ true)

abbrev pub Agrees : Expr → List ℕ → Type 0
Agrees p input = AgreesAll (one p) input
