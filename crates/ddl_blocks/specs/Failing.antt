-- What an operation may come to, beside a value.
use Rattle.std.specs.Prelude.{◌≡◌, ◌⊎◌, Bool, true, false, List, [], ◌∷◌}
use Rattle.ddl_base.specs.declared.span.Span.{Span}
use Rattle.ddl_types.specs.declared.fault.Fault.{Fault}
use Rattle.ddl_types.specs.declared.fault.Fault.TheVariants.{Overflow, DivZero, Shift}
use Rattle.ddl_types.specs.Outcome.{Outcome, End, Faulted, Deep, Stuck, ends, tick, miss, parse}
use Rattle.ddl_types.specs.Value.{Values, Stream}
use Rattle.ddl_arith.specs.declared.operation.Op.{Op}
use Rattle.ddl_arith.specs.declared.operation.Op.TheVariants.{Div, Rem, Shl, Shr}
use Rattle.ddl_ops.specs.declared.operators.Infix.TheVariants.{Arithmetic}
use Rattle.ddl_ops.specs.declared.operators.Prefix.TheVariants.{Minus}
use Rattle.ddl_ops.specs.declared.operators.Primitive.{Primitive}
use Rattle.ddl_ops.specs.declared.operators.Primitive.TheVariants.{GetStream, Offset, SetStream}
use Rattle.ddl_core.specs.Core.{Operation, infix_, prefix_, uint8, match_text, match, end, class, fail, no_case, primitive, guard, fits}
use Rattle.ddl_core.specs.Operations.{performed}

-- the built-in grammars that may fail
abbrev pub primitive_fails : Primitive → Bool
primitive_fails GetStream = false
primitive_fails Offset = false
primitive_fails SetStream = false
primitive_fails p = true

-- the operations that may fail
abbrev pub may_fail : Operation → Bool
may_fail uint8 = true
may_fail (match_text bs) = true
may_fail match = true
may_fail end = true
may_fail (class test) = true
may_fail (fail n) = true
may_fail no_case = true
may_fail (primitive p) = primitive_fails p
may_fail (guard p) = true
may_fail (fits to) = true
may_fail op = false

-- the faults that an operation on numbers may have
abbrev pub faults_at : Op → List Fault
faults_at Div = Overflow ∷ DivZero ∷ []
faults_at Rem = Overflow ∷ DivZero ∷ []
faults_at Shl = Overflow ∷ Shift ∷ []
faults_at Shr = Overflow ∷ Shift ∷ []
faults_at op = Overflow ∷ []

-- the faults that an operation may have
abbrev pub faults_of : Operation → List Fault
faults_of (infix_ (Arithmetic op)) = faults_at op
faults_of (prefix_ Minus) = Overflow ∷ []
faults_of op = []

-- a fault is one of a list
abbrev pub IsAmong : Fault → List Fault → Type 0
IsAmong f [] = ⊥
IsAmong f (g ∷ gs) = (g ≡ f) ⊎ IsAmong f gs

-- some ticks, and then one parse, a failure where there may be one, one of these faults at a span, or no meaning
abbrev pub May : Bool → List Fault → Span → Outcome → Type 0
May b fs span (tick o) = May b fs span o
May b fs span (parse v s o) = o ≡ ends End
May b fs span (miss why source at sp o) = (b ≡ true) × (o ≡ ends End)
May b fs span (ends (Faulted f sp)) = IsAmong f fs × (sp ≡ span)
May b fs span (ends Stuck) = Unit {0}
May b fs span (ends Deep) = ⊥
May b fs span (ends End) = ⊥

-- an operation comes to nothing else
abbrev pub ComesTo : Type 0
ComesTo = (o : Operation) (vs : Values) (span : Span) (s : Stream) → May (may_fail o) (faults_of o) span (performed o vs span s)
