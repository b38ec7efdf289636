-- Infix and prefix operators.
use Rattle.std.specs.Prelude.{true, false, not}
use Rattle.ddl_base.specs.declared.span.Span.{Span}
use Rattle.ddl_types.specs.Value.{Value, boolean}
use Rattle.ddl_ops.specs.declared.operators.Infix.{Infix}
use Rattle.ddl_ops.specs.declared.operators.Infix.TheVariants.{Arithmetic, Compare, Beside, Append, And, Or}
use Rattle.ddl_ops.specs.declared.operators.Prefix.{Prefix}
use Rattle.ddl_ops.specs.declared.operators.Prefix.TheVariants.{Minus, Not, Complement}
use Rattle.ddl_ops.specs.Valued.{Valued, gives, stuck, then_value}
use Rattle.ddl_ops.specs.Numbers.{arithmetic_value, negated, complement_of, bits_beside, bits_appended}
use Rattle.ddl_ops.specs.Comparisons.{key_order, compared}

-- a truth value, as it is
abbrev pub truth_of : Value → Valued
truth_of (boolean b) = gives (boolean b)
truth_of v = stuck

-- an infix operator at the value of its left side and what its right side gives: `&&` and `||` look at the right side
-- only where the left one does not settle them
abbrev pub infix_value : Infix → Span → Value → Valued → Valued
infix_value (Arithmetic op) span v right = then_value right (λ w. arithmetic_value op span v w)
infix_value (Compare c) span v right = then_value right (λ w. compared c (key_order v w))
infix_value Beside span v right = then_value right (λ w. bits_beside v w)
infix_value Append span v right = then_value right (λ w. bits_appended v w)
infix_value And span (boolean true) right = then_value right truth_of
infix_value And span (boolean false) right = gives (boolean false)
infix_value Or span (boolean true) right = gives (boolean true)
infix_value Or span (boolean false) right = then_value right truth_of
infix_value op span v right = stuck

-- a prefix operator
abbrev pub prefix_value : Prefix → Span → Value → Valued
prefix_value Minus span v = negated span v
prefix_value Not span (boolean b) = gives (boolean (not b))
prefix_value Complement span v = complement_of v
prefix_value op span v = stuck
