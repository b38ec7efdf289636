-- How the sides of each operator are typed.
use Rattle.ddl_arith.specs.declared.operation.Op.TheVariants as o
use Rattle.ddl_tree.specs.declared.operator.InfixOp.{InfixOp}
use Rattle.ddl_tree.specs.declared.operator.InfixOp.TheVariants as i
use Rattle.ddl_ops.specs.declared.operators.Comparison.TheVariants as c
use Rattle.ddl_ops.specs.declared.operators.Infix.TheVariants as f
use Rattle.ddl_typed.specs.declared.parts.Choice.TheVariants as h
use Rattle.ddl_rules.specs.declared.operators.Typing.{Typing}
use Rattle.ddl_rules.specs.declared.operators.Typing.TheVariants.{Numbers, Shifts, Words, Compares, Truths, Joins, ShiftsIn, Alternatives}

abbrev pub typing : InfixOp → Typing
typing i.Either = Alternatives h.Unbiased
typing i.OrElse = Alternatives h.Biased
typing i.Or = Truths f.Or
typing i.And = Truths f.And
typing i.Equal = Compares c.Equal
typing i.NotEqual = Compares c.Unequal
typing i.Less = Compares c.Less
typing i.LessEqual = Compares c.AtMost
typing i.Greater = Compares c.Greater
typing i.GreaterEqual = Compares c.AtLeast
typing i.BitOr = Words o.Or
typing i.BitXor = Words o.Xor
typing i.BitAnd = Words o.And
typing i.ShiftLeft = Shifts o.Shl
typing i.ShiftRight = Shifts o.Shr
typing i.Append = Joins
typing i.AppendWithin = ShiftsIn
typing i.Add = Numbers o.Add
typing i.Subtract = Numbers o.Sub
typing i.Multiply = Numbers o.Mul
typing i.Divide = Numbers o.Div
typing i.Remainder = Numbers o.Rem
