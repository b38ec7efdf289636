-- The operation that a value of the program stands for.
use Rattle.std.specs.Prelude.{List}
use Rattle.ddl_class.specs.Class.{contains}
use Rattle.ddl_types.specs.Layout.{Layout}
use Rattle.ddl_ops.specs.TargetView.{target_view}
use Rattle.ddl_core.specs.declared.operation.Operation.{Operation}
use Rattle.ddl_core.specs.declared.operation.Operation.TheVariants as O
use Rattle.ddl_core.specs.Core as c

-- an operation, where the layouts of the bitdata are known
abbrev pub operation_view : List Layout → Operation → c.Operation
operation_view ls (O.Text bs) = c.text bs
operation_view ls (O.Literal n ty) = c.literal n ty
operation_view ls (O.Truth b) = c.truth b
operation_view ls O.Unit = c.unit_
operation_view ls O.Nothing = c.nothing_
operation_view ls O.Just = c.just_
operation_view ls O.List = c.list
operation_view ls (O.Record names) = c.record_ names.items
operation_view ls (O.Union name) = c.union_ name
operation_view ls (O.Select name) = c.select name
operation_view ls (O.Infix op) = c.infix_ op
operation_view ls (O.Prefix op) = c.prefix_ op
operation_view ls (O.Cast cast to) = c.cast cast (target_view ls to)
operation_view ls (O.Builtin b) = c.builtin b
operation_view ls O.TruthOf = c.truth_of_
operation_view ls O.CountOf = c.count_
operation_view ls O.Most = c.most
operation_view ls O.Push = c.push
operation_view ls O.LessOne = c.less_one
operation_view ls O.FirstPosition = c.first_position
operation_view ls O.HasPosition = c.has_position
operation_view ls O.ElementAt = c.element_at
operation_view ls O.KeyAt = c.key_at
operation_view ls O.NextPosition = c.next_position
operation_view ls O.Gather = c.gather
operation_view ls O.UInt8 = c.uint8
operation_view ls (O.MatchText bs) = c.match_text bs
operation_view ls O.Match = c.match
operation_view ls O.End = c.end
operation_view ls (O.Class set) = c.class (contains set)
operation_view ls (O.Fail n) = c.fail n
operation_view ls O.NoCase = c.no_case
operation_view ls (O.Primitive p) = c.primitive p
operation_view ls (O.Guard p) = c.guard p
operation_view ls (O.Fits to) = c.fits (target_view ls to)
operation_view ls O.Wrong = c.wrong
