-- Records and unions.
use Rattle.std.specs.Prelude.{ℕ, List, bytes_eq, if◌then◌else◌, Option, Some, None}
use Rattle.ddl_types.specs.Value.{Value, Fields, bitdata, unit, fields, no_fields, field}
use Rattle.ddl_types.specs.Layout.{only_con}
use Rattle.ddl_ops.specs.Bitdata.{fields_of_only}
use Rattle.ddl_ops.specs.Valued.{Valued, stuck, given}

-- the value of the field of a name
abbrev pub field_in : Fields → List ℕ → Option Value
field_in no_fields name = None
field_in (field other v fs) name = if bytes_eq other name then Some v else field_in fs name

-- `e.x`: of a record, or of a bitdata written with `=`
abbrev pub selected : List ℕ → Value → Valued
selected name (fields fs) = given (field_in fs name)
selected name (bitdata l n) = given (field_in (fields_of_only (only_con l) n) name)
selected name v = stuck

-- the value of a record form; without fields it is `{}`
abbrev pub record_of : Fields → Value
record_of no_fields = unit
record_of (field name v fs) = fields (field name v fs)
