use Rattle.std.proofs.Common.{◌≡◌, nat_lt, drop}
use Rattle.ddl_types.specs.Plain.{deepest}
use Rattle.ddl_types.specs.PlainOf.{plain_values}
use Rattle.ddl_ops.specs.Primitives.{byte_values}
use Rattle.ddl_typed.proofs.shared.has_deeper_byte.Given as goal

abbrev pub invariant-loop-byte : goal.invariant-loop-byte
invariant-loop-byte l = nat_lt l.room (deepest (plain_values (byte_values (drop l.byte-index l.bytes))))
    ≡ nat_lt l.room (deepest (plain_values (byte_values l.bytes)))
