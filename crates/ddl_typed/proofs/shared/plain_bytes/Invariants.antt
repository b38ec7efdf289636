use Rattle.std.proofs.Common.{◌≡◌, map, take}
use Rattle.ddl_types.specs.PlainOf.{plain_of}
use Rattle.ddl_types.specs.PlainView.{plain_view}
use Rattle.ddl_ops.specs.Primitives.{byte_value}
use Rattle.ddl_typed.proofs.shared.plain_bytes.Given as goal

abbrev pub invariant-loop-byte : goal.invariant-loop-byte
invariant-loop-byte l = map plain_view l.plains.items ≡ map (λ b. plain_of (byte_value b)) (take l.byte-index l.bytes)
