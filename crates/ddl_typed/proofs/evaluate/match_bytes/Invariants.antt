use Rattle.std.proofs.Common.{◌≡◌, drop}
use Rattle.ddl_typed.specs.Evaluated.{matched}
use Rattle.ddl_typed.proofs.evaluate.match_bytes.Given as goal

abbrev pub invariant-loop-byte : goal.invariant-loop-byte
invariant-loop-byte l = matched l.input (drop l.byte-index l.bytes) l.bytes l.span l.here ≡ matched l.input l.bytes l.bytes l.span l.at
