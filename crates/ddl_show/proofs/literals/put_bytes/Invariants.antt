use Rattle.std.proofs.Common.{◌≡◌, ◌++◌, drop}
use Rattle.ddl_show.specs.Quoted.{all_written}
use Rattle.ddl_show.proofs.literals.put_bytes.Given as goal

abbrev pub invariant-loop-byte : goal.invariant-loop-byte
invariant-loop-byte l = l.text.items ++ all_written l.quote (drop l.byte-index l.bytes) ≡ l.initial.text.items ++ all_written l.quote l.bytes
