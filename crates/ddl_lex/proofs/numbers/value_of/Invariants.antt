use Rattle.std.proofs.Common.{◌≡◌, drop}
use Rattle.ddl_lex.specs.Numbers.{value_behind, radix}
use Rattle.ddl_lex.proofs.numbers.value_of.Given as goal

abbrev pub invariant-loop-digit : goal.invariant-loop-digit
invariant-loop-digit l = record {
  based : l.radix ≡ radix l.fn.base;
  so_far : value_behind (radix l.fn.base) l.value (drop l.digit-index l.digits) ≡ value_behind (radix l.fn.base) 0 l.digits;
}
