use Rattle.std.proofs.Common.{refl}
use Rattle.ddl_lex.proofs.Values.{too_wide}
use Rattle.ddl_lex.proofs.numbers.value_of.Goals as goal

pub returns-in-None-clause-none : goal.returns-in-None-clause-none
returns-in-None-clause-none c =
    λ _. too_wide c.args.base c.loop-digit.value c.radix-radix.result c.loop-digit.digit-index c.args.digits.now _ c.radix-radix.ensures.value
    c.loop-digit.invariant.so_far c.loop-digit-test.true (c.in-None.ensures.none refl)
