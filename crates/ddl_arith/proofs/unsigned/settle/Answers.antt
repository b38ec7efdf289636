use Rattle.std.proofs.Common.{Ok, ap, sym, ◌∙◌}
use Rattle.ddl_types.specs.declared.num.Num.TheVariants.{Uint}
use Rattle.ddl_arith.proofs.Residues.{settled_uint}
use Rattle.ddl_arith.proofs.unsigned.settle.Goals as goal

pub returns : goal.returns
returns c = ap (λ n. Ok (Uint n)) c.lowest_bits.ensures ∙ sym (settled_uint c.args.width c.args.whole)
