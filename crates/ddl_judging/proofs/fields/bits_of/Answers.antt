use Rattle.ddl_judging.proofs.Searching.{bits_lookup}
use Rattle.ddl_judging.proofs.fields.bits_of.Goals as goal

pub returns : goal.returns
returns c = bits_lookup c.get.result c.args.shapes.now.bits.items c.deref.result.now c.args.number c.deref.ensures.value c.get.ensures.lookup.3
