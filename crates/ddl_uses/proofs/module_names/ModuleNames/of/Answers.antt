-- One declaration more.
use Rattle.std.proofs.Common.{arith}
use Rattle.ddl_uses.proofs.Naming.{meanings_more}
use Rattle.ddl_uses.proofs.module_names.ModuleNames.of.Goals as goal

pub loop-place-preserved : goal.loop-place-preserved
loop-place-preserved c =
    meanings_more c.args.first c.loop-place.place c.in_ok-number_at.field-0 c.args.decls.now c.index-decls-place.result c.loop-place.by_name c.add.new.by_name
    (omega arith)
    c.index-decls-place.is c.in_ok-number_at.ensures c.loop-place.invariant c.in_ok-add.ensures
