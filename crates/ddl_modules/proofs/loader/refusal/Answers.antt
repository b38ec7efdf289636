use Rattle.ddl_modules.proofs.LoadLemmas.{told_of, unit_within}
use Rattle.ddl_modules.proofs.loader.refusal.Goals as goal

pub bounds-units-cycle : goal.bounds-units-cycle
bounds-units-cycle c = unit_within c.args.units.now c.args.cycle.now.first c.args.cycle.now.rest.items c.requires.cycle.cycle

pub returns : goal.returns
returns c =
    told_of c.args.units.now c.args.cycle.now.first c.args.cycle.now.rest.items c.index-units-cycle.result c.second_of.result c.import_span-span.result
    c.in_ok-modules.modules.items
    c.requires.cycle c.index-units-cycle.is c.second_of.ensures c.import_span-span.ensures c.in_ok-modules.ensures
