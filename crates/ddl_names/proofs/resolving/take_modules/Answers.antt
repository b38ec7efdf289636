-- One module more.
use Rattle.std.proofs.Common.{ap, sym, subst, ◌∙◌, arith, rules}
use Rattle.ddl_uses.specs.declared.outer.Outer.{Outer}
use Rattle.ddl_uses.specs.Walks.{AreNames, loaded}
use Rattle.ddl_kinds.specs.Found.{IsFirst}
use Rattle.ddl_kinds.specs.Findings.{all_uses}
use Rattle.ddl_names.specs.Modules.{findings_from}
use Rattle.ddl_names.proofs.Begins.{module_noted}
use Rattle.ddl_names.proofs.Gathering.{module_adds, module_passes, module_refuses}
use Rattle.ddl_names.proofs.resolving.take_modules.Goals as goal

pub loop-place-preserved : goal.loop-place-preserved
loop-place-preserved c =
    record {
      among = ap (λ (o : Outer). o.units.now) c.in_ok-take_module.ensures.kept ∙ c.loop-place.invariant.among;
      named = subst (λ (o : Outer). AreNames (loaded c.args.units.now) o.names.items) (sym c.in_ok-take_module.ensures.kept) c.loop-place.invariant.named;
      rest = module_passes c.args.units.now c.loop-place.walk.outer.units.now c.loop-place.place c.index-units-place.result c.deref.result.now
          c.loop-place.invariant.among (omega arith)
          c.index-units-place.is c.deref.ensures.value c.loop-place.invariant.rest c.in_ok-take_module.ensures.found.0;
      taken = module_adds c.args.units.now c.loop-place.walk.outer.units.now c.loop-place.place c.index-units-place.result c.deref.result.now
          c.loop-place.walk.uses.items c.take_module.new.walk.uses.items
          (all_uses (findings_from (loaded c.args.units.now) 0 (loaded c.args.units.now))) c.loop-place.invariant.among (omega arith) c.index-units-place.is
          c.deref.ensures.value
          c.loop-place.invariant.taken c.in_ok-take_module.ensures.found.1;
      firsts = module_noted c.args.units.now c.loop-place.walk.outer.units.now c.loop-place.place c.index-units-place.result c.deref.result.now
          c.loop-place.firsts.items
          c.take_module.new.firsts.items _ c.loop-place.walk.uses.items c.take_module.new.walk.uses.items c.loop-place.invariant.among (omega arith)
          c.index-units-place.is
          c.deref.ensures.value c.loop-place.invariant.firsts c.in_ok-take_module.ensures.found.1 c.in_ok-take_module.ensures.firsts;
    }

pub returns-in_err-take_module-clause-refused : goal.returns-in_err-take_module-clause-refused
returns-in_err-take_module-clause-refused c =
    let first : IsFirst (findings_from (loaded c.args.units.now) 0 (loaded c.args.units.now)) c.in_err-take_module.field-0.0 =
    module_refuses c.args.units.now c.loop-place.walk.outer.units.now c.loop-place.place c.index-units-place.result c.deref.result.now
    c.in_err-take_module.field-0.0
    c.loop-place.invariant.among (omega arith) c.index-units-place.is c.deref.ensures.value c.loop-place.invariant.rest c.in_err-take_module.ensures.found
    in
    search rules
