use Rattle.std.proofs.Common.{◌≡◌, ◌+◌, true, false, drop, Some, if◌then◌else◌, ap, subst, sym, ◌∙◌}
use Rattle.ddl_bits.specs.Tree.{parts_width, parts_fit, place_from, PartsSized}
use Rattle.ddl_bits.specs.View.{con_view, cons_view, parts_view}
use Rattle.ddl_bits.proofs.Layers.{con_view_out}
use Rattle.ddl_bits.proofs.Steps.{at_con, con_step_at}
use Rattle.ddl_bits.proofs.places.first_that_fits.Goals as goal

pub parts_fit-requires-clause-sized : goal.parts_fit-requires-clause-sized
parts_fit-requires-clause-sized c =
    let con = c.index-cons-place.result in
    let step = con_step_at c.args.cons.now c.loop-place.place con c.args.width c.loop-place-test.true c.index-cons-place.is c.loop-place.invariant.sized in
    subst PartsSized (con_view_out con ∙ ap parts_view (sym c.deref.ensures.value)) step.1

pub parts_fit-requires-clause-has_width : goal.parts_fit-requires-clause-has_width
parts_fit-requires-clause-has_width c =
    let con = c.index-cons-place.result in
    let step = con_step_at c.args.cons.now c.loop-place.place con c.args.width c.loop-place-test.true c.index-cons-place.is c.loop-place.invariant.sized in
    sym (ap parts_width (con_view_out con ∙ ap parts_view (sym c.deref.ensures.value))) ∙ step.0

pub returns-then-parts_fit : goal.returns-then-parts_fit
returns-then-parts_fit c =
    let con = c.index-cons-place.result in
    let place = c.loop-place.place in
    let rest = cons_view (drop (place + 1) c.args.cons.now) in
    let first : true ≡ parts_fit (con_view con) c.args.number = c.if-parts_fit.ensures
    ∙ sym (ap (λ ps. parts_fit ps c.args.number) (con_view_out con ∙ ap parts_view (sym c.deref.ensures.value))) in
    ap (λ b. if b then Some place else place_from (place + 1) rest c.args.number) first
    ∙ sym (ap (λ cs. place_from place cs c.args.number) (at_con c.args.cons.now place con c.loop-place-test.true c.index-cons-place.is))
    ∙ c.loop-place.invariant.same

pub loop-place-preserved : goal.loop-place-preserved
loop-place-preserved c =
    let con = c.index-cons-place.result in
    let place = c.loop-place.place in
    let rest = cons_view (drop (place + 1) c.args.cons.now) in
    let step = con_step_at c.args.cons.now place con c.args.width c.loop-place-test.true c.index-cons-place.is c.loop-place.invariant.sized in
    let first : false ≡ parts_fit (con_view con) c.args.number = c.if-parts_fit.ensures
    ∙ sym (ap (λ ps. parts_fit ps c.args.number) (con_view_out con ∙ ap parts_view (sym c.deref.ensures.value))) in
    record {
      sized = step.2;
      same =
          ap (λ b. if b then Some place else place_from (place + 1) rest c.args.number) first
          ∙ sym (ap (λ cs. place_from place cs c.args.number) (at_con c.args.cons.now place con c.loop-place-test.true c.index-cons-place.is))
          ∙ c.loop-place.invariant.same;
    }
