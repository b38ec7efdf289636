use Rattle.std.proofs.Common.{◌≡◌, ◌+◌, true, false, eqb, drop, Some, if◌then◌else◌, ap, sym, ◌∙◌, arith}
use Rattle.std.proofs.lemmas.Bool.{eq-eqb, ne_eqb}
use Rattle.ddl_bits.specs.Tree.{parts_width, other_width_from}
use Rattle.ddl_bits.specs.View.{con_view, cons_view, parts_view}
use Rattle.ddl_bits.proofs.Layers.{con_view_out}
use Rattle.ddl_bits.proofs.Steps.{at_con}
use Rattle.ddl_bits.proofs.places.first_of_another_width.Goals as goal

pub returns-then-parts_bits-width : goal.returns-then-parts_bits-width
returns-then-parts_bits-width c =
    let con = c.index-cons-place.result in
    let place = c.loop-place.place in
    let rest = cons_view (drop (place + 1) c.args.cons.now) in
    let width : parts_width (con_view con) ≡ parts_width (parts_view c.deref.result.now) =
    ap parts_width (con_view_out con ∙ ap parts_view (sym c.deref.ensures.value)) in
    let other : eqb (parts_width (con_view con)) c.args.width ≡ false =
    ne_eqb (parts_width (con_view con)) c.args.width (λ e. c.if-parts_bits-width.true (omega (arith, c.parts_bits.ensures, width, e))) in
    sym (ap (λ b. if b then other_width_from c.args.width (place + 1) rest else Some place) other)
    ∙ sym (ap (other_width_from c.args.width place) (at_con c.args.cons.now place con c.loop-place-test.true c.index-cons-place.is))
    ∙ c.loop-place.invariant

pub loop-place-preserved : goal.loop-place-preserved
loop-place-preserved c =
    let con = c.index-cons-place.result in
    let place = c.loop-place.place in
    let rest = cons_view (drop (place + 1) c.args.cons.now) in
    let width : parts_width (con_view con) ≡ parts_width (parts_view c.deref.result.now) =
    ap parts_width (con_view_out con ∙ ap parts_view (sym c.deref.ensures.value)) in
    let same : eqb (parts_width (con_view con)) c.args.width ≡ true =
    eq-eqb (parts_width (con_view con)) c.args.width (omega (arith, c.parts_bits.ensures, c.if-parts_bits-width.false, width)) in
    sym (ap (λ b. if b then other_width_from c.args.width (place + 1) rest else Some place) same)
    ∙ sym (ap (other_width_from c.args.width place) (at_con c.args.cons.now place con c.loop-place-test.true c.index-cons-place.is))
    ∙ c.loop-place.invariant
