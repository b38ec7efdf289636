use Rattle.std.proofs.Common.{◌≡◌, ◌+◌, true, false, ltb, drop, Some, if◌then◌else◌, ap, sym, ◌∙◌, arith}
use Rattle.std.proofs.lemmas.Bool.{lt-ltb, le-ltb}
use Rattle.ddl_bits.specs.Tree.{parts_width, too_wide_from}
use Rattle.ddl_bits.specs.View.{con_view, cons_view, parts_view}
use Rattle.ddl_bits.proofs.Layers.{con_view_out}
use Rattle.ddl_bits.proofs.Steps.{at_con}
use Rattle.ddl_bits.proofs.places.first_too_wide.Goals as goal

pub returns-then-parts_bits-eq-TOO_WIDE : goal.returns-then-parts_bits-eq-TOO_WIDE
returns-then-parts_bits-eq-TOO_WIDE c =
    let con = c.index-cons-place.result in
    let place = c.loop-place.place in
    let rest = cons_view (drop (place + 1) c.args.cons.now) in
    let width : parts_width (con_view con) ≡ parts_width (parts_view c.deref.result.now) =
    ap parts_width (con_view_out con ∙ ap parts_view (sym c.deref.ensures.value)) in
    let wide : ltb 128 (parts_width (con_view con)) ≡ true =
    lt-ltb 128 (parts_width (con_view con)) (omega (arith, c.parts_bits.ensures, c.if-parts_bits-eq-TOO_WIDE.true, width)) in
    sym (ap (λ b. if b then Some place else too_wide_from (place + 1) rest) wide)
    ∙ sym (ap (too_wide_from place) (at_con c.args.cons.now place con c.loop-place-test.true c.index-cons-place.is))
    ∙ c.loop-place.invariant

pub loop-place-preserved : goal.loop-place-preserved
loop-place-preserved c =
    let con = c.index-cons-place.result in
    let place = c.loop-place.place in
    let rest = cons_view (drop (place + 1) c.args.cons.now) in
    let width : parts_width (con_view con) ≡ parts_width (parts_view c.deref.result.now) =
    ap parts_width (con_view_out con ∙ ap parts_view (sym c.deref.ensures.value)) in
    let narrow : ltb 128 (parts_width (con_view con)) ≡ false =
    le-ltb 128 (parts_width (con_view con)) (omega (arith, c.parts_bits.ensures, c.if-parts_bits-eq-TOO_WIDE.false, width)) in
    sym (ap (λ b. if b then Some place else too_wide_from (place + 1) rest) narrow)
    ∙ sym (ap (too_wide_from place) (at_con c.args.cons.now place con c.loop-place-test.true c.index-cons-place.is))
    ∙ c.loop-place.invariant
