use Rattle.std.proofs.Common.{◌≡◌, ◌*◌, ◌^◌, true, false, ap, subst, sym, ◌∙◌, arith, rules, tests}
use Rattle.std.proofs.lemmas.Grind.{common_steps}
use Rattle.std.proofs.lemmas.List.{get_or_read}
use Rattle.std.proofs.Math.Pow.{pow-lt}
use Rattle.ddl_bits.specs.declared.layout.Layout.{the_lemmas}
use Rattle.ddl_bits.specs.Accepted.{PartsAccepted}
use Rattle.ddl_bits.specs.Counts.{tally, tally_each}
use Rattle.ddl_bits.specs.Tree.{parts_fit, parts_width}
use Rattle.ddl_bits.specs.View.{layout_view, con_view, part_view, parts_view}
use Rattle.ddl_bits.proofs.Layers.{con_view_out, view_fixed, view_any}
use Rattle.ddl_bits.proofs.Steps.{at_part, at_con}
use Rattle.ddl_bits.proofs.Counting.{tally_each_is}
use Rattle.ddl_bits.proofs.CountSteps.{part_accepted_at, con_accepted_at, count_step_at, each_within, fixed_counted, any_counted, no_more}
use Rattle.ddl_bits.proofs.counts.+count.Goals as goal

pub layout_count-parts_count-count-requires : goal.layout_count-parts_count-count-requires
layout_count-parts_count-count-requires t c =
    let step = con_accepted_at c.deref-con-items.result.now c.loop-con.con-index c.con-item.result c.args.width c.loop-con-test.true c.con-item.is
    c.loop-con.invariant.accepted in
    let seen = con_view_out c.con-item.result ∙ ap parts_view (sym c.deref.ensures.value) in (
      first_of (search (tests, rules, the_lemmas, get_or_read), grind (the_lemmas, arith, common_steps)),
      (subst PartsAccepted seen step.1, (sym (ap parts_width seen) ∙ step.0, c.requires.below_128)),
    )

pub layout_count-overflow_add-count : goal.layout_count-overflow_add-count
layout_count-overflow_add-count t c =
    let seen = con_view_out c.con-item.result ∙ ap parts_view (sym c.deref.ensures.value) in
    let found : c.parts_count-count.result ≡ tally (parts_fit (con_view c.con-item.result)) (2 ^ c.args.width) = c.parts_count-count.ensures
    ∙ sym (ap (λ ps. tally (parts_fit ps) (2 ^ c.args.width)) seen) in
    let here = ap (λ cs. tally_each cs (2 ^ c.args.width))
    (at_con c.deref-con-items.result.now c.loop-con.con-index c.con-item.result c.loop-con-test.true c.con-item.is) in
    omega (
      arith,
      found,
      here,
      c.loop-con.invariant.same,
      each_within (layout_view c.args.layout.now) c.args.width (2 ^ c.args.width) c.requires.accepted,
      pow-lt {i = c.args.width} {j = 128} c.requires.below_128,
    )

pub layout_count-loop-con-preserved : goal.layout_count-loop-con-preserved
layout_count-loop-con-preserved t c =
    let step = con_accepted_at c.deref-con-items.result.now c.loop-con.con-index c.con-item.result c.args.width c.loop-con-test.true c.con-item.is
    c.loop-con.invariant.accepted in
    let seen = con_view_out c.con-item.result ∙ ap parts_view (sym c.deref.ensures.value) in
    let found : c.parts_count-count.result ≡ tally (parts_fit (con_view c.con-item.result)) (2 ^ c.args.width) = c.parts_count-count.ensures
    ∙ sym (ap (λ ps. tally (parts_fit ps) (2 ^ c.args.width)) seen) in
    let here = ap (λ cs. tally_each cs (2 ^ c.args.width))
    (at_con c.deref-con-items.result.now c.loop-con.con-index c.con-item.result c.loop-con-test.true c.con-item.is) in
    record {
      accepted = step.2;
      same = omega (arith, found, here, c.loop-con.invariant.same);
    }

pub layout_count-returns : goal.layout_count-returns
layout_count-returns t c =
    let none = ap (λ cs. tally_each cs (2 ^ c.args.width)) (no_more c.deref-con-items.result.now c.loop-con.con-index (omega arith)) in
    omega (arith, none, c.loop-con.invariant.same, tally_each_is (layout_view c.args.layout.now) (2 ^ c.args.width) c.requires.accepted.1)

pub part_count-returns-then-is_below_power : goal.part_count-returns-then-is_below_power
part_count-returns-then-is_below_power t c =
    fixed_counted (part_view c.args.part.now) c.in-Fixed.bits c.in-Fixed.width true (ap part_view c.in-Fixed.is
    ∙ view_fixed c.in-Fixed.bits c.in-Fixed.width) c.if-is_below_power.ensures

pub part_count-returns-else-is_below_power : goal.part_count-returns-else-is_below_power
part_count-returns-else-is_below_power t c =
    fixed_counted (part_view c.args.part.now) c.in-Fixed.bits c.in-Fixed.width false (ap part_view c.in-Fixed.is
    ∙ view_fixed c.in-Fixed.bits c.in-Fixed.width) c.if-is_below_power.ensures

pub part_count-returns-in-Any : goal.part_count-returns-in-Any
part_count-returns-in-Any t c =
    any_counted (part_view c.args.part.now) c.in-Any.width (ap part_view c.in-Any.is ∙ view_any c.in-Any.name c.in-Any.width) c.requires.below_128

pub parts_count-overflow_mul-count : goal.parts_count-overflow_mul-count
parts_count-overflow_mul-count t c =
    let step = count_step_at c.args.parts.now c.loop-part.part-index c.part-item.result c.loop-part.count c.part_count-count.result c.args.width
    c.loop-part-test.true c.part-item.is c.loop-part.invariant.room c.requires.below_128 c.part_count-count.ensures in
    omega (arith, step.fits)

pub parts_count-loop-part-preserved : goal.parts_count-loop-part-preserved
parts_count-loop-part-preserved t c =
    let at = at_part c.args.parts.now c.loop-part.part-index c.part-item.result c.loop-part-test.true c.part-item.is in
    let accepted = part_accepted_at c.args.parts.now c.loop-part.part-index c.part-item.result c.loop-part-test.true c.part-item.is
    c.loop-part.invariant.accepted in
    let step = count_step_at c.args.parts.now c.loop-part.part-index c.part-item.result c.loop-part.count c.part_count-count.result c.args.width
    c.loop-part-test.true c.part-item.is c.loop-part.invariant.room c.requires.below_128 c.part_count-count.ensures in
    record {
      accepted = accepted.1;
      few = omega (arith, ap parts_width at, c.loop-part.invariant.few);
      room = step.room;
      same = step.same ∙ sym (ap (λ ps. c.loop-part.count * tally (parts_fit ps) (2 ^ parts_width ps)) at) ∙ c.loop-part.invariant.same;
    }
