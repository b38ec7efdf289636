use Rattle.std.proofs.Common.{◌≡◌, ℕ, ◌+◌, ◌-◌, ◌*◌, ◌/◌, ◌%◌, ◌^◌, ◌<◌, true, false, cond, drop, ap, subst, sym, ◌∙◌, arith, rules, tests}
use Rattle.std.proofs.lemmas.Bool.{lt-ltb, le-ltb}
use Rattle.std.proofs.lemmas.Grind.{common_steps}
use Rattle.std.proofs.lemmas.List.{get_or_read}
use Rattle.std.proofs.lemmas.Nat.{pow_pos, one_shl}
use Rattle.ddl_bits.specs.declared.layout.Layout.{the_lemmas}
use Rattle.ddl_bits.specs.Accepted.{PartsAccepted}
use Rattle.ddl_bits.specs.Counts.{tally, tally_each}
use Rattle.ddl_bits.specs.Tree.{part_fits, parts_fit, parts_width}
use Rattle.ddl_bits.specs.View.{layout_view, con_view, part_view, parts_view}
use Rattle.ddl_bits.proofs.Layers.{con_view_out, view_fixed, view_any}
use Rattle.ddl_bits.proofs.Steps.{at_con, by_mask}
use Rattle.ddl_bits.proofs.Counting.{tally_each_is}
use Rattle.ddl_bits.proofs.CountSteps.{con_accepted_at, each_within, no_more}
use Rattle.ddl_bits.proofs.BelowSteps.{below_step_at, rest_seen, product_is, fixed_below, any_below}
use Rattle.ddl_bits.proofs.Sized.{part_sized}
use Rattle.ddl_bits.proofs.Tally.{tally_le}
use Rattle.ddl_bits.proofs.below.+below.Goals as goal

pub layout_below-parts_below-below-requires : goal.layout_below-parts_below-below-requires
layout_below-parts_below-below-requires t c =
    let step = con_accepted_at c.deref-con-items.result.now c.loop-con.con-index c.con-item.result c.args.width c.loop-con-test.true c.con-item.is
    c.loop-con.invariant.accepted in
    let seen = con_view_out c.con-item.result ∙ ap parts_view (sym c.deref.ensures.value) in (
      first_of (search (tests, rules, the_lemmas, get_or_read), grind (the_lemmas, arith, common_steps)),
      (subst PartsAccepted seen step.1, (sym (ap parts_width seen) ∙ step.0, (c.requires.accepted.0, c.requires.within))),
    )

pub layout_below-overflow_add-below : goal.layout_below-overflow_add-below
layout_below-overflow_add-below t c =
    let seen = con_view_out c.con-item.result ∙ ap parts_view (sym c.deref.ensures.value) in
    let found : c.parts_below-below.result ≡ tally (parts_fit (con_view c.con-item.result)) c.args.number = c.parts_below-below.ensures
    ∙ sym (ap (λ ps. tally (parts_fit ps) c.args.number) seen) in
    let here = ap (λ cs. tally_each cs c.args.number) (at_con c.deref-con-items.result.now c.loop-con.con-index c.con-item.result c.loop-con-test.true
    c.con-item.is) in
    omega (arith, found, here, c.loop-con.invariant.same, each_within (layout_view c.args.layout.now) c.args.width c.args.number c.requires.accepted)

pub layout_below-loop-con-preserved : goal.layout_below-loop-con-preserved
layout_below-loop-con-preserved t c =
    let step = con_accepted_at c.deref-con-items.result.now c.loop-con.con-index c.con-item.result c.args.width c.loop-con-test.true c.con-item.is
    c.loop-con.invariant.accepted in
    let seen = con_view_out c.con-item.result ∙ ap parts_view (sym c.deref.ensures.value) in
    let found : c.parts_below-below.result ≡ tally (parts_fit (con_view c.con-item.result)) c.args.number = c.parts_below-below.ensures
    ∙ sym (ap (λ ps. tally (parts_fit ps) c.args.number) seen) in
    let here = ap (λ cs. tally_each cs c.args.number) (at_con c.deref-con-items.result.now c.loop-con.con-index c.con-item.result c.loop-con-test.true
    c.con-item.is) in
    record {
      accepted = step.2;
      same = omega (arith, found, here, c.loop-con.invariant.same);
    }

pub layout_below-returns : goal.layout_below-returns
layout_below-returns t c =
    let none = ap (λ cs. tally_each cs c.args.number) (no_more c.deref-con-items.result.now c.loop-con.con-index (omega arith)) in
    omega (arith, none, c.loop-con.invariant.same, tally_each_is (layout_view c.args.layout.now) c.args.number c.requires.accepted.1)

pub part_below-returns-then-bits-number : goal.part_below-returns-then-bits-number
part_below-returns-then-bits-number t c =
    fixed_below (part_view c.args.part.now) c.in-Fixed.bits c.in-Fixed.width c.args.number true (ap part_view c.in-Fixed.is
    ∙ view_fixed c.in-Fixed.bits c.in-Fixed.width) c.requires.within (lt-ltb c.in-Fixed.bits c.args.number c.if-bits-number.true)

pub part_below-returns-else-bits-number : goal.part_below-returns-else-bits-number
part_below-returns-else-bits-number t c =
    fixed_below (part_view c.args.part.now) c.in-Fixed.bits c.in-Fixed.width c.args.number false (ap part_view c.in-Fixed.is
    ∙ view_fixed c.in-Fixed.bits c.in-Fixed.width) c.requires.within (le-ltb c.in-Fixed.bits c.args.number c.if-bits-number.false)

pub part_below-returns-in-Any : goal.part_below-returns-in-Any
part_below-returns-in-Any t c =
    any_below (part_view c.args.part.now) c.in-Any.width c.args.number (ap part_view c.in-Any.is ∙ view_any c.in-Any.name c.in-Any.width) c.requires.within

pub parts_below-overflow_shr-high : goal.parts_below-overflow_shr-high
parts_below-overflow_shr-high t c =
    (below_step_at c.args.parts.now c.loop-place.place c.index-parts-place.result c.part_bits-left.result c.loop-place.left c.loop-place.low
    c.loop-place-test.true c.index-parts-place.is c.loop-place.invariant.accepted c.loop-place.invariant.bits c.loop-place.invariant.few
    c.loop-place.invariant.within c.part_bits-left.ensures).shift

pub parts_below-part_below-requires : goal.parts_below-part_below-requires
parts_below-part_below-requires t c =
    let step = below_step_at c.args.parts.now c.loop-place.place c.index-parts-place.result c.part_bits-left.result c.loop-place.left c.loop-place.low
    c.loop-place-test.true c.index-parts-place.is c.loop-place.invariant.accepted c.loop-place.invariant.bits c.loop-place.invariant.few
    c.loop-place.invariant.within c.part_bits-left.ensures in
    (first_of (search (tests, rules, the_lemmas, get_or_read), grind (the_lemmas, arith, common_steps)), (step.accepted, (step.width, step.high)))

pub parts_below-parts_count-requires-clause-below_128 : goal.parts_below-parts_count-requires-clause-below_128
parts_below-parts_count-requires-clause-below_128 t c =
    (below_step_at c.args.parts.now c.loop-place.place c.index-parts-place.result c.part_bits-left.result c.loop-place.left c.loop-place.low
    c.loop-place-test.true c.index-parts-place.is c.loop-place.invariant.accepted c.loop-place.invariant.bits c.loop-place.invariant.few
    c.loop-place.invariant.within c.part_bits-left.ensures).shift

pub parts_below-overflow_mul-below : goal.parts_below-overflow_mul-below
parts_below-overflow_mul-below t c =
    let step = below_step_at c.args.parts.now c.loop-place.place c.index-parts-place.result c.part_bits-left.result c.loop-place.left c.loop-place.low
    c.loop-place-test.true c.index-parts-place.is c.loop-place.invariant.accepted c.loop-place.invariant.bits c.loop-place.invariant.few
    c.loop-place.invariant.within c.part_bits-left.ensures in
    let product = product_is c.part_below.result c.parts_count.result
    (tally (part_fits (part_view c.index-parts-place.result)) (c.loop-place.low / 2 ^ (c.loop-place.left - c.part_bits-left.result)))
    (tally (parts_fit (parts_view (drop (c.loop-place.place + 1) c.args.parts.now))) (2 ^ (c.loop-place.left - c.part_bits-left.result)))
    c.part_below.ensures (c.parts_count.ensures ∙ ap (λ ps. tally (parts_fit (parts_view ps)) (2 ^ (c.loop-place.left - c.part_bits-left.result)))
    (rest_seen c.args.parts.now (c.loop-place.place + 1))) in
    omega (arith, product, step.split, c.loop-place.invariant.same, tally_le (parts_fit (parts_view c.args.parts.now)) c.args.number)

pub parts_below-overflow_add-below : goal.parts_below-overflow_add-below
parts_below-overflow_add-below t c =
    let step = below_step_at c.args.parts.now c.loop-place.place c.index-parts-place.result c.part_bits-left.result c.loop-place.left c.loop-place.low
    c.loop-place-test.true c.index-parts-place.is c.loop-place.invariant.accepted c.loop-place.invariant.bits c.loop-place.invariant.few
    c.loop-place.invariant.within c.part_bits-left.ensures in
    let product = product_is c.part_below.result c.parts_count.result
    (tally (part_fits (part_view c.index-parts-place.result)) (c.loop-place.low / 2 ^ (c.loop-place.left - c.part_bits-left.result)))
    (tally (parts_fit (parts_view (drop (c.loop-place.place + 1) c.args.parts.now))) (2 ^ (c.loop-place.left - c.part_bits-left.result)))
    c.part_below.ensures (c.parts_count.ensures ∙ ap (λ ps. tally (parts_fit (parts_view ps)) (2 ^ (c.loop-place.left - c.part_bits-left.result)))
    (rest_seen c.args.parts.now (c.loop-place.place + 1))) in
    omega (arith, product, step.split, c.loop-place.invariant.same, tally_le (parts_fit (parts_view c.args.parts.now)) c.args.number)

pub parts_below-part_fits-requires-clause-sized : goal.parts_below-part_fits-requires-clause-sized
parts_below-part_fits-requires-clause-sized t c =
    let step = below_step_at c.args.parts.now c.loop-place.place c.index-parts-place.result c.part_bits-left.result c.loop-place.left c.loop-place.low
    c.loop-place-test.true c.index-parts-place.is c.loop-place.invariant.accepted c.loop-place.invariant.bits c.loop-place.invariant.few
    c.loop-place.invariant.within c.part_bits-left.ensures in
    part_sized (part_view c.index-parts-place.result) step.accepted

pub parts_below-returns-then-not-part_fits : goal.parts_below-returns-then-not-part_fits
parts_below-returns-then-not-part_fits t c =
    let step = below_step_at c.args.parts.now c.loop-place.place c.index-parts-place.result c.part_bits-left.result c.loop-place.left c.loop-place.low
    c.loop-place-test.true c.index-parts-place.is c.loop-place.invariant.accepted c.loop-place.invariant.bits c.loop-place.invariant.few
    c.loop-place.invariant.within c.part_bits-left.ensures in
    let product = product_is c.part_below.result c.parts_count.result
    (tally (part_fits (part_view c.index-parts-place.result)) (c.loop-place.low / 2 ^ (c.loop-place.left - c.part_bits-left.result)))
    (tally (parts_fit (parts_view (drop (c.loop-place.place + 1) c.args.parts.now))) (2 ^ (c.loop-place.left - c.part_bits-left.result)))
    c.part_below.ensures (c.parts_count.ensures ∙ ap (λ ps. tally (parts_fit (parts_view ps)) (2 ^ (c.loop-place.left - c.part_bits-left.result)))
    (rest_seen c.args.parts.now (c.loop-place.place + 1))) in
    let no_more_here = ap {B = ℕ} (λ b. cond b (tally (parts_fit (parts_view (drop (c.loop-place.place + 1) c.args.parts.now)))
    (c.loop-place.low % 2 ^ (c.loop-place.left - c.part_bits-left.result))) 0) c.if-not-part_fits.ensures in
    omega (arith, product, step.split, no_more_here, c.loop-place.invariant.same)

pub parts_below-overflow_shl-low : goal.parts_below-overflow_shl-low
parts_below-overflow_shl-low t c =
    (below_step_at c.args.parts.now c.loop-place.place c.index-parts-place.result c.part_bits-left.result c.loop-place.left c.loop-place.low
    c.loop-place-test.true c.index-parts-place.is c.loop-place.invariant.accepted c.loop-place.invariant.bits c.loop-place.invariant.few
    c.loop-place.invariant.within c.part_bits-left.ensures).shift

pub parts_below-overflow_sub-low : goal.parts_below-overflow_sub-low
parts_below-overflow_sub-low t c =
    let step = below_step_at c.args.parts.now c.loop-place.place c.index-parts-place.result c.part_bits-left.result c.loop-place.left c.loop-place.low
    c.loop-place-test.true c.index-parts-place.is c.loop-place.invariant.accepted c.loop-place.invariant.bits c.loop-place.invariant.few
    c.loop-place.invariant.within c.part_bits-left.ensures in
    omega (arith, one_shl (c.loop-place.left - c.part_bits-left.result) 128 step.shift, pow_pos (c.loop-place.left - c.part_bits-left.result))

pub parts_below-loop-place-preserved : goal.parts_below-loop-place-preserved
parts_below-loop-place-preserved t c =
    let step = below_step_at c.args.parts.now c.loop-place.place c.index-parts-place.result c.part_bits-left.result c.loop-place.left c.loop-place.low
    c.loop-place-test.true c.index-parts-place.is c.loop-place.invariant.accepted c.loop-place.invariant.bits c.loop-place.invariant.few
    c.loop-place.invariant.within c.part_bits-left.ensures in
    let left = c.loop-place.left - c.part_bits-left.result in
    let rest = parts_view (drop (c.loop-place.place + 1) c.args.parts.now) in
    let product = product_is c.part_below.result c.parts_count.result
    (tally (part_fits (part_view c.index-parts-place.result)) (c.loop-place.low / 2 ^ (c.loop-place.left - c.part_bits-left.result)))
    (tally (parts_fit (parts_view (drop (c.loop-place.place + 1) c.args.parts.now))) (2 ^ (c.loop-place.left - c.part_bits-left.result)))
    c.part_below.ensures (c.parts_count.ensures ∙ ap (λ ps. tally (parts_fit (parts_view ps)) (2 ^ (c.loop-place.left - c.part_bits-left.result)))
    (rest_seen c.args.parts.now (c.loop-place.place + 1))) in
    let more = ap {B = ℕ} (λ b. cond b (tally (parts_fit (parts_view (drop (c.loop-place.place + 1) c.args.parts.now)))
    (c.loop-place.low % 2 ^ (c.loop-place.left - c.part_bits-left.result))) 0) c.if-not-part_fits.ensures in
    let P : ℕ → Type 0 = λ n. n < 2 ^ left in
    let kept : c.loop-place.below + c.part_below.result * c.parts_count.result + tally (parts_fit rest) (c.loop-place.low % 2 ^ left)
    ≡ tally (parts_fit (parts_view c.args.parts.now)) c.args.number = omega (arith, product, step.split, more, c.loop-place.invariant.same) in
    record {
      accepted = step.rest_accepted;
      bits = step.after;
      few = omega (arith, step.shift);
      within = subst P (sym (by_mask c.loop-place.low left step.shift)) step.kept;
      same = ap (λ n. c.loop-place.below + c.part_below.result * c.parts_count.result + tally (parts_fit rest) n) (by_mask c.loop-place.low left step.shift)
          ∙ kept;
    }
