use Rattle.std.proofs.Common.{◌≡◌, ◌+◌, ◌-◌, ◌/◌, ◌%◌, ◌^◌, ◌&&◌, ◌||◌, true, false, drop, ap, subst, sym, ◌∙◌, arith, rules, tests}
use Rattle.std.proofs.lemmas.Grind.{common_steps}
use Rattle.std.proofs.lemmas.List.{get_or_read}
use Rattle.ddl_bits.specs.declared.layout.Layout.{the_lemmas}
use Rattle.std.proofs.lemmas.Nat.{pow_pos, one_shl}
use Rattle.ddl_bits.specs.Tree.{cons_fit, parts_fit, part_fits, parts_width, PartsSized}
use Rattle.ddl_bits.specs.View.{con_view, cons_view, part_view, parts_view}
use Rattle.ddl_bits.proofs.Layers.{con_view_out}
use Rattle.ddl_bits.proofs.Steps.{at_part, at_con, part_step_at, con_step_at, by_mask}
use Rattle.ddl_bits.proofs.fitting.+fits.Goals as goal

pub layout_fits-parts_fit-requires : goal.layout_fits-parts_fit-requires
layout_fits-parts_fit-requires t c =
    let step = con_step_at c.deref-con-items.result.now c.loop-con.con-index c.con-item.result c.args.width c.loop-con-test.true c.con-item.is
    c.loop-con.invariant.sized in
    let seen = con_view_out c.con-item.result ∙ ap parts_view (sym c.deref.ensures.value) in (
      first_of (search (tests, rules, the_lemmas, get_or_read), grind (the_lemmas, arith, common_steps)),
      (subst PartsSized seen step.1, (sym (ap parts_width seen) ∙ step.0, c.requires.at_most_128)),
    )

pub layout_fits-returns-then-parts_fit : goal.layout_fits-returns-then-parts_fit
layout_fits-returns-then-parts_fit t c =
    let seen = con_view_out c.con-item.result ∙ ap parts_view (sym c.deref.ensures.value) in
    let first : true ≡ parts_fit (con_view c.con-item.result) c.args.number = c.if-parts_fit.ensures ∙ sym (ap (λ ps. parts_fit ps c.args.number) seen) in
    let rest = cons_view (drop (c.loop-con.con-index + 1) c.deref-con-items.result.now) in
    ap (λ b. b || cons_fit rest c.args.number) first
    ∙ sym (ap (λ cs. cons_fit cs c.args.number) (at_con c.deref-con-items.result.now c.loop-con.con-index c.con-item.result c.loop-con-test.true c.con-item.is))
    ∙ c.loop-con.invariant.same

pub layout_fits-loop-con-preserved : goal.layout_fits-loop-con-preserved
layout_fits-loop-con-preserved t c =
    let step = con_step_at c.deref-con-items.result.now c.loop-con.con-index c.con-item.result c.args.width c.loop-con-test.true c.con-item.is
    c.loop-con.invariant.sized in
    let seen = con_view_out c.con-item.result ∙ ap parts_view (sym c.deref.ensures.value) in
    let first : false ≡ parts_fit (con_view c.con-item.result) c.args.number = c.if-parts_fit.ensures ∙ sym (ap (λ ps. parts_fit ps c.args.number) seen) in
    let rest = cons_view (drop (c.loop-con.con-index + 1) c.deref-con-items.result.now) in
    record {
      sized = step.2;
      same =
          ap (λ b. b || cons_fit rest c.args.number) first
          ∙ sym (ap (λ cs. cons_fit cs c.args.number) (at_con c.deref-con-items.result.now c.loop-con.con-index c.con-item.result c.loop-con-test.true
          c.con-item.is))
          ∙ c.loop-con.invariant.same;
    }

pub parts_fit-overflow_shr-low : goal.parts_fit-overflow_shr-low
parts_fit-overflow_shr-low t c =
    (part_step_at c.args.parts.now c.loop-part.part-index c.part-item.result c.part_bits-left.result c.loop-part.left c.loop-part-test.true c.part-item.is
    c.loop-part.invariant.sized c.loop-part.invariant.bits c.loop-part.invariant.few c.part_bits-left.ensures).below

pub parts_fit-overflow_shl-low : goal.parts_fit-overflow_shl-low
parts_fit-overflow_shl-low t c =
    (part_step_at c.args.parts.now c.loop-part.part-index c.part-item.result c.part_bits-left.result c.loop-part.left c.loop-part-test.true c.part-item.is
    c.loop-part.invariant.sized c.loop-part.invariant.bits c.loop-part.invariant.few c.part_bits-left.ensures).below

pub parts_fit-overflow_sub-low : goal.parts_fit-overflow_sub-low
parts_fit-overflow_sub-low t c =
    let step = part_step_at c.args.parts.now c.loop-part.part-index c.part-item.result c.part_bits-left.result c.loop-part.left c.loop-part-test.true
    c.part-item.is c.loop-part.invariant.sized c.loop-part.invariant.bits c.loop-part.invariant.few c.part_bits-left.ensures in
    omega (arith, one_shl (c.loop-part.left - c.part_bits-left.result) 128 step.below, pow_pos (c.loop-part.left - c.part_bits-left.result))

pub parts_fit-loop-part-preserved : goal.parts_fit-loop-part-preserved
parts_fit-loop-part-preserved t c =
    let step = part_step_at c.args.parts.now c.loop-part.part-index c.part-item.result c.part_bits-left.result c.loop-part.left c.loop-part-test.true
    c.part-item.is c.loop-part.invariant.sized c.loop-part.invariant.bits c.loop-part.invariant.few c.part_bits-left.ensures in
    let left = c.loop-part.left - c.part_bits-left.result in
    let rest = parts_view (drop (c.loop-part.part-index + 1) c.args.parts.now) in
    record {
      sized = step.rest_sized;
      bits = step.after;
      few = omega (arith, step.below);
      same =
          ap (parts_fit rest) (by_mask c.loop-part.low left step.below)
          ∙ ap (λ b. b && parts_fit rest (c.loop-part.low % 2 ^ left)) c.if-not-part_fits.ensures
          ∙ ap (λ w. part_fits (part_view c.part-item.result) (c.loop-part.low / 2 ^ w) && parts_fit rest (c.loop-part.low % 2 ^ w)) (sym step.after)
          ∙ sym (ap (λ ps. parts_fit ps c.loop-part.low) (at_part c.args.parts.now c.loop-part.part-index c.part-item.result c.loop-part-test.true
          c.part-item.is))
          ∙ c.loop-part.invariant.same;
    }
