use Rattle.std.proofs.Common.{◌≡◌, ℕ, ◌+◌, ◌-◌, drop, take, length, inl, inr, ap, subst, sym, ◌∙◌, arith, rules, tests}
use Rattle.std.proofs.lemmas.Grind.{common_steps}
use Rattle.std.proofs.lemmas.List.{get_or_read}
use borrow.Rule.Slice.PartMut.{put_mid, same_len_mid}
use Rattle.ddl_bits.specs.declared.layout.Layout.{the_lemmas}
use Rattle.ddl_bits.specs.Flows.{cons_leaves, part_leaves, parts_leaves, IsStep, RunsLeaf, RunsPart, RunsParts}
use Rattle.ddl_bits.specs.Tree.{Part, fixed, any, Cons, Parts, part_width, parts_width, PartsSized}
use Rattle.ddl_bits.specs.View.{con_view, cons_view, layout_view, part_view, parts_view}
use Rattle.ddl_bits.proofs.Layers.{con_view_out, view_fixed, view_any}
use Rattle.ddl_bits.proofs.Runs.{ConsSteps, PartsSteps, con_stepped, part_stepped, length_part}
use Rattle.ddl_bits.proofs.Steps.{at_con, at_part, con_step_at, part_step_at}
use Rattle.ddl_bits.proofs.stepping.+step.Goals as goal

pub layout_step-overflow_add-end : goal.layout_step-overflow_add-end
layout_step-overflow_add-end t c =
    let at = ap cons_leaves (at_con c.deref-con-items.result.now c.loop-con.con-index c.con-item.result c.loop-con-test.true c.con-item.is) in
    let seen = ap parts_leaves (con_view_out c.con-item.result ∙ ap parts_view (sym c.deref.ensures.value)) in
    omega (arith, at, seen, c.parts_leaves.ensures, c.loop-con.invariant.marked)

pub layout_step-slice_bounds-parts_step-end : goal.layout_step-slice_bounds-parts_step-end
layout_step-slice_bounds-parts_step-end t c =
    let at = ap cons_leaves (at_con c.deref-con-items.result.now c.loop-con.con-index c.con-item.result c.loop-con-test.true c.con-item.is) in
    let seen = ap parts_leaves (con_view_out c.con-item.result ∙ ap parts_view (sym c.deref.ensures.value)) in
    omega (arith, at, seen, c.parts_leaves.ensures, c.loop-con.invariant.marked)

pub layout_step-parts_step-done-requires : goal.layout_step-parts_step-done-requires
layout_step-parts_step-done-requires t c =
    let step = con_step_at c.deref-con-items.result.now c.loop-con.con-index c.con-item.result c.args.width c.loop-con-test.true c.con-item.is
    c.loop-con.invariant.sized in
    let at = ap cons_leaves (at_con c.deref-con-items.result.now c.loop-con.con-index c.con-item.result c.loop-con-test.true c.con-item.is) in
    let seen = con_view_out c.con-item.result ∙ ap parts_view (sym c.deref.ensures.value) in
    let lent = con_view_out c.con-item.result ∙ ap parts_view (sym c.deref-in-loop-con.ensures.value) in (
      first_of (search (tests, rules, the_lemmas, get_or_read), grind (the_lemmas, arith, common_steps)),
      (
        subst PartsSized lent step.1,
        (
          sym (ap parts_width lent)
              ∙ step.0,
          (
            c.requires.within,
            length_part c.loop-con.marks c.loop-con.start (c.loop-con.start + c.parts_leaves.result) _
                (omega (arith, at, ap parts_leaves seen, ap parts_leaves lent, c.parts_leaves.ensures, c.loop-con.invariant.marked))
                (omega (arith, at, ap parts_leaves seen, c.parts_leaves.ensures, c.loop-con.invariant.marked)),
          ),
        ),
      ),
    )

pub layout_step-loop-con-preserved : goal.layout_step-loop-con-preserved
layout_step-loop-con-preserved t c =
    let step = con_step_at c.deref-con-items.result.now c.loop-con.con-index c.con-item.result c.args.width c.loop-con-test.true c.con-item.is
    c.loop-con.invariant.sized in
    let con_at = at_con c.deref-con-items.result.now c.loop-con.con-index c.con-item.result c.loop-con-test.true c.con-item.is in
    let at = ap cons_leaves con_at in
    let seen = ap parts_leaves (con_view_out c.con-item.result ∙ ap parts_view (sym c.deref.ensures.value)) in
    let lent = con_view_out c.con-item.result ∙ ap parts_view (sym c.deref-in-loop-con.ensures.value) in
    let ps = con_view c.con-item.result in
    let rest = cons_view (drop (c.loop-con.con-index + 1) c.deref-con-items.result.now) in
    let end = c.loop-con.start + c.parts_leaves.result in
    let count = end - c.loop-con.start in
    let is : c.parts_leaves.result ≡ parts_leaves ps = omega (arith, at, seen, c.parts_leaves.ensures, c.loop-con.invariant.marked) in
    let size : length c.parts_step-done.new.marks ≡ parts_leaves ps = c.parts_step-done.auto.marks
    ∙ length_part c.loop-con.marks c.loop-con.start end (parts_leaves ps) (omega (arith, is)) (omega (arith, is, at, c.loop-con.invariant.marked)) in
    let Steps : Cons → Type 0 = λ cs. ConsSteps (layout_view c.args.layout.now) cs c.args.low c.args.width c.args.bit c.args.entered c.args.marks.now
    c.loop-con.marks c.loop-con.start c.loop-con.done in
    let Step : Parts → Type 0 = λ p. IsStep (RunsParts p c.args.low) c.args.low c.args.width c.args.bit c.args.entered
    (take count (drop c.loop-con.start c.loop-con.marks)) c.parts_step-done.new.marks c.parts_step-done.result in
    record {
      sized = step.2;
      marked = omega (
        arith,
        is,
        at,
        c.loop-con.invariant.marked,
        same_len_mid c.loop-con.start count c.loop-con.marks c.parts_step-done.new.marks c.parts_step-done.auto.marks,
      );
      steps = con_stepped (layout_view c.args.layout.now) ps rest c.args.low c.args.width c.loop-con.start end count c.args.bit c.args.entered c.loop-con.done
          c.parts_step-done.result c.args.marks.now c.loop-con.marks c.parts_step-done.new.marks (omega (arith, is)) (omega (arith, is)) size
          (omega (arith, is, at, c.loop-con.invariant.marked)) (subst Steps con_at c.loop-con.invariant.steps)
          (subst Step (sym lent) c.parts_step-done.ensures);
    }

pub part_step-returns-in-Fixed : goal.part_step-returns-in-Fixed
part_step-returns-in-Fixed t c =
    let Leaf : Part → Type 0 = λ p. IsStep (RunsLeaf p c.args.low) c.args.low (part_width p) c.args.bit c.args.entered c.args.marks.now c.leaf_step.new.marks
    c.leaf_step.result in
    let Step : Part → Type 0 = λ p. IsStep (RunsPart p c.args.low) c.args.low (part_width p) c.args.bit c.args.entered c.args.marks.now c.leaf_step.new.marks
    c.leaf_step.result in
    elim c.in-Fixed.is [
      | inl given ↦
          let seen = ap part_view given.2 ∙ view_fixed given.0 given.1 in
          let step : Step (fixed given.0 given.1) = subst Leaf seen c.leaf_step.ensures in
          subst Step (sym seen) step
      | inr open_bits ↦
          let seen = ap part_view open_bits.2 ∙ view_any open_bits.0 open_bits.1 in
          let step : Step (any open_bits.1) = subst Leaf seen c.leaf_step.ensures in
          subst Step (sym seen) step
    ]

pub parts_step-loop-part-preserved : goal.parts_step-loop-part-preserved
parts_step-loop-part-preserved t c =
    let step = part_step_at c.args.parts.now c.loop-part.part-index c.part-item.result c.part_bits-left.result c.loop-part.left c.loop-part-test.true
    c.part-item.is c.loop-part.invariant.sized c.loop-part.invariant.bits (omega arith) c.part_bits-left.ensures in
    let part_at = at_part c.args.parts.now c.loop-part.part-index c.part-item.result c.loop-part-test.true c.part-item.is in
    let at = ap parts_leaves part_at in
    let p = part_view c.part-item.result in
    let rest = parts_view (drop (c.loop-part.part-index + 1) c.args.parts.now) in
    let start = c.loop-part.start in
    let left = c.loop-part.left - c.part_bits-left.result in
    let end = start + c.part_leaves.result in
    let count = end - start in
    let new = c.part_step-done.new.marks in
    let is : c.part_leaves.result ≡ part_leaves p = omega (arith, at, c.part_leaves.ensures, c.loop-part.invariant.marked) in
    let size : length new ≡ part_leaves p = c.part_step-done.auto.marks
    ∙ length_part c.loop-part.marks start end (part_leaves p) (omega (arith, is)) (omega (arith, is, at, c.loop-part.invariant.marked)) in
    let Steps : Parts → Type 0 = λ ps. PartsSteps (parts_view c.args.parts.now) ps c.args.low c.args.width c.args.bit c.args.entered c.args.marks.now
    c.loop-part.marks start c.loop-part.left c.loop-part.done in
    let Step : ℕ → Type 0 = λ w. IsStep (RunsPart p (c.args.low + w)) (c.args.low + w) (part_width p) c.args.bit c.loop-part.done
    (take count (drop start c.loop-part.marks)) new c.part_step-done.result in
    let After : ℕ → Type 0 = λ w. PartsSteps (parts_view c.args.parts.now) rest c.args.low c.args.width c.args.bit c.args.entered c.args.marks.now
    (put_mid start count c.loop-part.marks new) end w c.part_step-done.result in
    record {
      sized = step.rest_sized;
      bits = step.after;
      few = omega arith;
      marked = omega (arith, is, at, c.loop-part.invariant.marked, same_len_mid start count c.loop-part.marks new c.part_step-done.auto.marks);
      steps = subst After step.after (part_stepped (parts_view c.args.parts.now) p rest c.args.low c.args.width c.loop-part.left start end count c.args.bit
          c.args.entered c.loop-part.done c.part_step-done.result c.args.marks.now c.loop-part.marks new (omega (arith, is)) (omega (arith, is)) size
          (omega (arith, is, at, c.loop-part.invariant.marked)) (omega (arith, ap parts_width part_at, c.loop-part.invariant.bits))
          (subst Steps part_at c.loop-part.invariant.steps) (subst Step (sym step.after) c.part_step-done.ensures));
    }
