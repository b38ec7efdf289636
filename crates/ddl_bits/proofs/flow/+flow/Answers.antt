use Rattle.std.proofs.Common.{◌≡◌, ℕ, ◌+◌, ◌-◌, false, List, Bool, get_or, length, inl, inr, ap, subst, sym, ◌∙◌, arith, rules, tests}
use Rattle.std.proofs.lemmas.Grind.{common_steps}
use Rattle.std.proofs.lemmas.List.{get_or_read}
use Rattle.ddl_bits.specs.declared.layout.Layout.{the_lemmas}
use Rattle.ddl_bits.specs.Flows.{ReadsCons, ReadsPart, ReadsParts, RunsWhole}
use Rattle.ddl_bits.specs.Tree.{Cons, Parts, cons_width, part_width, parts_width, PartsSized}
use Rattle.ddl_bits.specs.View.{layout_view, part_view, parts_view}
use Rattle.ddl_bits.proofs.Flowing.{whole_more}
use Rattle.ddl_bits.proofs.Layers.{con_view_out}
use Rattle.ddl_bits.proofs.Runs.{or_left, or_right, written_back}
use Rattle.ddl_bits.proofs.Steps.{at_con, at_part, con_step_at, part_step_at}
use Rattle.ddl_bits.proofs.flow.+flow.Goals as goal

pub layout_flow-parts_flow-requires : goal.layout_flow-parts_flow-requires
layout_flow-parts_flow-requires t c =
    let step = con_step_at c.deref-con-items.result.now c.loop-con.con-index c.con-item.result (cons_width (layout_view c.args.layout.now)) c.loop-con-test.true
    c.con-item.is c.loop-con.invariant.sized in
    let seen = con_view_out c.con-item.result ∙ ap parts_view (sym c.deref-in-loop-con.ensures.value) in (
      first_of (search (tests, rules, the_lemmas, get_or_read), grind (the_lemmas, arith, common_steps)),
      (
        subst PartsSized seen step.1,
        (
          omega (arith, step.0, ap parts_width seen),
          (
            c.requires.other_sized,
            (
              c.requires.other_within,
              (ap length c.deref_mut.ensures.value
                  ∙ ap length (c.in_ok-after.ensures ∙ c.deref.ensures.value ∙ c.in_ok-before.ensures) ∙ c.requires.marked),
            ),
          ),
        ),
      ),
    )

pub layout_flow-loop-con-preserved : goal.layout_flow-loop-con-preserved
layout_flow-loop-con-preserved t c =
    let other = parts_view c.args.other.now in
    let step = con_step_at c.deref-con-items.result.now c.loop-con.con-index c.con-item.result (cons_width (layout_view c.args.layout.now)) c.loop-con-test.true
    c.con-item.is c.loop-con.invariant.sized in
    let con_at = at_con c.deref-con-items.result.now c.loop-con.con-index c.con-item.result c.loop-con-test.true c.con-item.is in
    let seen = con_view_out c.con-item.result ∙ ap parts_view (sym c.deref-in-loop-con.ensures.value) in
    let copy : c.args.marks.now ≡ c.deref_mut.result.now =
    sym (c.deref_mut.ensures.value ∙ c.in_ok-after.ensures ∙ c.deref.ensures.value ∙ c.in_ok-before.ensures) in
    let back : c.deref-in-loop-con-2.result.now ≡ c.parts_flow.new.marks = c.deref-in-loop-con-2.ensures.value
    ∙ written_back c.in_ok-after.after.len c.parts_flow.new.marks c.in_ok-after.after.items (sym (c.parts_flow.auto.marks ∙ c.deref_mut.ensures.len)) in
    let At : ℕ → ℕ → Type 0 = λ n k. RunsWhole other c.deref_mut.result.now k n in
    let With : ℕ → List Bool → Type 0 = λ n m. RunsWhole other m (c.args.low + cons_width (layout_view c.args.layout.now)) n in
    let wide : c.args.low + cons_width (layout_view c.args.layout.now) ≡ c.args.low + parts_width (parts_view c.deref-in-loop-con.result.now) =
    omega (arith, step.0, ap parts_width seen) in
    record {
      sized = step.2;
      flow = λ n inside reads runs.
          elim (c.loop-con.invariant.flow n inside reads runs) [
            | inl is_done ↦ inl (whole_more other c.loop-con.marks c.add_marks.new.marks c.args.low n (λ i stands. c.add_marks.ensures i
                ∙ or_left (get_or c.loop-con.marks i false) (get_or c.deref-in-loop-con-2.result.now i false) stands) is_done)
            | inr ahead ↦
                let P : Cons → Type 0 = λ cs. ReadsCons cs c.args.low n in
                let Q : Parts → Type 0 = λ ps. ReadsParts ps c.args.low n in
                elim (subst P con_at ahead) [
                  | inl this ↦ inl (whole_more other c.parts_flow.new.marks c.add_marks.new.marks c.args.low n (λ i stands. c.add_marks.ensures i
                      ∙ or_right (get_or c.loop-con.marks i false) (get_or c.deref-in-loop-con-2.result.now i false) (ap (λ m. get_or m i false) back ∙ stands))
                      (c.in_ok-parts_flow.ensures n inside (subst Q seen this) (subst (At n) wide (subst (With n) copy runs))))
                  | inr that ↦ inr that
                ]
          ];
    }

pub parts_flow-loop-part-preserved : goal.parts_flow-loop-part-preserved
parts_flow-loop-part-preserved t c =
    let other = parts_view c.args.other.now in
    let step = part_step_at c.args.parts.now c.loop-part.part-index c.part-item.result c.part_bits-left.result c.loop-part.left c.loop-part-test.true
    c.part-item.is c.loop-part.invariant.sized c.loop-part.invariant.bits (omega arith) c.part_bits-left.ensures in
    let part_at = at_part c.args.parts.now c.loop-part.part-index c.part-item.result c.loop-part-test.true c.part-item.is in
    let left = c.loop-part.left - c.part_bits-left.result in
    let p = part_view c.part-item.result in
    let whole : c.args.low + c.loop-part.left ≡ (c.args.low + left) + part_width p = omega (arith, step.bits_are, step.enough) in
    record {
      sized = step.rest_sized;
      bits = step.after;
      few = omega arith;
      flow = λ n inside reads runs.
          let Read : Parts → Type 0 = λ ps. ReadsParts ps c.args.low n in
          let Here : ℕ → Type 0 = λ w. ReadsPart p (c.args.low + w) n in
          let At : ℕ → Type 0 = λ k. RunsWhole other c.loop-part.marks k n in
          let before = c.loop-part.invariant.flow n inside reads runs in
          let parts = subst Read part_at before.0 in
          (parts.1, c.in_ok-part_flow.ensures n inside (subst Here step.after parts.0) (subst At whole before.1));
    }
