use Rattle.std.proofs.Common.{◌≡◌, ℕ, ◌+◌, List, Bool, sym, subst, ◌∙◌, arith}
use Rattle.ddl_bits.specs.Flows.{parts_leaves, RunsWhole}
use Rattle.ddl_bits.specs.Tree.{parts_width}
use Rattle.ddl_bits.specs.View.{parts_view}
use Rattle.std.proofs.Common.{take}
use Rattle.ddl_bits.proofs.Flowing.{parts_start}
use Rattle.ddl_bits.proofs.Runs.{written_back}
use Rattle.ddl_bits.proofs.meeting.first_marks.Goals as goal

pub returns-clause-start : goal.returns-clause-start
returns-clause-start c =
    λ n reads.
    let parts = parts_view c.args.parts.now in
    let place = c.parts_bits.result in
    let At : ℕ → Type 0 = λ k. RunsWhole parts c.whole_step.new.marks k n in
    let With : List Bool → Type 0 = λ m. RunsWhole parts m (parts_width parts) n in
    let width : place ≡ parts_width parts = omega (arith, c.parts_bits.ensures) in
    let before : RunsWhole parts c.deref_mut.result.now (place + 1) n = (
      parts_start parts c.requires.sized 0 (take (parts_leaves parts) c.deref_mut.result.now) (place + 1) n (omega (arith, width)) reads,
      λ last.
          absurd (omega arith),
    ) in
    let after = subst At width (c.whole_step.ensures n (λ b given. absurd cc, λ b given. absurd cc) before) in
    subst With (sym (written_back c.in_ok-marks.marks.len c.whole_step.new.marks c.in_ok-marks.marks.items
    (sym (c.whole_step.auto.marks ∙ c.deref_mut.ensures.len)))) after
