use Rattle.std.proofs.Common.{◌≡◌, ◌≤◌, ℕ, List, ◌∷◌, sym, ap, subst, arith}
use Rattle.ddl_reader.specs.Depths.{around}
use Rattle.ddl_reader.specs.Frames as m
use Rattle.ddl_states.specs.Ends.{Closes}
use Rattle.ddl_states.specs.FrameView.{frame_view, found_view}
use Rattle.ddl_states.specs.Heights.{height}
use Rattle.ddl_states.specs.StackView.{forms}
use Rattle.ddl_states.proofs.HeightsOf.{height_most}
use Rattle.ddl_syntax.proofs.have_step.step_have.Goals as goal

-- what stands at the hole of the innermost form is no deeper than the outermost one
fits : (f : m.Frame) (fs gs : List m.Frame) (n : ℕ) → gs ≡ f ∷ fs → height gs n ≤ 400 → around f n ≤ 400
fits f fs gs n e h =
    let at : height (f ∷ fs) n ≤ 400 = subst (λ z. height z n ≤ 400) e h in
    omega (arith, height_most fs (around f n))

pub close-requires : goal.close-requires
close-requires c = fits (frame_view c.in-Some.frame) (forms c.pop.new.self) (forms c.loop-stack.stack) c.loop-stack.part.deep c.in-Some.ensures
    c.loop-stack.invariant.shallow

pub pass-requires : goal.pass-requires
pass-requires c =
    let parts = subst (λ z. Closes (frame_view c.in-Some.frame) (found_view c.loop-stack.part) z) c.in-Open.is c.in_ok-whole.ensures in
    let deep : c.loop-stack.part.deep ≡ c.in-Open.part.deep = ap (λ (found : m.Found). found.deep) (sym parts.2) in
    let at : around (frame_view c.in-Some.frame) c.loop-stack.part.deep ≤ 400 =
    fits (frame_view c.in-Some.frame) (forms c.pop.new.self) (forms c.loop-stack.stack) c.loop-stack.part.deep c.in-Some.ensures
    c.loop-stack.invariant.shallow in
    subst (λ z. around z c.in-Open.part.deep ≤ 400) (sym parts.1) (subst (λ n. around (frame_view c.in-Some.frame) n ≤ 400) deep at)
