use Rattle.std.proofs.Common.{◌≤◌, ◌∷◌, subst, arith}
use Rattle.ddl_reader.specs.Depths.{around}
use Rattle.ddl_states.specs.Heights.{height}
use Rattle.ddl_states.specs.FrameView.{frame_view}
use Rattle.ddl_states.specs.StackView.{forms}
use Rattle.ddl_states.proofs.HeightsOf.{height_most}
use Rattle.ddl_syntax.proofs.finish.finish_have.Goals as goal

pub close-requires : goal.close-requires
close-requires c =
    let at : height (frame_view c.in-Some.frame ∷ forms c.pop.new.self) c.loop-frame.part.deep ≤ 400 =
    subst (λ z. height z c.loop-frame.part.deep ≤ 400) c.in-Some.ensures c.loop-frame.invariant.shallow in
    omega (arith, height_most (forms c.pop.new.self) (around (frame_view c.in-Some.frame) c.loop-frame.part.deep))
