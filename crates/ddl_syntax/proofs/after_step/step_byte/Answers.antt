use Rattle.std.proofs.Common.{◌≤◌, subst, arith}
use Rattle.ddl_tree.specs.ClassTree as cls
use Rattle.ddl_states.specs.Heights.{coming, height}
use Rattle.ddl_states.specs.StackView.{forms}
use Rattle.ddl_states.proofs.HeightsOf.{class_height}
use Rattle.ddl_syntax.proofs.after_step.step_byte.Goals as goal

pub step_class-requires : goal.step_class-requires
step_class-requires c = subst (λ z. height z.0 (coming z.1) ≤ 400) c.in_ok-part.ensures
    (omega (arith, class_height (forms c.args.stack.now) (cls.One c.args.byte) 1, c.requires))
