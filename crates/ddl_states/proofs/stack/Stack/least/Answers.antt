use Rattle.std.proofs.Common.{◌∙◌, sym, ap, []}
use Rattle.ddl_states.specs.StackView.{stack_view}
use Rattle.ddl_reader.specs.StepExpr.{least}
use Rattle.ddl_states.proofs.Opened.{view-last}
use Rattle.ddl_states.proofs.stack.Stack.least.Goals as goal

pub returns-in-Some : goal.returns-in-Some
returns-in-Some c = c.hole.ensures ∙ sym (ap (λ z. least (stack_view z [])) (sym c.deref.ensures.value)
    ∙ view-last c.deref.result.now c.in-Some.frame.now c.in-Some.ensures.item.3.0 c.in-Some.ensures.item.1)
