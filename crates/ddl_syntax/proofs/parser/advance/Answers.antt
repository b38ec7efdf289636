use Rattle.std.proofs.Common.{ap, sym, ◌∙◌}
use Rattle.ddl_reader.specs.Step.{step_at}
use Rattle.ddl_states.specs.FocusView.{focus_view}
use Rattle.ddl_states.specs.Gives.{state_of}
use Rattle.ddl_states.specs.StackView.{forms}
use Rattle.ddl_syntax.proofs.Stands.{after_limit}
use Rattle.ddl_syntax.proofs.parser.advance.Goals as goal

pub returns-in-Ok : goal.returns-in-Ok
returns-in-Ok c =
    let stack = c.step.new.stack in
    let goes = sym (ap (λ s. step_at (focus_view c.args.focus) (forms c.args.stack.now) c.args.token.now.kind s) c.place.ensures) ∙ c.in-Ok.ensures in
    after_limit c.args.«module» c.args.k c.args.token.now (state_of c.args.stack.now c.args.focus) (state_of stack c.in-Ok.next) c.within_limit.result stack
    goes c.within_limit.ensures
