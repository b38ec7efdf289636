use Rattle.std.proofs.Common.{arith, length, ◌≤◌}
use Rattle.ddl_lex.proofs.Opened.{brackets_within}
use Rattle.ddl_lex.proofs.stack.Stack.push_bracket.Goals as goal

pub overflow_add-self : goal.overflow_add-self
overflow_add-self c =
    let few : c.self.inside.brackets ≤ length c.self.inside.open.items = brackets_within c.self.inside.open.items _ c.self.invariant in
    omega (arith, few, c.self.inside.open.ok.0, c.self.inside.open.ok.1, c.self.inside.open.small)
