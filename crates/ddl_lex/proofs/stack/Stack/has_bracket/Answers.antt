use Rattle.std.proofs.Common.{◌∙◌, ap, reverse}
use Rattle.ddl_lex.specs.Layout.{has_bracket}
use Rattle.ddl_lex.proofs.Opened.{some_bracket}
use Rattle.ddl_lex.proofs.stack.Stack.has_bracket.Goals as goal

pub returns : goal.returns
returns c = some_bracket (reverse c.self.inside.open.items) _ c.self.invariant ∙ ap has_bracket c.self.view_is
