use Rattle.std.proofs.Common.{◌≡◌, map, take}
use Rattle.ddl_typed.specs.AnswerView.{shown_view}
use Rattle.ddl_top.specs.Answered.{parse_line}
use Rattle.ddl_top.proofs.answer.parse_lines.Given as goal

abbrev pub invariant-loop-parse : goal.invariant-loop-parse
invariant-loop-parse l = l.lines.items ≡ map parse_line (map shown_view (take l.parse-index l.parses))
