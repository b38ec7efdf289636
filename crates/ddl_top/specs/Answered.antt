-- The lines and the status of an answer.
use Rattle.std.specs.Prelude.{ℕ, List, [], ◌∷◌, ◌++◌, map, None}
use Rattle.ddl_report.specs.Closing.{closing_data}
use Rattle.ddl_report.specs.Lines.{line_text, parse_data}
use Rattle.ddl_report.specs.Values.{plain_data}
use Rattle.ddl_report.specs.declared.closing.Closing.{Closing}
use Rattle.ddl_report.specs.declared.closing.Closing.TheVariants as closing_is
use Rattle.ddl_types.specs.Answer as answer
use Rattle.ddl_types.specs.Value.{Source, in_input, in_array}
use Rattle.ddl_typed.specs.Told.{Shown, Told}
use Rattle.ddl_top.specs.declared.status.Status.{Status}
use Rattle.ddl_top.specs.declared.status.Status.TheVariants as status_is
use Rattle.std.specs.Prelude.{Bool, true, false}

-- the one line of a run that has no more to say
abbrev pub closing_only : Closing → List (List ℕ)
closing_only closing = line_text (closing_data closing) ∷ []

abbrev pub is_input : Source → Bool
is_input in_input = true
is_input in_array = false

-- the line of a parse
abbrev pub parse_line : Shown → List ℕ
parse_line p = line_text (parse_data p.end (is_input p.source) (plain_data p.value))

-- how an answer of a module of this name closes; no failure of the forms so far has a text of its own
abbrev pub closing_of : List ℕ → answer.Closing → Closing
closing_of name (answer.counted n) = closing_is.Parses n
closing_of name (answer.failed f) = closing_is.Fail f.why (is_input f.source) f.at name f.span.«from» f.span.to None
closing_of name (answer.faulted fault span) = closing_is.Fault fault name span.«from» span.to

abbrev pub status_of : answer.Closing → Status
status_of (answer.counted n) = status_is.Parses
status_of (answer.failed f) = status_is.NoParse
status_of (answer.faulted fault span) = status_is.Fault

-- a line for each parse in order, and one for how they close
abbrev pub answer_lines : List ℕ → Told → List (List ℕ)
answer_lines name told = map parse_line told.parses ++ closing_only (closing_of name told.closing)
