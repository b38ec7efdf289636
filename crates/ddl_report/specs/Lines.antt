-- The lines of parses.
use Rattle.std.specs.Prelude.{ℕ, List, [], ◌∷◌, ◌++◌, Bool, codes}
use Rattle.serde_json.specs.Data.{Data, object, member, no_members}
use Rattle.serde_json.specs.Written.{compact_text}
use Rattle.ddl_report.specs.Numbers.{natural}
use Rattle.ddl_report.specs.Values.{place_data}

-- the text of a JSON value, without spaces, and a newline
abbrev pub line_text : Data → List ℕ
line_text d = compact_text d ++ 10 ∷ []

-- a parse: where it ends, in which bytes, and its value
abbrev pub parse_data : ℕ → Bool → Data → Data
parse_data end in_input value =
    object (member (codes "end") (natural end)
    (member (codes "in") (place_data in_input)
    (member (codes "value") value no_members)))
