-- The lines that end a run.
use Rattle.std.specs.Prelude.{◌≡◌, ℕ, List, Option, Some, None, Bool, true, false, is_some, codes, encode_utf8_all}
use Rattle.serde_json.specs.Data.{Data, string, object, Members, member, no_members}
use Rattle.ddl_base.specs.declared.why.Why.{Why}
use Rattle.ddl_base.specs.declared.why.Why.TheVariants as why_is
use Rattle.ddl_types.specs.declared.fault.Fault.{Fault}
use Rattle.ddl_types.specs.declared.fault.Fault.TheVariants as fault_is
use Rattle.ddl_report.specs.Names.{shown}
use Rattle.ddl_report.specs.Numbers.{natural}
use Rattle.ddl_report.specs.Values.{only, place_data}
use Rattle.ddl_report.specs.declared.closing.Closing.{Closing}
use Rattle.ddl_report.specs.declared.closing.Closing.TheVariants as closing_is

abbrev pub why_name : Why → List ℕ
why_name why_is.Byte = codes "byte"
why_name why_is.Match = codes "match"
why_name why_is.Class = codes "class"
why_name why_is.End = codes "end"
why_name why_is.Take = codes "take"
why_name why_is.Drop = codes "drop"
why_name why_is.Index = codes "index"
why_name why_is.Lookup = codes "lookup"
why_name why_is.Insert = codes "insert"
why_name (why_is.Said n) = codes "said"
why_name why_is.Guard = codes "guard"
why_name why_is.Fits = codes "fits"
why_name why_is.Case = codes "case"

abbrev pub fault_name : Fault → List ℕ
fault_name fault_is.Overflow = codes "overflow"
fault_name fault_is.DivZero = codes "divzero"
fault_name fault_is.Shift = codes "shift"
fault_name fault_is.DeepResult = codes "deep"

abbrev pub is_said : Why → Bool
is_said (why_is.Said n) = true
is_said _ = false

-- a failure has a text exactly where its cause is `Said`
abbrev pub HasItsText : Closing → Type 0
HasItsText (closing_is.Fail why in_input at name from to text) = is_some text ≡ is_said why
HasItsText _ = Unit {0}

abbrev pub stopped : List ℕ → Data
stopped why = only (codes "stopped") (string why)

abbrev pub missing : List ℕ → Data
missing name = object (member (codes "name") (string (shown name)) (member (codes "stopped") (string (codes "missing")) no_members))

-- the last members of a failure: the text byte by byte, where there is one, the end and the cause
abbrev pub tail_members : Why → ℕ → Option (List ℕ) → Members
tail_members why to text =
    let tail = member (codes "to") (natural to) (member (codes "why") (string (why_name why)) no_members) in
    elim text [ None ↦ tail | Some bytes ↦ member (codes "text") (string (encode_utf8_all bytes)) tail ]

abbrev pub fail_data : Why → Bool → ℕ → List ℕ → ℕ → ℕ → Option (List ℕ) → Data
fail_data why in_input at name from to text = only (codes "fail") (object (
    member (codes "at") (natural at)
    (member (codes "from") (natural from)
    (member (codes "in") (place_data in_input)
    (member (codes "module") (string (shown name)) (tail_members why to text))))))

abbrev pub fault_data : Fault → List ℕ → ℕ → ℕ → Data
fault_data fault name from to = only (codes "fault") (object (
    member (codes "from") (natural from)
    (member (codes "kind") (string (fault_name fault))
    (member (codes "module") (string (shown name))
    (member (codes "to") (natural to) no_members)))))

abbrev pub counts_data : ℕ → ℕ → ℕ → ℕ → Data
counts_data steps threads slots left = only (codes "counts") (object (
    member (codes "left") (natural left)
    (member (codes "slots") (natural slots)
    (member (codes "steps") (natural steps)
    (member (codes "threads") (natural threads) no_members)))))

abbrev pub closing_data : Closing → Data
closing_data (closing_is.Parses number) = only (codes "parses") (natural number)
closing_data (closing_is.Fail why in_input at name from to text) = fail_data why in_input at name from to text
closing_data (closing_is.Fault fault name from to) = fault_data fault name from to
closing_data (closing_is.Spent budget) = only (codes "spent") (natural budget)
closing_data (closing_is.Counts steps threads slots left) = counts_data steps threads slots left
closing_data (closing_is.Declarations number) = only (codes "declarations") (natural number)
closing_data closing_is.Words = stopped (codes "words")
closing_data closing_is.Large = stopped (codes "large")
closing_data closing_is.Read = stopped (codes "read")
closing_data (closing_is.Missing name) = missing name
closing_data closing_is.Unbuilt = stopped (codes "unbuilt")
