-- The line of a refusal.
use Rattle.std.specs.Prelude.{ℕ, List, ◌++◌, map, codes, decimal}
use Rattle.serde_json.specs.Data.{Data, string, array, object, member, no_members}
use Rattle.serde_json.specs.View.{items_of}
use Rattle.ddl_base.specs.declared.stage.Stage.{Stage}
use Rattle.ddl_base.specs.declared.stage.Stage.TheVariants as stage_is
use Rattle.ddl_base.specs.declared.told.Told.{Told}
use Rattle.ddl_report.specs.Names.{shown}
use Rattle.ddl_report.specs.Numbers.{natural}
use Rattle.ddl_report.specs.Values.{only}

-- the word of a stage in a code
abbrev pub stage_name : Stage → List ℕ
stage_name stage_is.Load = codes "load"
stage_name stage_is.Lex = codes "lex"
stage_name stage_is.Syntax = codes "syntax"
stage_name stage_is.Names = codes "names"
stage_name stage_is.Types = codes "types"
stage_name stage_is.Bits = codes "bits"
stage_name stage_is.Spec = codes "spec"

-- the code of a refusal: its stage and its number, with a dot between
abbrev pub refusal_code : Stage → ℕ → List ℕ
refusal_code stage number = stage_name stage ++ codes "." ++ decimal number

-- texts, each written as a name is
abbrev pub text_data : List ℕ → Data
text_data text = string (shown text)

abbrev pub texts_data : List (List ℕ) → Data
texts_data texts = array (items_of (map text_data texts))

abbrev pub refusal_data : Stage → ℕ → List ℕ → ℕ → ℕ → List (List ℕ) → Data
refusal_data stage number name from to more = only (codes "refused") (object (
    member (codes "code") (string (refusal_code stage number))
    (member (codes "from") (natural from)
    (member (codes "module") (string (shown name))
    (member (codes "more") (texts_data more)
    (member (codes "to") (natural to) no_members))))))

abbrev pub told_data : Told → Data
told_data told = refusal_data told.stage told.number told.«module» told.from told.to told.more.items
