-- Facts of lines.
use Rattle.std.proofs.Common.{◌≡◌, ℕ, List, [], ◌∷◌, map, refl, Bool, true, false}
use Rattle.std.specs.Prelude.{Some, None, if◌then◌else◌, encode_utf8_all}
use Rattle.std.specs.Str.{is_utf8, IsUtf8}
use Rattle.std.proofs.lemmas.Str.{IsUtf8-from_is_utf8, is_utf8-from_IsUtf8}
use Rattle.serde_json.specs.View.{items_of}
use Rattle.serde_json.specs.Written.{has_float, items_have_float}
use Rattle.serde_json.specs.Data.{Data}
use Rattle.ddl_base.specs.declared.told.Told.{Told}
use Rattle.ddl_report.specs.Closing.{closing_data}
use Rattle.ddl_report.specs.Lines.{parse_data}
use Rattle.ddl_report.specs.Names.{shown}
use Rattle.ddl_report.specs.Numbers.{natural}
use Rattle.ddl_report.specs.Refusal.{text_data, told_data}
use Rattle.ddl_report.specs.declared.closing.Closing.{Closing}
use Rattle.ddl_report.specs.declared.closing.Closing.TheVariants.{Parses, Fail, Fault, Spent, Counts, Declarations, Words, Large, Read, Missing, Unbuilt}
use Rattle.ddl_report.proofs.NoFloat.{plain-no_float}

pub shown-text : (name : List ℕ) → IsUtf8 name → shown name ≡ name
shown-text name h = rw (is_utf8-from_IsUtf8 name h)

pub shown-bytes : (name : List ℕ) → ¬ IsUtf8 name → shown name ≡ encode_utf8_all name
shown-bytes name h = by_test (is_utf8 name) refl where
  by_test : (b : Bool) → is_utf8 name ≡ b → (if b then name else encode_utf8_all name) ≡ encode_utf8_all name
  by_test true e = absurd (h (IsUtf8-from_is_utf8 name e))
  by_test false e = refl

pub numbers-no_float : (ns : List ℕ) → items_have_float (items_of (map natural ns)) ≡ false
numbers-no_float [] = refl
numbers-no_float (n ∷ ns) = numbers-no_float ns

pub parse-no_float : (end : ℕ) (in_input : Bool) (d : Data) → has_float d ≡ false → has_float (parse_data end in_input d) ≡ false
parse-no_float end in_input d e = rw e

pub closing-no_float : (c : Closing) → has_float (closing_data c) ≡ false
closing-no_float (Parses n) = refl
closing-no_float (Fail why in_input at name from to None) = refl
closing-no_float (Fail why in_input at name from to (Some text)) = refl
closing-no_float (Fault fault name from to) = refl
closing-no_float (Spent n) = refl
closing-no_float (Counts steps threads slots left) = refl
closing-no_float (Declarations n) = refl
closing-no_float Words = refl
closing-no_float Large = refl
closing-no_float Read = refl
closing-no_float (Missing name) = refl
closing-no_float Unbuilt = refl

texts-no_float : (texts : List (List ℕ)) → items_have_float (items_of (map text_data texts)) ≡ false
texts-no_float [] = refl
texts-no_float (text ∷ texts) = texts-no_float texts

pub told-no_float : (told : Told) → has_float (told_data told) ≡ false
told-no_float told = rw (texts-no_float told.more.items)

-- for a line that is written
pub ruleset line_lemmas = (closing-no_float, told-no_float, numbers-no_float, parse-no_float, plain-no_float)
