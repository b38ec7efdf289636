-- Worked rows of the lines, computed.
use Rattle.std.proofs.Common.{◌≡◌, [], ◌∷◌, ◌++◌, ◌^◌, refl}
use Rattle.std.specs.Prelude.{None, pos, negsuc, codes, true, false}
use Rattle.std.specs.Fmt.{digits}
use Rattle.std.specs.Str.{is_utf8, chars}
use Rattle.serde_json.proofs.OnLiterals.{serde_json_on_literals}
use Rattle.ddl_base.specs.declared.why.Why.TheVariants as why_is
use Rattle.ddl_base.specs.declared.stage.Stage.TheVariants as stage_is
use Rattle.ddl_types.specs.declared.fault.Fault.TheVariants as fault_is
use Rattle.ddl_types.specs.Plain as p
use Rattle.ddl_report.specs.Closing.{closing_data}
use Rattle.ddl_report.specs.Lines.{line_text, parse_data}
use Rattle.ddl_report.specs.Refusal.{refusal_data}
use Rattle.ddl_report.specs.Values.{plain_data}
use Rattle.ddl_report.specs.declared.closing.Closing.TheVariants as closing_is

text_found : line_text (parse_data 2 true (plain_data (p.array (p.one (p.number (pos 97)) (p.one (p.number (pos 98)) p.none)))))
    ≡ codes "{\"end\":2,\"in\":\"input\",\"value\":[97,98]}\n"
unfolding serde_json_on_literals digits is_utf8 chars
text_found = refl

one_parse : line_text (closing_data (closing_is.Parses 1)) ≡ codes "{\"parses\":1}\n"
unfolding serde_json_on_literals digits is_utf8 chars
one_parse = refl

text_absent : line_text (closing_data (closing_is.Fail why_is.Match true 1 (codes "A") 11 21 None))
    ≡ codes "{\"fail\":{\"at\":1,\"from\":11,\"in\":\"input\",\"module\":\"A\",\"to\":21,\"why\":\"match\"}}\n"
unfolding serde_json_on_literals digits is_utf8 chars
text_absent = refl

-- a byte that is no UTF-8 is the character of that number
missing : line_text (closing_data (closing_is.Missing (97 ∷ 255 ∷ []))) ≡ codes "{\"name\":\"a" ++ 0xc3 ∷ 0xbf ∷ codes "\",\"stopped\":\"missing\"}\n"
unfolding serde_json_on_literals digits is_utf8 chars
missing = refl

overflow : line_text (closing_data (closing_is.Fault fault_is.Overflow (codes "A") 4 8))
    ≡ codes "{\"fault\":{\"from\":4,\"kind\":\"overflow\",\"module\":\"A\",\"to\":8}}\n"
unfolding serde_json_on_literals digits is_utf8 chars
overflow = refl

-- of two fields `a` the last one is written, and `_` is not
doubled : line_text (plain_data (p.fields (codes "a" ∷ codes "_" ∷ codes "B" ∷ codes "a" ∷ [])
    (p.one p.unit (p.one p.unit (p.one p.nothing (p.one (p.bool false) p.none))))))
    ≡ codes "{\"B\":null,\"a\":false}\n"
unfolding serde_json_on_literals digits is_utf8 chars
doubled = refl

entries : line_text (plain_data (p.entries (p.one (p.number (pos 1)) p.none) (p.one (p.array p.none) p.none))) ≡ codes "{\"$map\":[[1,[]]]}\n"
unfolding serde_json_on_literals digits is_utf8 chars
entries = refl

large : line_text (plain_data (p.just (p.number (pos (2 ^ 64))))) ≡ codes "{\"$just\":{\"$int\":\"18446744073709551616\"}}\n"
unfolding serde_json_on_literals digits is_utf8 chars
large = refl

least : line_text (plain_data (p.union (codes "a") (p.number (negsuc 0x7fff_ffff_ffff_ffff)))) ≡ codes "{\"$a\":-9223372036854775808}\n"
unfolding serde_json_on_literals digits is_utf8 chars
least = refl

stream : line_text (plain_data (p.stream false 1 3)) ≡ codes "{\"$stream\":{\"from\":1,\"in\":\"array\",\"to\":3}}\n"
unfolding serde_json_on_literals digits is_utf8 chars
stream = refl

bad_byte : line_text (refusal_data stage_is.Lex 4 (codes "A") 13 13 [])
    ≡ codes "{\"refused\":{\"code\":\"lex.4\",\"from\":13,\"module\":\"A\",\"more\":[],\"to\":13}}\n"
unfolding serde_json_on_literals digits is_utf8 chars
bad_byte = refl

-- a text is shown as a name is, also where it is no UTF-8
twice : line_text (refusal_data stage_is.Names 2 (codes "A") 19 23 (codes "4" ∷ (255 ∷ []) ∷ []))
    ≡ codes "{\"refused\":{\"code\":\"names.2\",\"from\":19,\"module\":\"A\",\"more\":[\"4\",\"" ++ 0xc3 ∷ 0xbf ∷ codes "\"],\"to\":23}}\n"
unfolding serde_json_on_literals digits is_utf8 chars
twice = refl
