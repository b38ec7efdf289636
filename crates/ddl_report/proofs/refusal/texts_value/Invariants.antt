use Rattle.std.proofs.Common.{◌≡◌, map, take}
use Rattle.serde_json.specs.View.{view}
use Rattle.ddl_report.specs.Refusal.{text_data}
use Rattle.ddl_report.proofs.refusal.texts_value.Given as goal

abbrev pub invariant-loop-text : goal.invariant-loop-text
invariant-loop-text l = map view l.items.items ≡ map text_data (take l.text-index l.texts)
