use Rattle.std.proofs.Common.{◌≡◌, map, take, drop}
use Rattle.serde_json.specs.Data.{no_members}
use Rattle.serde_json.specs.View.{view, members_view}
use Rattle.ddl_types.specs.PlainView.{plains_view}
use Rattle.ddl_report.specs.Values.{fields_data}
use Rattle.ddl_report.proofs.ValueLemmas.{printed}
use Rattle.ddl_report.proofs.values.+plain.Given as goal

abbrev pub invariant-items_value-loop-item : goal.invariant-items_value-loop-item
invariant-items_value-loop-item l = map view l.made.items ≡ map printed (take l.item-index l.items)

-- what is put, and then the rest, gives the whole
abbrev pub invariant-fields_value-loop-at : goal.invariant-fields_value-loop-at
invariant-fields_value-loop-at l =
    fields_data (plains_view (drop l.at l.values)) (drop l.at l.names) (members_view l.members.entries) ≡ fields_data (plains_view l.values) l.names no_members
