use Rattle.std.proofs.Common.{◌≡◌, ◌++◌, map}
use Rattle.serde_json.specs.View.{view}
use Rattle.ddl_report.proofs.ValueLemmas.{entry_list}
use Rattle.ddl_report.proofs.values.entries_value.Given as goal

-- what is made, and then the rest, gives the whole
abbrev pub invariant-loop-key : goal.invariant-loop-key
invariant-loop-key l =
    map view l.entries.items ++ entry_list l.key-iterator.a.rest.items l.key-iterator.b.rest.items ≡ entry_list l.fn.keys.items l.fn.values.items
