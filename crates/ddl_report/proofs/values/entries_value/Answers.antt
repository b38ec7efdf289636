use Rattle.std.proofs.Common.{◌≡◌, ap, sym, ◌∙◌, ◌++◌, [], map, inl, inr, append-nil}
use Rattle.serde_json.specs.View.{items_of, view}
use Rattle.ddl_report.proofs.ValueLemmas.{entries-list, entry_list, entry_list-no_keys, entry_list-no_values}
use Rattle.ddl_report.proofs.values.entries_value.Goals as goal

pub returns : goal.returns
returns c =
    let left = c.loop-key.key-iterator in
    let keys = left.a.rest in
    let values = left.b.rest in
    let none_left : entry_list keys.items values.items ≡ [] = elim (c.in-None.ensures.steps) [
      | inl h ↦ entry_list-no_keys keys.items values.items (sym keys.ok.0 ∙ h.1.0)
      | inr h ↦ entry_list-no_values keys.items values.items (sym values.ok.0 ∙ h.1.0)
    ] in
    let made = map view c.loop-key.entries.items in
    let all : made ≡ entry_list c.args.keys.items c.args.values.items = sym (append-nil made) ∙ ap (λ rest. made ++ rest) (sym none_left)
    ∙ c.loop-key.invariant in
    ap items_of all ∙ sym (entries-list c.args.keys.items c.args.values.items)
