use Rattle.std.proofs.Common.{rules, arith, ap, sym, map, ◌∙◌}
use Rattle.std.proofs.lemmas.List.{take_all}
use Rattle.serde_json.specs.View.{items_of}
use Rattle.ddl_types.specs.declared.plain.Plain.{the_lemmas}
use Rattle.ddl_report.proofs.ValueLemmas.{paired_at, plains-map, printed}
use Rattle.ddl_report.proofs.values.+plain.Goals as goal

pub items_value-plain_value-requires : goal.items_value-plain_value-requires
items_value-plain_value-requires t c = (
  first_of (search (rules, the_lemmas), grind (arith, the_lemmas)),
  paired_at c.args.items.now c.loop-item.item-index _ _ c.requires c.loop-item-test.true c.item-item.is,
)

pub items_value-returns : goal.items_value-returns
items_value-returns t c = ap items_of (c.loop-item.invariant ∙ ap (map printed) (take_all _ c.args.items.now (omega arith))) ∙ sym (plains-map c.args.items.now)

pub fields_value-plain_value-requires : goal.fields_value-plain_value-requires
fields_value-plain_value-requires t c = (
  first_of (search (rules, the_lemmas), grind (arith, the_lemmas)),
  paired_at c.args.values.now c.loop-at.at _ _ c.requires.paired c.loop-at-test.true c.index-values-at.is,
)
