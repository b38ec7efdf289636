use Rattle.std.proofs.Common.{◌≡◌, drop}
use Rattle.ddl_judging.specs.Views.{shapes_view}
use Rattle.ddl_typed.specs.View.{exprs_view, fields_view, cases_view, alts_view, args_view, items_view}
use Rattle.ddl_closing.specs.Left.{all_left, named_left, cases_left, alts_left, args_left, items_left}
use Rattle.ddl_closing.proofs.+cases.Given as goal

abbrev pub invariant-lists::check_all-loop-expr : goal.invariant-lists::check_all-loop-expr
invariant-lists::check_all-loop-expr l = all_left (shapes_view l.shapes) (exprs_view l.exprs)
    ≡ all_left (shapes_view l.shapes) (exprs_view (drop l.expr-index l.exprs))

abbrev pub invariant-lists::check_fields-loop-field : goal.invariant-lists::check_fields-loop-field
invariant-lists::check_fields-loop-field l = named_left (shapes_view l.shapes) (fields_view l.fields)
    ≡ named_left (shapes_view l.shapes) (fields_view (drop l.field-index l.fields))

abbrev pub invariant-lists::check_bodies-loop-case : goal.invariant-lists::check_bodies-loop-case
invariant-lists::check_bodies-loop-case l = cases_left l.is_value (shapes_view l.shapes) (cases_view l.cases)
    ≡ cases_left l.is_value (shapes_view l.shapes) (cases_view (drop l.case-index l.cases))

abbrev pub invariant-lists::check_alternatives-loop-alternative : goal.invariant-lists::check_alternatives-loop-alternative
invariant-lists::check_alternatives-loop-alternative l =
    alts_left (shapes_view l.shapes) (alts_view l.alternatives) ≡ alts_left (shapes_view l.shapes) (alts_view (drop l.alternative-index l.alternatives))

abbrev pub invariant-lists::check_arguments-loop-argument : goal.invariant-lists::check_arguments-loop-argument
invariant-lists::check_arguments-loop-argument l = args_left (shapes_view l.shapes) (args_view l.arguments)
    ≡ args_left (shapes_view l.shapes) (args_view (drop l.argument-index l.arguments))

abbrev pub invariant-lists::check_items-loop-item : goal.invariant-lists::check_items-loop-item
invariant-lists::check_items-loop-item l = items_left (shapes_view l.shapes) (items_view l.items)
    ≡ items_left (shapes_view l.shapes) (items_view (drop l.item-index l.items))
