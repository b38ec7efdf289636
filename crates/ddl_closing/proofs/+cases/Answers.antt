use Rattle.std.proofs.Common.{◌≡◌, ◌+◌, drop, false, rules}
use Rattle.ddl_judging.specs.Views.{shapes_view}
use Rattle.ddl_typed.specs.View.{alts_view, args_view, argument_view, view}
use Rattle.ddl_closing.specs.Left.{IsGap, alts_left, args_left, argument_left, left}
use Rattle.ddl_closing.proofs.Done.{done_there, refused_there}
use Rattle.ddl_closing.proofs.Steps.{alternatives_from, arguments_from}
use Rattle.ddl_closing.proofs.+cases.Goals as goal

pub lists::check_alternatives-returns-in_err-check : goal.lists::check_alternatives-returns-in_err-check
lists::check_alternatives-returns-in_err-check t c =
    let ss = shapes_view c.args.shapes.now in
    let xs = c.args.alternatives.now in
    let i = c.loop-alternative.alternative-index in
    let x = c.alternative-item.result in
    let first : IsGap (alts_left ss (alts_view xs)) c.in_err-check.field-0.0 =
    refused_there (alts_left ss (alts_view xs)) (alts_left ss (alts_view (drop i xs))) (left false ss (view x.body))
    (alts_left ss (alts_view (drop (i + 1) xs))) c.in_err-check.field-0.0 c.loop-alternative.invariant
    (alternatives_from ss xs i x c.alternative-item.is c.loop-alternative-test.true) c.in_err-check.ensures in
    search (rules, first)

pub lists::check_alternatives-loop-alternative-preserved : goal.lists::check_alternatives-loop-alternative-preserved
lists::check_alternatives-loop-alternative-preserved t c =
    let ss = shapes_view c.args.shapes.now in
    let xs = c.args.alternatives.now in
    let i = c.loop-alternative.alternative-index in
    let x = c.alternative-item.result in
    done_there (alts_left ss (alts_view xs)) (alts_left ss (alts_view (drop i xs))) (left false ss (view x.body))
    (alts_left ss (alts_view (drop (i + 1) xs))) c.loop-alternative.invariant
    (alternatives_from ss xs i x c.alternative-item.is c.loop-alternative-test.true) c.in_ok-check.ensures

pub lists::check_arguments-returns-in_err-check_argument : goal.lists::check_arguments-returns-in_err-check_argument
lists::check_arguments-returns-in_err-check_argument t c =
    let ss = shapes_view c.args.shapes.now in
    let xs = c.args.arguments.now in
    let i = c.loop-argument.argument-index in
    let x = c.argument-item.result in
    let first : IsGap (args_left ss (args_view xs)) c.in_err-check_argument.field-0.0 =
    refused_there (args_left ss (args_view xs)) (args_left ss (args_view (drop i xs))) (argument_left ss (argument_view x))
    (args_left ss (args_view (drop (i + 1) xs))) c.in_err-check_argument.field-0.0 c.loop-argument.invariant
    (arguments_from ss xs i x c.argument-item.is c.loop-argument-test.true) c.in_err-check_argument.ensures in
    search (rules, first)

pub lists::check_arguments-loop-argument-preserved : goal.lists::check_arguments-loop-argument-preserved
lists::check_arguments-loop-argument-preserved t c =
    let ss = shapes_view c.args.shapes.now in
    let xs = c.args.arguments.now in
    let i = c.loop-argument.argument-index in
    let x = c.argument-item.result in
    done_there (args_left ss (args_view xs)) (args_left ss (args_view (drop i xs))) (argument_left ss (argument_view x))
    (args_left ss (args_view (drop (i + 1) xs))) c.loop-argument.invariant
    (arguments_from ss xs i x c.argument-item.is c.loop-argument-test.true) c.in_ok-check_argument.ensures
