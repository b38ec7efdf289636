use Rattle.std.proofs.Common.{◌≡◌, List, drop}
use Rattle.ddl_token.specs.declared.token.Tok.{Tok}
use Rattle.ddl_tree.specs.View.{exprs_view, bindings_view, items_view, alts_view}
use Rattle.ddl_tree.specs.Print.{print_args, print_more_exprs, print_more_bindings, print_more_items, print_more_alts}
use Rattle.ddl_show.specs.Writes.{closed}
use Rattle.ddl_show.proofs.+exprs.Given as goal

abbrev pub invariant-lists::put_args-loop-arg : goal.invariant-lists::put_args-loop-arg
invariant-lists::put_args-loop-arg l = (rest : List Tok)
    → closed l.initial.text.items (print_args (exprs_view l.args) rest) ≡ closed l.text.items (print_args (exprs_view (drop l.arg-index l.args)) rest)

abbrev pub invariant-lists::put_exprs-loop-expr : goal.invariant-lists::put_exprs-loop-expr
invariant-lists::put_exprs-loop-expr l = (rest : List Tok)
    → closed l.initial.text.items (print_more_exprs (exprs_view l.others) l.by rest)
    ≡ closed l.text.items (print_more_exprs (exprs_view (drop l.expr-index l.others)) l.by rest)

abbrev pub invariant-lists::put_bindings-loop-binding : goal.invariant-lists::put_bindings-loop-binding
invariant-lists::put_bindings-loop-binding l = (rest : List Tok)
    → closed l.initial.text.items (print_more_bindings (bindings_view l.others) l.by rest)
    ≡ closed l.text.items (print_more_bindings (bindings_view (drop l.binding-index l.others)) l.by rest)

abbrev pub invariant-blocks::put_items-loop-item : goal.invariant-blocks::put_items-loop-item
invariant-blocks::put_items-loop-item l = (rest : List Tok)
    → closed l.initial.text.items (print_more_items (items_view l.others) rest)
    ≡ closed l.text.items (print_more_items (items_view (drop l.item-index l.others)) rest)

abbrev pub invariant-blocks::put_alts-loop-alt : goal.invariant-blocks::put_alts-loop-alt
invariant-blocks::put_alts-loop-alt l = (rest : List Tok)
    → closed l.initial.text.items (print_more_alts (alts_view l.others) rest)
    ≡ closed l.text.items (print_more_alts (alts_view (drop l.alt-index l.others)) rest)
