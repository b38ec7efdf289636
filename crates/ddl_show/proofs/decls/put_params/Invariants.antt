use Rattle.std.proofs.Common.{◌≡◌, List, map, drop}
use Rattle.ddl_token.specs.declared.token.Tok.{Tok}
use Rattle.ddl_tree.specs.ViewModule.{param_view}
use Rattle.ddl_tree.specs.PrintModule.{print_params}
use Rattle.ddl_show.specs.Writes.{closed}
use Rattle.ddl_show.proofs.decls.put_params.Given as goal

abbrev pub invariant-loop-param : goal.invariant-loop-param
invariant-loop-param l = (rest : List Tok) → closed l.initial.text.items (print_params (map param_view l.params) rest)
    ≡ closed l.text.items (print_params (map param_view (drop l.param-index l.params)) rest)
