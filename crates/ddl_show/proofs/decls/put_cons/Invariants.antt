use Rattle.std.proofs.Common.{◌≡◌, List, map, drop}
use Rattle.ddl_token.specs.declared.token.Tok.{Tok}
use Rattle.ddl_tree.specs.ViewModule.{con_view}
use Rattle.ddl_tree.specs.PrintModule.{print_more_cons}
use Rattle.ddl_show.specs.Writes.{closed}
use Rattle.ddl_show.proofs.decls.put_cons.Given as goal

abbrev pub invariant-loop-con : goal.invariant-loop-con
invariant-loop-con l = (rest : List Tok) → closed l.initial.text.items (print_more_cons (map con_view l.others) rest)
    ≡ closed l.text.items (print_more_cons (map con_view (drop l.con-index l.others)) rest)
