use Rattle.std.proofs.Common.{◌≡◌, List, map, drop}
use Rattle.ddl_token.specs.declared.token.Tok.{Tok}
use Rattle.ddl_tree.specs.ViewModule.{part_view}
use Rattle.ddl_tree.specs.PrintModule.{print_more_parts}
use Rattle.ddl_show.specs.Writes.{closed}
use Rattle.ddl_show.proofs.decls.put_parts.Given as goal

abbrev pub invariant-loop-part : goal.invariant-loop-part
invariant-loop-part l = (rest : List Tok) → closed l.initial.text.items (print_more_parts (map part_view l.others) rest)
    ≡ closed l.text.items (print_more_parts (map part_view (drop l.part-index l.others)) rest)
