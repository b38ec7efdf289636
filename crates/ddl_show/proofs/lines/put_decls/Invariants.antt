use Rattle.std.proofs.Common.{◌≡◌, ◌++◌, map, drop}
use Rattle.ddl_tree.specs.ViewModule.{decl_view}
use Rattle.ddl_show.specs.Show.{decl_lines}
use Rattle.ddl_show.proofs.lines.put_decls.Given as goal

abbrev pub invariant-loop-decl : goal.invariant-loop-decl
invariant-loop-decl l = l.text.items ++ decl_lines (map decl_view (drop l.decl-index l.decls)) ≡ l.initial.text.items ++ decl_lines (map decl_view l.decls)
