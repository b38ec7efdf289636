use Rattle.std.proofs.Common.{◌≡◌, ◌++◌, drop, length, map}
use Rattle.std.specs.Prelude.{flat_map}
use Rattle.ddl_tree.specs.ViewModule.{decl_view}
use Rattle.ddl_names.specs.Cutting.{begins}
use Rattle.ddl_uses.specs.Walks.{IsOuter, site_view}
use Rattle.ddl_names.specs.Modules.{decl_findings, uses_in_each}
use Rattle.ddl_kinds.proofs.Finding.{Leaves}
use Rattle.ddl_names.proofs.decls.take_decls.Given as goal

abbrev pub invariant-loop-decl : goal.invariant-loop-decl
invariant-loop-decl l =
    record {
      left : Leaves (flat_map (decl_findings (site_view l.initial.walk.outer)) (map decl_view l.decls)) l.initial.walk.uses.items
          (flat_map (decl_findings (site_view l.initial.walk.outer)) (map decl_view (drop l.decl-index l.decls))) l.walk.uses.items;
      firsts : l.firsts.items ++ begins (length l.walk.uses.items) (uses_in_each (site_view l.initial.walk.outer) (map decl_view (drop l.decl-index l.decls)))
          ≡ l.initial.firsts.items ++ begins (length l.initial.walk.uses.items) (uses_in_each (site_view l.initial.walk.outer) (map decl_view l.decls));
      here : l.walk.outer ≡ l.initial.walk.outer;
      known : IsOuter l.walk.outer;
    }
