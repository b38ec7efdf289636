use Rattle.std.proofs.Common.{◌≡◌, [], map, take, drop}
use Rattle.ddl_tree.specs.ViewModule.{decl_view}
use Rattle.ddl_kinds.specs.Meanings.{decl_name}
use Rattle.ddl_kinds.specs.Findings.{first_refusal, twice_among}
use Rattle.ddl_uses.specs.Held.{ArePlaced}
use Rattle.ddl_names.proofs.twice.decls_differ.Given as goal

abbrev pub invariant-loop-decl : goal.invariant-loop-decl
invariant-loop-decl l =
    record {
      kept : ArePlaced (take l.decl-index (map decl_name (map decl_view l.decls))) l.places;
      rest : first_refusal (twice_among (take l.decl-index (map decl_name (map decl_view l.decls))) (drop l.decl-index (map decl_name (map decl_view l.decls))))
          ≡ first_refusal (twice_among [] (map decl_name (map decl_view l.decls)));
    }
