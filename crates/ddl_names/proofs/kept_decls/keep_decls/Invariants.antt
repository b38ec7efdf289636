use Rattle.std.proofs.Common.{◌≡◌, ◌++◌, ◌+◌, ◌≤◌, length, map}
use Rattle.std.specs.Vec.Iter.{into_iter_items, into_iter_len}
use Rattle.ddl_tree.specs.ViewModule.{decl_view}
use Rattle.ddl_names.specs.Resolves.{AreFirst, info, info_view}
use Rattle.ddl_names.proofs.kept_decls.keep_decls.Given as goal

abbrev pub invariant-loop-decl : goal.invariant-loop-decl
invariant-loop-decl l =
    record {
      sized : into_iter_len l.decl-iterator ≡ length (into_iter_items l.decl-iterator);
      rest : map info_view l.kept.items ++ map (info l.unit) (map decl_view (into_iter_items l.decl-iterator))
          ≡ map info_view l.initial.kept.items ++ map (info l.unit) (map decl_view (into_iter_items l.initial.decl-iterator));
      room : length l.kept.items + length (into_iter_items l.decl-iterator) ≤ length l.firsts;
      firsts : AreFirst l.firsts l.kept.items;
    }
