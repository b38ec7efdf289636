use Rattle.std.proofs.Common.{◌≡◌, ◌++◌, ◌+◌, length, map}
use Rattle.std.specs.Vec.Iter.{into_iter_items, into_iter_len}
use Rattle.ddl_names.specs.Resolves.{AreFirst, decl_count, info_view, infos_from}
use Rattle.ddl_uses.specs.Walks.{loaded}
use Rattle.ddl_names.proofs.resolved.Resolved.of.Given as goal

abbrev pub invariant-loop-unit : goal.invariant-loop-unit
invariant-loop-unit l =
    record {
      sized : into_iter_len l.unit-iterator ≡ length (into_iter_items l.unit-iterator);
      names : l.names.items ++ map (λ u. u.name) (into_iter_items l.unit-iterator) ≡ map (λ u. u.name) (into_iter_items l.initial.unit-iterator);
      decls : map info_view l.decls.items ++ infos_from l.place (loaded (into_iter_items l.unit-iterator))
          ≡ infos_from 0 (loaded (into_iter_items l.initial.unit-iterator));
      room : length l.decls.items + decl_count (into_iter_items l.unit-iterator) ≡ length l.firsts.items;
      firsts : AreFirst l.firsts.items l.decls.items;
    }
