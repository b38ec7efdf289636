use Rattle.std.proofs.Common.{◌≡◌, ◌++◌, map, length}
use Rattle.ddl_types.specs.Types.{tys_of}
use Rattle.ddl_types.specs.TyView.{ty_view}
use Rattle.ddl_unify.specs.Heads.{pairs}
use Rattle.ddl_unify.specs.View.{equations}
use Rattle.ddl_unify.proofs.heads.push_all.Given as goal

abbrev pub invariant-loop-left : goal.invariant-loop-left
invariant-loop-left l = record {
  long : length l.ls.items ≡ length l.rs.items;
  moved : equations l.stack.items ++ pairs (tys_of (map ty_view l.ls.items)) (tys_of (map ty_view l.rs.items)) ≡ equations l.fn.stack.items
      ++ pairs (tys_of (map ty_view l.fn.ls.items)) (tys_of (map ty_view l.fn.rs.items));
}

abbrev pub decreases-loop-left : goal.decreases-loop-left
decreases-loop-left l = length l.ls.items
