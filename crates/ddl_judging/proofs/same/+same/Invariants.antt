use Rattle.std.proofs.Common.{◌≡◌, map, drop}
use Rattle.ddl_types.specs.Types.{tys_of}
use Rattle.ddl_types.specs.TyView.{ty_view}
use Rattle.ddl_judging.specs.Same.{same_all}
use Rattle.ddl_judging.proofs.same.+same.Given as goal

abbrev pub invariant-same_all-loop-i : goal.invariant-same_all-loop-i
invariant-same_all-loop-i l = same_all (tys_of (map ty_view (drop l.i l.lefts))) (tys_of (map ty_view (drop l.i l.rights)))
    ≡ same_all (tys_of (map ty_view l.lefts)) (tys_of (map ty_view l.rights))
