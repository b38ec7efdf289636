use Rattle.std.proofs.Common.{◌≡◌, map}
use Rattle.ddl_types.specs.Types.{tys_of}
use Rattle.ddl_types.specs.TyView.{ty_view}
use Rattle.ddl_judging.specs.Shapes.{fresh}
use Rattle.ddl_schemes.proofs.sharing.fresh_arguments.Given as goal

abbrev pub invariant-loop-number : goal.invariant-loop-number
invariant-loop-number l = tys_of (map ty_view l.made.items) ≡ fresh l.number 0
