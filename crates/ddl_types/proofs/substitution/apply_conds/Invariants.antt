use Rattle.std.proofs.Common.{◌≡◌, map, take}
use Rattle.ddl_types.specs.Types.{arguments}
use Rattle.ddl_types.specs.TyView.{ty_view}
use Rattle.ddl_types.specs.Conditions.{on_condition}
use Rattle.ddl_types.specs.CondView.{cond_view}
use Rattle.ddl_types.proofs.substitution.apply_conds.Given as goal

abbrev pub invariant-loop-cond : goal.invariant-loop-cond
invariant-loop-cond l = map cond_view l.applied.items ≡ map (on_condition (arguments (map ty_view l.args))) (map cond_view (take l.cond-index l.conds))
