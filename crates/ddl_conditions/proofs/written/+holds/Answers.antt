use Rattle.std.proofs.Common.{◌∙◌, ◌||◌, ap, sym}
use Rattle.ddl_types.specs.TyView.{ty_view}
use Rattle.ddl_unify.specs.Occurs.{has}
use Rattle.ddl_conditions.proofs.Holding.{holds_next}
use Rattle.ddl_conditions.proofs.written.+holds.Goals as goal

pub holds_any-loop-t-preserved : goal.holds_any-loop-t-preserved
holds_any-loop-t-preserved r c =
    holds_next c.args.ts.now c.loop-t.t-index c.t-item.result c.args.v c.loop-t-test.true c.t-item.is
    ∙ ap (λ b. b || has (ty_view c.t-item.result) c.args.v) c.loop-t.invariant ∙ sym c.holds.ensures ∙ c.if-holds.false
