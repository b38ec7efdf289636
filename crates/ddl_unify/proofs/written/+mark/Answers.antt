use Rattle.std.proofs.Common.{◌≡◌, ℕ, arith, length, subst, sym}
use Rattle.ddl_types.specs.Types.{Ty, Ty.var, Below}
use Rattle.ddl_types.specs.TyView.{ty_view}
use Rattle.ddl_types.proofs.TyLayers.{layers}
use Rattle.ddl_unify.proofs.Naming.{below_in, size_in, marked_var, marked_next}
use Rattle.ddl_unify.proofs.written.+mark.Goals as goal

pub mark-returns-in-Var : goal.mark-returns-in-Var
mark-returns-in-Var r c =
    let e : ty_view c.args.t.now ≡ var c.in-Var.v = grind (arith, layers) in
    let P : Ty → Type 0 = λ x. Below x (length c.args.named.now) in
    marked_var (ty_view c.args.t.now) c.in-Var.v c.args.named.now e (subst P e c.requires)

pub mark_all-mark-requires : goal.mark_all-mark-requires
mark_all-mark-requires r c =
    let P : ℕ → Type 0 = λ n. Below (ty_view c.t-item.result) n in (
      omega (arith, c.decreases, size_in c.args.ts.now c.loop-t.t-index c.t-item.result c.loop-t-test.true c.t-item.is),
      subst P (sym c.loop-t.invariant.long) (below_in c.args.ts.now c.loop-t.t-index (length c.args.named.now) c.t-item.result c.loop-t-test.true c.t-item.is
          c.requires),
    )

pub mark_all-loop-t-preserved : goal.mark_all-loop-t-preserved
mark_all-loop-t-preserved r c =
    marked_next c.args.ts.now c.loop-t.t-index c.t-item.result c.args.named.now c.loop-t.named c.mark.new.named c.loop-t-test.true c.t-item.is
    c.loop-t.invariant c.mark.ensures
