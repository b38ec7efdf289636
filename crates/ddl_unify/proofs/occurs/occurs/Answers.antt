use Rattle.std.proofs.Common.{◌∙◌, sym}
use Rattle.ddl_types.specs.TyView.{ty_view}
use Rattle.ddl_unify.specs.Trails.{bindings}
use Rattle.ddl_unify.proofs.Naming.{read_absent, on_false}
use Rattle.ddl_unify.proofs.occurs.occurs.Goals as goal

pub returns-then-not-is_named : goal.returns-then-not-is_named
returns-then-not-is_named c =
    c.holds.ensures ∙ sym (read_absent (bindings c.args.trail.now) c.args.v (ty_view c.args.t.now) c.requires
    (on_false c.is_named.result _ c.is_named.ensures c.if-not-is_named.true))
