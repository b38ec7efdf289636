use Rattle.std.proofs.Common.{◌≡◌, rules, subst}
use Rattle.ddl_types.specs.declared.ty.Ty as program
use Rattle.ddl_types.specs.Types.{Ty, Ty.var}
use Rattle.ddl_types.specs.TyView.{ty_view}
use Rattle.ddl_types.proofs.TyLayers.{layers}
use Rattle.ddl_unify.specs.Solving.{Turned}
use Rattle.ddl_unify.proofs.Keeping.{turned_none, can_same}
use Rattle.ddl_unify.proofs.solving.bind_same.Goals as goal

pub returns-then-v-w : goal.returns-then-v-w
returns-then-v-w c = λ es b. turned_none c.args.trail.now c.args.v c.args.w es c.if-v-w.true b

pub bind-requires : goal.bind-requires
bind-requires c =
    let e : ty_view (program.Ty.Var c.args.w) ≡ var c.args.w = search (rules, layers) in
    can_same c.args.trail.now c.args.v c.args.w (ty_view (program.Ty.Var c.args.w)) e c.if-v-w.false c.requires.v c.requires.w

pub returns : goal.returns
returns c = λ es b.
    let e : ty_view (program.Ty.Var c.args.w) ≡ var c.args.w = search (rules, layers) in
    let P : Ty → Type 0 = λ x. Turned c.bind.result c.args.trail.now es (var c.args.v) x c.bind.new.trail es in
    subst P e (c.bind.ensures es b)
