use Rattle.ddl_types.specs.Types.{Ty.var}
use Rattle.ddl_types.specs.TyView.{ty_view}
use Rattle.ddl_unify.specs.View.{equations}
use Rattle.ddl_unify.proofs.Keeping.{turned_flip, turned_right}
use Rattle.ddl_unify.proofs.solving.step_right.Goals as goal

pub bind_to-requires : goal.bind_to-requires
bind_to-requires c = record { free = c.in-Some.ensures.free; within = c.in-Some.ensures.within c.requires.below.1; below = c.requires.below.0 }

pub returns-in-Some : goal.returns-in-Some
returns-in-Some c =
    turned_right c.bind_to.result c.args.trail.now (equations c.args.stack.now.items) (ty_view c.args.right) (var c.in-Some.v) (ty_view c.args.left)
    c.bind_to.new.trail (equations c.args.stack.now.items) c.in-Some.ensures.same
    (turned_flip c.bind_to.result c.args.trail.now (equations c.args.stack.now.items) (var c.in-Some.v) (ty_view c.args.left) c.bind_to.new.trail
    (equations c.args.stack.now.items) (c.bind_to.ensures (equations c.args.stack.now.items) c.requires.below.2))
