use Rattle.ddl_types.specs.Types.{Ty.var}
use Rattle.ddl_types.specs.TyView.{ty_view}
use Rattle.ddl_unify.proofs.Keeping.{turned_right}
use Rattle.ddl_unify.proofs.solving.bind_to.Goals as goal

pub bind_same-requires-clause-v : goal.bind_same-requires-clause-v
bind_same-requires-clause-v c = record { free = c.requires.free; within = c.requires.within; below = c.in-Some.ensures.within c.requires.below }

pub returns-in-Some : goal.returns-in-Some
returns-in-Some c = λ es b.
    turned_right c.bind_same.result c.args.trail.now es (ty_view c.args.t) (var c.in-Some.w) (var c.args.v) c.bind_same.new.trail es c.in-Some.ensures.same
    (c.bind_same.ensures es b)
