use Rattle.ddl_types.specs.TyView.{ty_view}
use Rattle.ddl_unify.specs.View.{equations}
use Rattle.ddl_unify.proofs.Going.{turned_opened}
use Rattle.ddl_unify.proofs.Keeping.{grows_same}
use Rattle.ddl_unify.proofs.solving.split_opened.Goals as goal

pub opened-requires-clause-below : goal.opened-requires-clause-below
opened-requires-clause-below c = c.requires.below.1

pub returns-in-Ok : goal.returns-in-Ok
returns-in-Ok c =
    turned_opened c.split.result c.args.trail.now (equations c.args.stack.now.items) (ty_view c.args.left) (ty_view c.args.right) (ty_view c.in-Ok.right)
    (equations c.split.new.stack.items) c.requires.below c.in-Ok.ensures c.split.ensures

pub returns-in-Err : goal.returns-in-Err
returns-in-Err c = grows_same c.args.trail.now
