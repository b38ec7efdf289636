use Rattle.std.proofs.Common.{sym}
use Rattle.ddl_types.specs.TyView.{ty_view}
use Rattle.ddl_unify.specs.View.{equations}
use Rattle.ddl_unify.proofs.Keeping.{turned_like, grows_same}
use Rattle.ddl_unify.proofs.solving.split_read.Goals as goal

pub opened-requires-clause-below : goal.opened-requires-clause-below
opened-requires-clause-below c = c.requires.below.0

pub split_opened-requires-clause-below : goal.split_opened-requires-clause-below
split_opened-requires-clause-below c = (c.in-Ok.ensures.below, c.requires.below.1, c.requires.below.2)

pub returns-in-Ok : goal.returns-in-Ok
returns-in-Ok c =
    turned_like c.split_opened.result c.args.trail.now (equations c.args.stack.now.items) (ty_view c.args.left) (ty_view c.in-Ok.left) (ty_view c.args.right)
    c.args.trail.now (equations c.split_opened.new.stack.items) (sym c.in-Ok.ensures.same) c.split_opened.ensures

pub returns-in-Err : goal.returns-in-Err
returns-in-Err c = grows_same c.args.trail.now
