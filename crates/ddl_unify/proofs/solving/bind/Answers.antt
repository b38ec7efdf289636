use Rattle.ddl_unify.proofs.Keeping.{turned_more, grows_like}
use Rattle.ddl_unify.proofs.solving.bind.Goals as goal

pub returns-in-Ok : goal.returns-in-Ok
returns-in-Ok c = λ es b. turned_more c.args.trail.now c.args.v c.args.t c.bind.new.self es c.in-Ok.ensures.bound b

pub returns-in-Err : goal.returns-in-Err
returns-in-Err c = λ es b. grows_like c.args.trail.now c.bind.new.self c.in-Err.ensures.same
