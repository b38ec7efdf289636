use Rattle.ddl_unify.proofs.solving.await_parts.Goals as goal

pub returns-then-count-above : goal.returns-then-count-above
returns-then-count-above c = λ xs es m a. m
