use Rattle.ddl_unify.proofs.refusal.clash_with.Goals as goal

pub returns-in-Ok : goal.returns-in-Ok
returns-in-Ok c = λ l e. (e, c.in-Ok.ensures)
