-- All forms, by their files.
use Rattle.std.proofs.Common.{ℕ, List}
use Rattle.ddl_core.specs.Core.{Form, Alternatives, Function, give, perform, none, bind, both, attempt, call, case_, loop, again, inside, none_left, when}
use Rattle.ddl_core.specs.Meaning.{Lower}
use Rattle.ddl_emission.proofs.Runs.{Blocks}
use Rattle.ddl_emission.proofs.Context.{Simulates, SimulatesAll, CallRuns, TurnRuns}
use Rattle.ddl_emission.proofs.Leaves.{give_runs, none_runs, again_runs, call_runs}
use Rattle.ddl_emission.proofs.Doing.{perform_runs}
use Rattle.ddl_emission.proofs.Binding.{bind_form, inside_form}
use Rattle.ddl_emission.proofs.Choosing.{both_form, attempt_form}
use Rattle.ddl_emission.proofs.Switching.{case_form}
use Rattle.ddl_emission.proofs.Looping.{loop_form}

module _ (code : Blocks) (fs : List Function) (lower : Lower) (d : ℕ) (hc : CallRuns code fs lower d) (ht : TurnRuns code fs lower d) where
  mutual
    pub form_runs : (g : Form) → Simulates code fs lower d g
    form_runs (give x) = give_runs code fs lower d x
    form_runs (perform op xs span) = perform_runs code fs lower d op xs span
    form_runs none = none_runs code fs lower d
    form_runs (bind ty g k) = bind_form code fs lower d ty g k (form_runs g) (form_runs k)
    form_runs (both l r) = both_form code fs lower d l r (form_runs l) (form_runs r)
    form_runs (attempt ty l k r) = attempt_form code fs lower d ty l k r (form_runs l) (form_runs k) (form_runs r)
    form_runs (call f xs) = call_runs code fs lower d hc f xs
    form_runs (case_ x as_ other) = case_form code fs lower d x as_ other (forms_run as_) (form_runs other)
    form_runs (loop tys xs g) = loop_form code fs lower d ht tys xs g
    form_runs (again xs) = again_runs code fs lower d xs
    form_runs (inside name g) = inside_form code fs lower d name g (form_runs g)

    pub forms_run : (as_ : Alternatives) → SimulatesAll code fs lower d as_
    forms_run none_left = tt
    forms_run (when p ty g as_) = (form_runs g, forms_run as_)
