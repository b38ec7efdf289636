-- The cause of each answer.
use Rattle.std.specs.Prelude.{ℕ, List}
use Rattle.ddl_types.specs.Types.{Sub}
use Rattle.ddl_types.specs.TyView.{ty_view}
use Rattle.ddl_unify.specs.Equations.{Equation}
use Rattle.ddl_unify.specs.Refused.{AreHeld}
use Rattle.ddl_growing.specs.declared.refusal.SettleError.{SettleError}
use Rattle.ddl_growing.specs.declared.refusal.SettleError.TheVariants as e
use Rattle.ddl_conditions.specs.Closing.{IsUnmet}
use Rattle.ddl_conditions.specs.Growing.{Group, State}
use Rattle.ddl_conditions.specs.Settled.{AreKept, IsEnd, IsRefused}
use Rattle.ddl_growing.specs.Turns.{Clashes}

-- a group whose first equations are es, with n variables, is settled: the list has grown to its end, with these equations and
-- this solution, and each demand holds or is one of those that are kept
abbrev pub IsSettled : Group → List Equation → ℕ → List Equation → Sub → List ℕ → Type 0
IsSettled g es n accepted f ks = ((s : State) × IsEnd g es n s accepted f) × AreKept g f 0 g.asked ks

-- it is refused: by an equation that is added, the first that those before it do not allow; or, where the list has grown to its
-- end, by a demand
abbrev pub IsUnsettled : Group → List Equation → ℕ → List Equation → Sub → SettleError → Type 0
IsUnsettled g es n accepted f (e.Clash span l r) = (q : Equation) × IsRefused g es n accepted (record { equation = q; span = span })
    × Clashes accepted f q (ty_view l) (ty_view r)
IsUnsettled g es n accepted f (e.Endless span v x) = (q : Equation) × IsRefused g es n accepted (record { equation = q; span = span })
    × AreHeld v (ty_view x) f q.left q.right
IsUnsettled g es n accepted f e.NoMemory = Unit {0}
IsUnsettled g es n accepted f err = ((s : State) × IsEnd g es n s accepted f) × IsUnmet g f err
