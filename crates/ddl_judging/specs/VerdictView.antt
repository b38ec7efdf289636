-- The verdict that a value of the program stands for.
use Rattle.ddl_judging.specs.declared.judging.Verdict.{Verdict}
use Rattle.ddl_judging.specs.declared.judging.Verdict.TheVariants as V
use Rattle.ddl_judging.specs.Judging as j
use Rattle.ddl_judging.specs.Views.{wrong_view}

abbrev pub verdict_view : Verdict → j.Verdict
verdict_view V.Holds = j.holds
verdict_view (V.False why) = j.false_for (wrong_view why)
verdict_view V.Undecided = j.undecided
