use Rattle.std.proofs.Common.{◌≡◌, drop}
use Rattle.ddl_typed.specs.View.{cases_view}
use Rattle.ddl_typing.specs.Gaps.{is_taken}
use Rattle.ddl_closing.proofs.untaken.is_taken.Given as goal

abbrev pub invariant-loop-case : goal.invariant-loop-case
invariant-loop-case l = is_taken (cases_view l.cases) l.form ≡ is_taken (cases_view (drop l.case-index l.cases)) l.form
