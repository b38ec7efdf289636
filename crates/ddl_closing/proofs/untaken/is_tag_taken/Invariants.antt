use Rattle.std.proofs.Common.{◌≡◌, drop, None}
use Rattle.ddl_ops.specs.declared.pattern.Pattern.TheVariants as to
use Rattle.ddl_typed.specs.View.{cases_view}
use Rattle.ddl_typing.specs.Gaps.{is_taken}
use Rattle.ddl_closing.proofs.untaken.is_tag_taken.Given as goal

abbrev pub invariant-loop-case : goal.invariant-loop-case
invariant-loop-case l = is_taken (cases_view l.cases) (to.Tag l.name None) ≡ is_taken (cases_view (drop l.case-index l.cases)) (to.Tag l.name None)
