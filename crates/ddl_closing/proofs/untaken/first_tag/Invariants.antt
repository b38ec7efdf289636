use Rattle.std.proofs.Common.{◌≡◌, drop, map, None}
use Rattle.ddl_ops.specs.declared.pattern.Pattern.TheVariants as to
use Rattle.ddl_typed.specs.View.{cases_view}
use Rattle.ddl_typing.specs.Gaps.{first_untaken}
use Rattle.ddl_closing.proofs.untaken.first_tag.Given as goal

abbrev pub invariant-loop-name : goal.invariant-loop-name
invariant-loop-name l = first_untaken (map (λ x. to.Tag x None) l.names) (cases_view l.cases)
    ≡ first_untaken (map (λ x. to.Tag x None) (drop l.name-index l.names)) (cases_view l.cases)
