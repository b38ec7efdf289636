use Rattle.std.proofs.Common.{[], drop, map}
use Rattle.ddl_tree.specs.ViewModule.{param_view}
use Rattle.ddl_uses.specs.Walks.{site_view}
use Rattle.ddl_uses.specs.Held.{IsSeen, scope_view, seen_view}
use Rattle.ddl_names.specs.Modules.{param_findings}
use Rattle.ddl_kinds.proofs.Finding.{Leaves}
use Rattle.ddl_names.proofs.params.take_params.Given as goal

abbrev pub invariant-loop-param : goal.invariant-loop-param
invariant-loop-param l =
    Leaves (param_findings (site_view l.outer) l.kind [] (scope_view l.scope) (map param_view l.params)) l.initial.uses.items
    (param_findings (site_view l.outer) l.kind (seen_view l.seen) (scope_view l.scope) (map param_view (drop l.param-index l.params))) l.uses.items
    × IsSeen l.seen
