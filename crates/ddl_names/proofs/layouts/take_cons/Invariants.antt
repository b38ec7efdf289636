use Rattle.std.proofs.Common.{[], drop, map}
use Rattle.ddl_tree.specs.ViewModule.{con_view}
use Rattle.ddl_uses.specs.Walks.{site_view}
use Rattle.ddl_uses.specs.Held.{IsSeen, seen_view}
use Rattle.ddl_names.specs.Modules.{con_findings}
use Rattle.ddl_kinds.proofs.Finding.{Leaves}
use Rattle.ddl_names.proofs.layouts.take_cons.Given as goal

abbrev pub invariant-loop-con : goal.invariant-loop-con
invariant-loop-con l =
    Leaves (con_findings (site_view l.outer) [] (map con_view l.cons)) l.initial.uses.items
    (con_findings (site_view l.outer) (seen_view l.seen) (map con_view (drop l.con-index l.cons))) l.uses.items
    × IsSeen l.seen
