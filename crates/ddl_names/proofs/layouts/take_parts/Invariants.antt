use Rattle.std.proofs.Common.{[], drop, map}
use Rattle.ddl_tree.specs.ViewModule.{part_view}
use Rattle.ddl_uses.specs.Walks.{site_view}
use Rattle.ddl_uses.specs.Held.{IsSeen, seen_view}
use Rattle.ddl_names.specs.Modules.{part_findings}
use Rattle.ddl_kinds.proofs.Finding.{Leaves}
use Rattle.ddl_names.proofs.layouts.take_parts.Given as goal

abbrev pub invariant-loop-part : goal.invariant-loop-part
invariant-loop-part l =
    Leaves (part_findings (site_view l.outer) [] (map part_view l.parts)) l.initial.uses.items
    (part_findings (site_view l.outer) (seen_view l.seen) (map part_view (drop l.part-index l.parts))) l.uses.items
    × IsSeen l.seen
