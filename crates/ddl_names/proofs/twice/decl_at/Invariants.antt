use Rattle.std.proofs.Common.{◌≡◌, drop}
use Rattle.std.specs.Prelude.{flat_map, option_map, slice_get}
use Rattle.ddl_kinds.specs.Meanings.{decl_name}
use Rattle.ddl_uses.specs.Walks.{loaded}
use Rattle.ddl_names.proofs.twice.decl_at.Given as goal

abbrev pub invariant-loop-unit : goal.invariant-loop-unit
invariant-loop-unit l = option_map (λ d. (decl_name d).span) (slice_get (flat_map (λ u. u.tree.decls) (loaded (drop l.unit-index l.units))) l.left)
    ≡ option_map (λ d. (decl_name d).span) (slice_get (flat_map (λ u. u.tree.decls) (loaded l.units)) l.place)
