use Rattle.std.proofs.Common.{◌≡◌, drop}
use Rattle.std.specs.Prelude.{find}
use Rattle.ddl_uses.specs.Walks.{is_other, site_view}
use Rattle.ddl_uses.proofs.outer.Outer.other_import.Given as goal

abbrev pub invariant-loop-import : goal.invariant-loop-import
invariant-loop-import l = find (is_other (site_view l.self).units l.text l.first) (drop l.import-index l.imports) ≡ find (is_other (site_view l.self).units l.text l.first) l.imports
