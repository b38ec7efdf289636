use Rattle.std.proofs.Common.{◌≡◌, drop}
use Rattle.std.specs.Prelude.{find}
use Rattle.ddl_uses.specs.Bindings.{is_declared}
use Rattle.ddl_uses.specs.Walks.{site_view}
use Rattle.ddl_uses.proofs.outer.Outer.first_import.Given as goal

abbrev pub invariant-loop-import : goal.invariant-loop-import
invariant-loop-import l = find (is_declared (site_view l.self).units l.text) (drop l.import-index l.imports) ≡ find (is_declared (site_view l.self).units l.text) l.imports
