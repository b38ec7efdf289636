use Rattle.std.proofs.Common.{◌≡◌, ◌++◌, drop}
use Rattle.ddl_show.specs.Show.{import_lines}
use Rattle.ddl_show.proofs.lines.put_imports.Given as goal

abbrev pub invariant-loop-import : goal.invariant-loop-import
invariant-loop-import l = l.text.items ++ import_lines (drop l.import-index l.imports) ≡ l.initial.text.items ++ import_lines l.imports
