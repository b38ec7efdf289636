use Rattle.std.proofs.Common.{◌≡◌, ◌≤◌, ◌++◌, drop, vec_len}
use Rattle.ddl_modules.specs.Queue.{beyond, imported, places, with_names}
use Rattle.ddl_modules.proofs.queue.add_imports.Given as goal

abbrev pub invariant-loop-import : goal.invariant-loop-import
invariant-loop-import l = record {
  few : vec_len l.names ≤ 257;
  places : places l.initial.names.items (imported l.imports) ≡ l.places.items ++ places l.names.items (imported (drop l.import-index l.imports));
  names : with_names l.initial.names.items (imported l.imports) ≡ with_names l.names.items (imported (drop l.import-index l.imports));
  room : beyond l.initial.names.items l.imports ≡ beyond l.names.items (drop l.import-index l.imports);
}
