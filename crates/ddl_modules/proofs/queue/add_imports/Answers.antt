use Rattle.std.proofs.Common.{◌≡◌, ◌+◌, ◌<◌, ◌≤◌, ◌∷◌, drop, length, ap, arith}
use Rattle.ddl_modules.specs.Queue.{beyond, imported, places, with_name, with_names}
use Rattle.ddl_modules.proofs.QueueLemmas.{imports_from, places_step, names_step, beyond_step}
use Rattle.ddl_modules.proofs.queue.add_imports.Goals as goal

pub loop-import-preserved : goal.loop-import-preserved
loop-import-preserved c =
    let within : c.loop-import.import-index < length c.args.imports.now = c.loop-import-test.true in
    let rest : drop c.loop-import.import-index c.args.imports.now ≡ c.import-item.result ∷ drop (c.loop-import.import-index + 1) c.args.imports.now =
    imports_from c.args.imports.now c.loop-import.import-index c.import-item.result within c.import-item.is in
    let few : length (with_name c.loop-import.names.items c.import-item.result.name.text) ≤ 257 =
    omega (arith, ap length c.in_ok-place.ensures.added, c.in_ok-place.ensures.few, c.add_name.new.names.ok.0) in
    record {
      few = c.in_ok-place.ensures.few;
      places = rw (c.in_ok-push.ensures.items, c.in_ok-place.ensures.added, c.in_ok-place.ensures.place)
          (places_step (places c.args.names.now.items (imported c.args.imports.now)) c.loop-import.places.items c.loop-import.names.items
          (drop c.loop-import.import-index c.args.imports.now) c.import-item.result (drop (c.loop-import.import-index + 1) c.args.imports.now) rest
          c.loop-import.invariant.places);
      names = rw c.in_ok-place.ensures.added
          (names_step (with_names c.args.names.now.items (imported c.args.imports.now)) c.loop-import.names.items
          (drop c.loop-import.import-index c.args.imports.now) c.import-item.result (drop (c.loop-import.import-index + 1) c.args.imports.now) rest
          c.loop-import.invariant.names);
      room = rw c.in_ok-place.ensures.added
          (beyond_step (beyond c.args.names.now.items c.args.imports.now) c.loop-import.names.items
          (drop c.loop-import.import-index c.args.imports.now) c.import-item.result (drop (c.loop-import.import-index + 1) c.args.imports.now) rest few
          c.loop-import.invariant.room);
    }
