use Rattle.std.proofs.Common.{◌≡◌, ◌+◌, drop, map}
use Rattle.std.specs.Prelude.{option_map}
use Rattle.ddl_outside.specs.Named.{name_of, place_of}
use Rattle.ddl_outside.proofs.named.place.Given as goal

abbrev pub invariant-loop-at : goal.invariant-loop-at
invariant-loop-at g l = place_of (map name_of l.entries) l.name ≡ option_map (λ n. n + l.at) (place_of (drop l.at (map name_of l.entries)) l.name)
