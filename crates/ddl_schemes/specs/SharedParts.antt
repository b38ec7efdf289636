-- The arguments of a place as they are seen from other groups.
use Rattle.std.specs.Prelude.{ℕ, nat_le, if◌then◌else◌}
use Rattle.ddl_types.specs.Types.{Tys}
use Rattle.ddl_judging.specs.Shapes.{fresh}
use Rattle.ddl_schemes.specs.Renaming.{shared_all}

abbrev pub shared_parts : ℕ → ℕ → ℕ → Tys → Tys
shared_parts first n p ts = if nat_le first p then fresh n 0 else shared_all first n ts
