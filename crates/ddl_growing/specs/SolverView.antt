-- A solver as turns see it.
use Rattle.std.specs.Prelude.{ℕ, List}
use Rattle.ddl_unify.specs.declared.store.Bound.{Bound}
use Rattle.ddl_unify.specs.declared.store.Pair.{Pair}
use Rattle.ddl_unify.specs.State as s
use Rattle.ddl_growing.specs.Turns.{Solved}

abbrev pub solved : (List Pair × List Bound × ℕ) → Solved
solved z = record { accepted = s.accepted z; solution = s.solution z; variables = s.variables z }
