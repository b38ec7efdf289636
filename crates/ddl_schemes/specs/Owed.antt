-- Why a walk ends: each step leaves less to be walked.
use Rattle.std.specs.Prelude.{ℕ, zero, suc, ◌+◌, ◌==◌, List, [], ◌∷◌, map, Bool, if◌then◌else◌}
use Rattle.ddl_types.specs.Types.{Ty, Sub, on}
use Rattle.ddl_unify.specs.Occurs.{size}
use Rattle.ddl_judging.specs.Shapes.{Shape}

abbrev pub sizes : List Ty → ℕ
sizes [] = 0
sizes (t ∷ ts) = size t + sizes ts

-- the size of a place's members as they are solved, where it may still be opened
abbrev pub closed : Sub → Shape → Bool → ℕ
closed f s seen = if s.vars == 0 then (if seen then 0 else sizes (map (λ t. on t f) s.types)) else 0

-- the same of all places that were not seen
abbrev pub owed : List Shape → Sub → (ℕ → Bool) → ℕ
owed [] f seen = 0
owed (s ∷ ss) f seen = closed f s (seen zero) + owed ss f (λ p. seen (suc p))
