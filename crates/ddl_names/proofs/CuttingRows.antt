-- Worked rows: a list and its parts.
use Rattle.std.proofs.Common.{◌≡◌, ℕ, List, [], ◌∷◌, refl}
use Rattle.ddl_names.specs.Cutting.{begins, cut_at}

abbrev parts : List (List ℕ)
parts = (7 ∷ 8 ∷ []) ∷ [] ∷ (9 ∷ []) ∷ []

-- a part without elements begins where the next one does
places : begins 0 parts ≡ 0 ∷ 2 ∷ 2 ∷ []
places = refl

cut : cut_at (7 ∷ 8 ∷ 9 ∷ []) (0 ∷ 2 ∷ 2 ∷ []) ≡ parts
cut = refl

-- without a place there is no part
uncut : cut_at {A = ℕ} (7 ∷ []) [] ≡ []
uncut = refl
