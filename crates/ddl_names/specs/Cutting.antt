-- A list and its parts one after the other.
use Rattle.std.specs.Prelude.{ℕ, ◌+◌, ◌-◌, List, [], ◌∷◌, length, take, drop}

-- a list cut at the places where its parts begin, the last part going on to its end
abbrev pub cut_at : {A : Type 0} → List A → List ℕ → List (List A)
cut_at xs [] = []
cut_at xs (f ∷ []) = drop f xs ∷ []
cut_at xs (f ∷ g ∷ fs) = take (g - f) (drop f xs) ∷ cut_at xs (g ∷ fs)

-- where these parts begin, of which the first begins at place n
abbrev pub begins : {A : Type 0} → ℕ → List (List A) → List ℕ
begins n [] = []
begins n (xs ∷ parts) = n ∷ begins (n + length xs) parts
