-- Comments that nest, as bytes.
use Rattle.std.specs.Prelude.{◌≡◌, ℕ, Bool, false, ◌&&◌, ◌==◌, List, [], ◌∷◌, ◌++◌}

-- `{-` opens a comment
abbrev pub opens : ℕ → ℕ → Bool
opens a b = a == 123 && b == 45

-- `-}` ends one
abbrev pub ends : ℕ → ℕ → Bool
ends a b = a == 45 && b == 125

-- neither stands at the front
abbrev pub NoSign : List ℕ → Type 0
NoSign (a ∷ b ∷ _) = (opens a b ≡ false) × (ends a b ≡ false)
NoSign _ = Unit {0}

-- What is behind a `{-`, to the `-}` that ends its comment: at once that `-}`, or first a byte at which no
-- sign stands, or first a comment more with all that is inside it.
pub data EndsComment : List ℕ → Type 0 where
  close : EndsComment (45 ∷ 125 ∷ [])
  byte : {bytes : List ℕ} (b : ℕ) → NoSign (b ∷ bytes) → EndsComment bytes → EndsComment (b ∷ bytes)
  nested : {inner bytes : List ℕ} → EndsComment inner → EndsComment bytes → EndsComment (123 ∷ 45 ∷ inner ++ bytes)

-- `{-`, and the comment ends where the bytes end
abbrev pub IsComment : List ℕ → Type 0
IsComment (a ∷ b ∷ bs) = (a ≡ 123) × (b ≡ 45) × EndsComment bs
IsComment _ = ⊥
