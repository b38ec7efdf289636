-- Facts on four words of 64 bits, and on one bit of a word.
use Rattle.std.proofs.Common.{◌≡◌, ℕ, zero, suc, ◌-◌, ◌^◌, ◌<◌, ◌≤◌, max, not, ◌||◌, eqb, ltb, bit_or, refl, sym, ◌∙◌, ap, inl, inr, arith}
use Rattle.std.specs.Int.{bit_at, w64}
use Rattle.std.proofs.lemmas.Nat.Bits.{bit_at_or, bit_at_not, bit_at-lt, bit_at_ones, bit_at_ones_above}
use Rattle.std.proofs.lemmas.Bool.{cases_lt, lt-ltb, le-ltb}

-- what holds at each of the four words
pub each_word : (P : ℕ → Type 0) → P 0 → P 1 → P 2 → P 3 → (q : ℕ) → q < 4 → P q
each_word P a b c d zero h = a
each_word P a b c d (suc zero) h = b
each_word P a b c d (suc (suc zero)) h = c
each_word P a b c d (suc (suc (suc zero))) h = d
each_word P a b c d (suc (suc (suc (suc q)))) h = absurd (omega arith)

-- a bit is 0 or 1
zero_or_one : (P : ℕ → Type 0) → P 0 → P 1 → (n : ℕ) → n < 2 → P n
zero_or_one P a b zero h = a
zero_or_one P a b (suc zero) h = b
zero_or_one P a b (suc (suc n)) h = absurd (omega arith)

-- a bit of `x | y`
pub bit_of_or : (x y r : ℕ) → eqb (bit_at (bit_or x y) r) 1 ≡ eqb (bit_at x r) 1 || eqb (bit_at y r) 1
bit_of_or x y r =
    rw bit_at_or
    (zero_or_one (λ m. eqb (max m (bit_at y r)) 1 ≡ eqb m 1 || eqb (bit_at y r) 1)
    (zero_or_one (λ n. eqb (max 0 n) 1 ≡ eqb 0 1 || eqb n 1) refl refl (bit_at y r) (bit_at-lt y r))
    (zero_or_one (λ n. eqb (max 1 n) 1 ≡ eqb 1 1 || eqb n 1) refl refl (bit_at y r) (bit_at-lt y r))
    (bit_at x r) (bit_at-lt x r))

-- a bit of `!x`
pub bit_of_not : (x r : ℕ) → x < 2 ^ 64 → r < 64 → eqb (bit_at (18446744073709551615 - x) r) 1 ≡ not (eqb (bit_at x r) 1)
bit_of_not x r fits within =
    rw (bit_at_not w64 x r fits within)
    (zero_or_one (λ m. eqb (1 - m) 1 ≡ not (eqb m 1)) refl refl (bit_at x r) (bit_at-lt x r))

-- a bit of a word whose lowest n bits are set
pub bit_of_ones : (n r : ℕ) → eqb (bit_at (2 ^ n - 1) r) 1 ≡ ltb r n
bit_of_ones n r =
    elim (cases_lt r n) [
      | inl below ↦ ap (λ b. eqb b 1) (bit_at_ones n r below) ∙ sym (lt-ltb r n below)
      | inr above ↦ ap (λ b. eqb b 1) (bit_at_ones_above n r above) ∙ sym (le-ltb r n above)
    ]

-- two tests of order that pass at the same time
pub same_order : (a b c d : ℕ) → (a < b → c < d) → (b ≤ a → d ≤ c) → ltb a b ≡ ltb c d
same_order a b c d below above =
    elim (cases_lt a b) [
      | inl h ↦ lt-ltb a b h ∙ sym (lt-ltb c d (below h))
      | inr h ↦ le-ltb a b h ∙ sym (le-ltb c d (above h))
    ]
