use Rattle.std.proofs.Common.{refl, arith, ◌≡◌, ℕ, ◌/◌, ◌%◌, eqb, false, [], ◌∷◌, get_or}
use Rattle.std.specs.Int.{bit_at}
use Rattle.std.proofs.lemmas.Nat.Bits.{bit_at-zero}
use Rattle.ddl_class.specs.Class.{contains}
use Rattle.ddl_class.proofs.Words.{each_word}
use Rattle.ddl_class.proofs.class.Class.empty.Goals as goal

pub returns : goal.returns
unfolding contains
returns c byte inside =
    let no_bit : (r : ℕ) → eqb (bit_at 0 r) 1 ≡ false = λ r. rw bit_at-zero refl in
    each_word (λ q. eqb (bit_at (get_or (0 ∷ 0 ∷ 0 ∷ 0 ∷ []) q 0) (byte % 64)) 1 ≡ false)
    (no_bit _) (no_bit _) (no_bit _) (no_bit _) (byte / 64) (omega arith)
