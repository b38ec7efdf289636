use Rattle.std.proofs.Common.{arith, rules, ◌≡◌, ℕ, not, ◌-◌, ◌/◌, ◌%◌, ◌^◌, ◌<◌, eqb, [], ◌∷◌, get_or}
use Rattle.std.specs.Int.{bit_at}
use Rattle.ddl_class.specs.Class.{contains}
use Rattle.ddl_class.proofs.Words.{each_word, bit_of_not}
use Rattle.ddl_class.proofs.class.Class.not.Goals as goal

pub returns : goal.returns
unfolding contains
returns c byte inside =
    let xs = c.args.self.words in
    let max : ℕ = 18446744073709551615 in
    let flipped = (max - get_or xs 0 0) ∷ (max - get_or xs 1 0) ∷ (max - get_or xs 2 0) ∷ (max - get_or xs 3 0) ∷ [] in
    let fits : (q : ℕ) → get_or xs q 0 < 2 ^ 64 = λ q. search rules in
    let bit : (q : ℕ) → eqb (bit_at (max - get_or xs q 0) (byte % 64)) 1 ≡ not (eqb (bit_at (get_or xs q 0) (byte % 64)) 1) =
    λ q. bit_of_not (get_or xs q 0) (byte % 64) (fits q) (omega arith) in
    each_word (λ q. eqb (bit_at (get_or flipped q 0) (byte % 64)) 1 ≡ not (eqb (bit_at (get_or xs q 0) (byte % 64)) 1))
    (bit 0) (bit 1) (bit 2) (bit 3) (byte / 64) (omega arith)
