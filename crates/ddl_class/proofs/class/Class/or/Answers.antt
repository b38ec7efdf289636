use Rattle.std.proofs.Common.{arith, ◌≡◌, ℕ, ◌||◌, ◌/◌, ◌%◌, eqb, bit_or, [], ◌∷◌, get_or}
use Rattle.std.specs.Int.{bit_at}
use Rattle.ddl_class.specs.Class.{contains}
use Rattle.ddl_class.proofs.Words.{each_word, bit_of_or}
use Rattle.ddl_class.proofs.class.Class.or.Goals as goal

pub returns : goal.returns
unfolding contains
returns c byte inside =
    let xs = c.args.self.words in
    let ys = c.args.other.words in
    let joined = bit_or (get_or xs 0 0) (get_or ys 0 0) ∷ bit_or (get_or xs 1 0) (get_or ys 1 0) ∷ bit_or (get_or xs 2 0) (get_or ys 2 0)
    ∷ bit_or (get_or xs 3 0) (get_or ys 3 0) ∷ [] in
    let bit = λ (q : ℕ). bit_of_or (get_or xs q 0) (get_or ys q 0) (byte % 64) in
    each_word (λ q. eqb (bit_at (get_or joined q 0) (byte % 64)) 1 ≡ eqb (bit_at (get_or xs q 0) (byte % 64)) 1 || eqb (bit_at (get_or ys q 0) (byte % 64)) 1)
    (bit 0) (bit 1) (bit 2) (bit 3) (byte / 64) (omega arith)
