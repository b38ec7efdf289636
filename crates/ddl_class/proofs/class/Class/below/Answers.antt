use Rattle.std.proofs.Common.{arith, refl, ◌≡◌, ℕ, ◌-◌, ◌*◌, ◌^◌, ◌/◌, ◌%◌, min, eqb, ltb, [], ◌∷◌, get_or, ◌∙◌, ap}
use Rattle.std.specs.Int.{bit_at}
use Rattle.ddl_class.specs.Class.{contains}
use Rattle.ddl_class.proofs.Words.{each_word, bit_of_ones, same_order}
use Rattle.ddl_class.proofs.class.Class.below.Goals as goal

-- a bit of word q, which begins at byte 64 * q
bit_of_word : (bound byte q word count rest : ℕ) → word ≡ 2 ^ count - 1 → count ≡ min rest 64 → rest ≡ bound - 64 * q → byte / 64 ≡ q
    → eqb (bit_at word (byte % 64)) 1 ≡ ltb byte bound
bit_of_word bound byte q word count rest is is_count is_rest at =
    ap (λ w. eqb (bit_at w (byte % 64)) 1) is
    ∙ bit_of_ones count (byte % 64)
    ∙ same_order (byte % 64) count byte bound (λ h. omega arith) (λ h. omega arith)

pub returns : goal.returns
unfolding contains
returns c byte inside =
    let bound = c.args.bound in
    let words = c.lowest_ones.result ∷ c.lowest_ones-2.result ∷ c.lowest_ones-3.result ∷ c.lowest_ones-4.result ∷ [] in
    each_word (λ q. byte / 64 ≡ q → eqb (bit_at (get_or words q 0) (byte % 64)) 1 ≡ ltb byte bound)
    (bit_of_word bound byte 0 _ _ _ c.lowest_ones.ensures c.min.ensures (omega arith))
    (bit_of_word bound byte 1 _ _ _ c.lowest_ones-2.ensures c.min-2.ensures c.saturating_sub.ensures)
    (bit_of_word bound byte 2 _ _ _ c.lowest_ones-3.ensures c.min-3.ensures c.saturating_sub-2.ensures)
    (bit_of_word bound byte 3 _ _ _ c.lowest_ones-4.ensures c.min-4.ensures c.saturating_sub-3.ensures)
    (byte / 64) (omega arith) refl
