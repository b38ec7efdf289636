use Rattle.std.proofs.Common.{◌≡◌, ℕ, zero, suc, ◌-◌, ◌≤◌, ◌<◌, ◌^◌, ℤ, pos, negsuc, ◌-ℤ◌, ltb, arith, ap, sym, ◌∙◌, refl, if◌then◌else◌}
use Rattle.std.specs.Int.{w128, cast_signed, cast_unsigned}
use Rattle.std.proofs.lemmas.Int.{to_z-of_z, to_z_pos}
use Rattle.std.proofs.lemmas.Bool.{lt-ltb, le-ltb}
use Rattle.ddl_arith.proofs.Powers.{below_from_shr, above_from_shr, pow_le, pow_half, mod_of_ones}
use Rattle.ddl_arith.proofs.bits.with_sign.Goals as goal

minus_one_less : (m : ℕ) → negsuc 0 -ℤ pos m ≡ negsuc m
minus_one_less zero = refl
minus_one_less (suc m) = ap negsuc (omega arith)

not_negative : (bits half : ℕ) (other : ℤ) → bits < half → bits < 2 ^ 127 → cast_signed w128 bits ≡ (if ltb bits half then pos bits else other)
not_negative bits half other below fits =
    to_z_pos w128 bits fits ∙ sym (ap (λ t. if t then pos bits else other) (lt-ltb bits half below))

negative : (bits half missing : ℕ) (n : ℤ) → half ≤ bits → missing < 2 ^ 127 → n ≡ cast_signed w128 missing
    → cast_signed w128 (cast_unsigned w128 (negsuc 0 -ℤ n)) ≡ (if ltb bits half then pos bits else negsuc missing)
negative bits half missing n above fits is =
    ap (λ m. cast_signed w128 (cast_unsigned w128 (negsuc 0 -ℤ m))) (is ∙ to_z_pos w128 missing fits)
    ∙ ap (λ m. cast_signed w128 (cast_unsigned w128 m)) (minus_one_less missing)
    ∙ to_z-of_z w128 (negsuc missing) (record { sfits = fits })
    ∙ sym (ap (λ t. if t then pos bits else negsuc missing) (le-ltb bits half above))

pub overflow_cast-result : goal.overflow_cast-result
overflow_cast-result c =
    let small = below_from_shr c.args.bits (c.args.width - 1) c.if-bits-width-eq0.true in
    let bound = pow_le (c.args.width - 1) 127 (omega arith) in
    record { sfits = omega arith }

pub overflow_sub-result : goal.overflow_sub-result
overflow_sub-result c =
    let mask = mod_of_ones c.args.width c.requires.at_most_128 in
    let e = c.lowest_bits.ensures in
    omega arith

pub returns-then-bits-width-eq0 : goal.returns-then-bits-width-eq0
returns-then-bits-width-eq0 c =
    let small = below_from_shr c.args.bits (c.args.width - 1) c.if-bits-width-eq0.true in
    let bound = pow_le (c.args.width - 1) 127 (omega arith) in
    not_negative c.args.bits (2 ^ (c.args.width - 1)) _ small (omega arith)

pub returns-else-bits-width-eq0 : goal.returns-else-bits-width-eq0
returns-else-bits-width-eq0 c =
    let large = above_from_shr c.args.bits (c.args.width - 1) c.if-bits-width-eq0.false in
    let bound = pow_le (c.args.width - 1) 127 (omega arith) in
    let half = pow_half c.args.width c.requires.at_least_one in
    let mask = mod_of_ones c.args.width c.requires.at_most_128 in
    let e : c.lowest_bits.result ≡ 2 ^ c.args.width - 1 = c.lowest_bits.ensures ∙ mask in
    let fits : 2 ^ c.args.width - 1 - c.args.bits < 2 ^ 127 = omega arith in
    negative c.args.bits (2 ^ (c.args.width - 1)) (2 ^ c.args.width - 1 - c.args.bits) _ large fits (ap (λ m. cast_signed w128 (m - c.args.bits)) e)
