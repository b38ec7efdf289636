use Rattle.std.proofs.Common.{◌≡◌, ℕ, ◌+◌, ◌-◌, ℤ, Bool, ◌*◌, ◌^◌, ◌<◌, ltb, ap, sym, ◌∙◌, arith}
use Rattle.std.specs.Int.Signed.{mag}
use Rattle.std.specs.Int.{w128, cast_signed, cast_unsigned}
use Rattle.std.specs.Prelude.{FitsSigned}
use Rattle.std.proofs.lemmas.Int.{to_z-of_z}
use Rattle.std.proofs.lemmas.Bool.{ltb-true, ltb-false}
use Rattle.std.proofs.lemmas.Nat.{pow-add, pow_pos}
use Rattle.ddl_types.specs.declared.num.NumType.TheVariants as Ty
use Rattle.ddl_types.specs.Num.{in_range}
use Rattle.ddl_arith.proofs.Ranges.{sint_by_size, product_fits, product_over, product_bits}
use Rattle.ddl_arith.proofs.signed.times_power.Goals as goal

rest_times : (places : ℕ) → places < 128 → 2 ^ (128 - places - 1) * 2 ^ places ≡ 2 ^ 127
rest_times places h =
    let e : (128 - places - 1) + places ≡ 127 = omega arith in
    sym (pow-add 2 (128 - places - 1) places) ∙ ap (λ k. 2 ^ k) e

-- the test, of the number as the callee is given it
by_size : (width : ℕ) (z : ℤ) (b : Bool) → FitsSigned w128 z → b ≡ in_range (Ty.Sint width) (cast_signed w128 (cast_unsigned w128 z))
    → ltb (mag z) (2 ^ (width - 1)) ≡ b
by_size width z b fits test = sym (sint_by_size width z) ∙ sym (ap (in_range (Ty.Sint width)) (to_z-of_z w128 z fits)) ∙ sym test

pub returns-then-is_sint : goal.returns-then-is_sint
returns-then-is_sint c =
    let small = ltb-true (mag c.args.left) (2 ^ (128 - c.args.places - 1)) (by_size (128 - c.args.places) c.args.left _ c.ranges.left c.if-is_sint.ensures) in
    let fits = product_fits c.args.left (2 ^ (128 - c.args.places - 1)) (2 ^ c.args.places) (pow_pos c.args.places) (rest_times c.args.places c.requires) small
    in
    (fits, product_bits c.args.left (2 ^ c.args.places) (pow_pos c.args.places) c.ranges.left fits)

pub returns-else-is_sint : goal.returns-else-is_sint
returns-else-is_sint c fits =
    let large = ltb-false (mag c.args.left) (2 ^ (128 - c.args.places - 1)) (by_size (128 - c.args.places) c.args.left _ c.ranges.left c.if-is_sint.ensures) in
    product_over c.args.left (2 ^ (128 - c.args.places - 1)) (2 ^ c.args.places) (pow_pos c.args.places) (rest_times c.args.places c.requires) large fits
