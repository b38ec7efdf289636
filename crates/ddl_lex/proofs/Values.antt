-- The value of digits grows with each digit.
use Rattle.std.proofs.Common.{◌≡◌, ◌<◌, ◌≤◌, ℕ, ◌+◌, ◌*◌, List, [], ◌∷◌, length, get_or, drop, subst, arith, suc}
use Rattle.std.proofs.Math.Seq.{drop-cons}
use Rattle.std.proofs.Math.Nat.{mul-le-mul_left}
use Rattle.ddl_token.specs.declared.token.Base.{Base}
use Rattle.ddl_token.specs.declared.token.Base.TheVariants.{Decimal, Hexadecimal, Binary}
use Rattle.ddl_lex.specs.Letters.{digit_value}
use Rattle.ddl_lex.specs.Numbers.{value_behind, radix}

pub value_grows : (radix v : ℕ) (digits : List ℕ) → 0 < radix → v ≤ value_behind radix v digits
value_grows radix v [] h = omega arith
value_grows radix v (d ∷ ds) h =
    let i = value_grows radix (v * radix + digit_value d) ds h in
    let m = mul-le-mul_left v h in
    omega (arith, i, m)

radix_some : (base : Base) → 0 < radix base
radix_some Decimal = omega arith
radix_some Hexadecimal = omega arith
radix_some Binary = omega arith

-- a value that is too large with a further digit is too large with all digits
pub too_wide : (base : Base) (v r i : ℕ) (digits : List ℕ) (wide : ℕ) → r ≡ radix base →
    value_behind (radix base) v (drop i digits) ≡ value_behind (radix base) 0 digits → i < length digits →
    wide ≤ v * r + digit_value (get_or digits i 0) → wide ≤ value_behind (radix base) 0 digits
too_wide base v r i digits wide e so_far h w =
    let w' : wide ≤ v * radix base + digit_value (get_or digits i 0) = subst (λ z. wide ≤ v * z + digit_value (get_or digits i 0)) e w in
    let here = rw (drop-cons digits i 0) at so_far in
    let grows = value_grows (radix base) (v * radix base + digit_value (get_or digits i 0)) (drop (suc i) digits) (radix_some base) in
    omega (arith, here, grows, w')
