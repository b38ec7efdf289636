use Rattle.std.proofs.Common.{◌-◌, ◌^◌, pos, negsuc, ltb, mod-eq_of_lt, if◌then◌else◌, ap, sym, ◌∙◌, arith}
use Rattle.std.specs.Prelude.{unsigned_abs}
use Rattle.std.specs.Int.{w128}
use Rattle.std.proofs.lemmas.Int.{to_z-of_z}
use Rattle.ddl_types.specs.declared.num.Num.TheVariants.{Uint, Sint}
use Rattle.ddl_types.specs.Num.{whole}
use Rattle.ddl_arith.proofs.Residues.{cut_uint, cut_sint}
use Rattle.ddl_arith.proofs.casts.cut.Goals as goal

pub returns-in-Uint : goal.returns-in-Uint
returns-in-Uint c =
    let width = rw c.in-Uint.is at c.requires in
    rw c.in-Uint.is
    (ap Uint c.lowest_bits.ensures
    ∙ sym (ap (λ z. Uint (unsigned_abs z)) (cut_uint c.in-Uint.width (whole c.args.n) c.bits_of-bits.result width.1 c.bits_of-bits.ensures)))

pub returns-in-Sint : goal.returns-in-Sint
returns-in-Sint c =
    let width = rw c.in-Sint.is at c.requires in
    let n = c.in-Sint.width in
    rw c.in-Sint.is
    (ap Sint
    (to_z-of_z w128 c.with_sign.result (record { sfits = c.with_sign.type_inv })
    ∙ c.with_sign.ensures
    ∙ ap (λ low. if ltb low (2 ^ (n - 1)) then pos low else negsuc (2 ^ n - 1 - low)) c.lowest_bits-in-Sint.ensures
    ∙ sym (cut_sint n (whole c.args.n) c.bits_of-bits.result width.0 width.1 c.bits_of-bits.ensures)))

pub returns-in-Int : goal.returns-in-Int
returns-in-Int c =
    rw c.in-Int.is
    (ap Sint
    (to_z-of_z w128 c.with_sign-in-Int.result (record { sfits = c.with_sign-in-Int.type_inv })
    ∙ c.with_sign-in-Int.ensures
    ∙ ap (λ low. if ltb low (2 ^ 127) then pos low else negsuc (2 ^ 128 - 1 - low)) (sym (mod-eq_of_lt c.bits_of-bits.type_inv))
    ∙ sym (cut_sint 128 (whole c.args.n) c.bits_of-bits.result (omega arith) (omega arith) c.bits_of-bits.ensures)))
