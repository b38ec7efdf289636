use Rattle.std.proofs.Common.{◌+◌, ◌-◌, ◌*◌, ◌^◌, ◌<◌, pos, ◌-ℤ◌, sym, ◌∙◌, refl, arith}
use Rattle.std.proofs.lemmas.Int.{ints}
use Rattle.ddl_types.specs.declared.num.NumType.TheVariants as Ty
use Rattle.ddl_arith.proofs.Residues.{settled_uint_wide, settled_uint_low}
use Rattle.ddl_arith.proofs.Ranges.{near_enough}
use Rattle.ddl_arith.proofs.unsigned.unsigned.Goals as goal

pub returns-in-Add : goal.returns-in-Add
returns-in-Add c =
    rw c.in-Add.is (c.settle.ensures ∙ settled_uint_low c.args.width (c.args.left + c.args.right) _ c.requires refl)

pub returns-in-Sub : goal.returns-in-Sub
returns-in-Sub c =
    rw c.in-Sub.is
    (c.settle-in-Sub.ensures
    ∙ settled_uint_wide c.args.width (pos c.args.left -ℤ pos c.args.right) (c.args.left + (2 ^ 128 - c.args.right)) _ c.requires refl
    (let fits = c.ranges.right.fits in omega (arith, ints)))

pub returns-in-Mul : goal.returns-in-Mul
returns-in-Mul c =
    rw c.in-Mul.is (c.settle-in-Mul.ensures ∙ settled_uint_low c.args.width (c.args.left * c.args.right) _ c.requires refl)

pub returns-else-right-from : goal.returns-else-right-from
returns-else-right-from c =
    let near : c.args.right < c.args.width = omega arith in
    rw c.in-Shl.is
    (c.settle-else-right-from.ensures
    ∙ settled_uint_low c.args.width (c.args.left * 2 ^ c.args.right) _ c.requires refl
    ∙ sym (near_enough (Ty.Uint c.args.width) c.args.right (pos (c.args.left * 2 ^ c.args.right)) near))
