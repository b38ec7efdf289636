use Rattle.std.proofs.Common.{◌^◌, ◌<◌, pos, ◌*ℤ◌, ap, sym, ◌∙◌, arith}
use Rattle.std.specs.Int.{w128}
use Rattle.std.proofs.lemmas.Int.{to_z-of_z}
use Rattle.ddl_types.specs.declared.num.NumType.TheVariants as Ty
use Rattle.ddl_arith.specs.Exact.{settled}
use Rattle.ddl_arith.proofs.Ranges.{settled_sint, near_enough}
use Rattle.ddl_arith.proofs.signed.signed_shift.Goals as goal

pub returns-in-Shl : goal.returns-in-Shl
returns-in-Shl c =
    let near : c.args.places < c.args.width = omega arith in
    rw c.in-Shl.is
    (settled_sint c.args.width c.times_power.result _ c.settle.result c.requires.at_most_128 c.times_power.ensures c.settle.ensures.over c.settle.ensures.exact
    ∙ ap (λ x. settled (Ty.Sint c.args.width) (x *ℤ pos (2 ^ c.args.places))) (to_z-of_z w128 c.args.left c.ranges.left)
    ∙ sym (near_enough (Ty.Sint c.args.width) c.args.places (c.args.left *ℤ pos (2 ^ c.args.places)) near))
