use Rattle.std.proofs.Common.{◌+ℤ◌, ◌-ℤ◌, ◌*ℤ◌, ◌∙◌, sym, ap, arith}
use Rattle.std.specs.Prelude.{int_div, int_rem}
use Rattle.std.specs.Int.{w128, cast_unsigned}
use Rattle.std.proofs.lemmas.Int.{to_z-of_z}
use Rattle.ddl_types.specs.declared.num.NumType.TheVariants as Ty
use Rattle.ddl_arith.specs.Exact.{settled}
use Rattle.ddl_arith.proofs.Ranges.{settled_sint, as_given, given_first, by_other_than_zero}
use Rattle.ddl_arith.proofs.signed.signed.Goals as goal

pub returns-in-Add : goal.returns-in-Add
returns-in-Add c =
    rw c.in-Add.is
    (settled_sint c.args.width c.checked_add.result _ c.settle.result c.requires.at_most_128 c.checked_add.ensures c.settle.ensures.over c.settle.ensures.exact
    ∙ as_given (λ x y. settled (Ty.Sint c.args.width) (x +ℤ y)) c.args.left c.args.right c.ranges.left c.ranges.right)

pub returns-in-Sub : goal.returns-in-Sub
returns-in-Sub c =
    rw c.in-Sub.is
    (settled_sint c.args.width c.checked_sub.result _ c.settle-in-Sub.result c.requires.at_most_128 c.checked_sub.ensures c.settle-in-Sub.ensures.over
    c.settle-in-Sub.ensures.exact
    ∙ as_given (λ x y. settled (Ty.Sint c.args.width) (x -ℤ y)) c.args.left c.args.right c.ranges.left c.ranges.right)

pub returns-in-Mul : goal.returns-in-Mul
returns-in-Mul c =
    rw c.in-Mul.is
    (settled_sint c.args.width c.checked_mul.result _ c.settle-in-Mul.result c.requires.at_most_128 c.checked_mul.ensures c.settle-in-Mul.ensures.over
    c.settle-in-Mul.ensures.exact
    ∙ as_given (λ x y. settled (Ty.Sint c.args.width) (x *ℤ y)) c.args.left c.args.right c.ranges.left c.ranges.right)

pub returns-else-right-eq0 : goal.returns-else-right-eq0
returns-else-right-eq0 c =
    let exact = given_first _ _ c.checked_div.result _ (omega (
      arith,
      ap (cast_unsigned w128) (to_z-of_z w128 c.args.right c.ranges.right),
      c.if-right-eq0.false,
    )) c.checked_div.ensures in
    rw c.in-Div.is
    (settled_sint c.args.width c.checked_div.result _ c.settle-else-right-eq0.result c.requires.at_most_128 exact c.settle-else-right-eq0.ensures.over
    c.settle-else-right-eq0.ensures.exact
    ∙ as_given (λ x y. settled (Ty.Sint c.args.width) (int_div x y)) c.args.left c.args.right c.ranges.left c.ranges.right
    ∙ sym (by_other_than_zero (Ty.Sint c.args.width) c.args.right (int_div c.args.left c.args.right) c.if-right-eq0.false))

pub returns-else-right-eq0-2 : goal.returns-else-right-eq0-2
returns-else-right-eq0-2 c =
    rw c.in-Rem.is
    (c.settle-else-right-eq0-2.ensures.exact
    ∙ ap (settled (Ty.Sint c.args.width)) (to_z-of_z w128 c.wrapping_rem.result (record { sfits = c.wrapping_rem.type_inv }))
    ∙ ap (settled (Ty.Sint c.args.width)) c.wrapping_rem.ensures
    ∙ as_given (λ x y. settled (Ty.Sint c.args.width) (int_rem x y)) c.args.left c.args.right c.ranges.left c.ranges.right
    ∙ sym (by_other_than_zero (Ty.Sint c.args.width) c.args.right (int_rem c.args.left c.args.right) c.if-right-eq0-2.false))
