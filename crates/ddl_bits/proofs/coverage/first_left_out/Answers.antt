use Rattle.std.proofs.Common.{◌≡◌, ℕ, suc, ◌+◌, ◌-◌, ◌^◌, Bool, cond, ap, ◌∙◌, arith}
use Rattle.std.proofs.Math.Pow.{pow_mono}
use Rattle.std.proofs.lemmas.Nat.{one_shl}
use Rattle.ddl_bits.specs.Counts.{tally}
use Rattle.ddl_bits.specs.Tree.{cons_fit}
use Rattle.ddl_bits.specs.View.{layout_view}
use Rattle.ddl_bits.proofs.Searching.{pow_half}
use Rattle.ddl_bits.proofs.Tally.{tally_all}
use Rattle.ddl_bits.proofs.coverage.first_left_out.Goals as goal

pub overflow_add-next : goal.overflow_add-next
overflow_add-next c =
    omega (
      arith,
      one_shl (c.loop-bits.bits - 1) 128 (omega (arith, c.loop-bits.invariant.fewer, c.requires.accepted.0)),
      pow_half c.loop-bits.bits (λ e. omega arith),
      c.loop-bits.invariant.within,
      pow_mono {i = c.args.width} {j = 128} c.requires.accepted.0,
    )

pub returns-clause-before : goal.returns-clause-before
returns-clause-before c = tally_all (cons_fit (layout_view c.args.layout.now)) c.loop-bits.number c.loop-bits.invariant.full

pub returns-clause-last : goal.returns-clause-last
returns-clause-last c =
    λ fits.
    let test : ℕ → Bool = cons_fit (layout_view c.args.layout.now) in
    let number = c.loop-bits.number in
    let none : c.loop-bits.bits ≡ 0 = omega arith in
    let power : 2 ^ c.loop-bits.bits ≡ 1 = ap (λ b. 2 ^ b) none in
    let one : number + 2 ^ c.loop-bits.bits ≡ suc number = omega (arith, power) in
    let here : cond {A = ℕ} (test number) 1 0 ≡ 1 = ap {B = ℕ} (λ b. cond b 1 0) fits in
    let full = c.loop-bits.invariant.full in
    let count : tally test (number + 2 ^ c.loop-bits.bits) ≡ number + 2 ^ c.loop-bits.bits = ap (tally test) one ∙ omega (arith, here, full, one) in
    omega (arith, c.loop-bits.invariant.last count, one)
