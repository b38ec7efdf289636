use Rattle.std.proofs.Common.{◌+◌, ◌-◌, ◌*◌, ◌%◌, ◌^◌, Some, None, sym, ◌∙◌, arith}
use Rattle.std.proofs.Math.Pow.{pow_mono}
use Rattle.std.proofs.lemmas.Nat.{one_shl}
use Rattle.ddl_bits.specs.Cuts.{parts_cut}
use Rattle.ddl_bits.specs.Overlaps.{parts_both}
use Rattle.ddl_bits.specs.View.{parts_view}
use Rattle.ddl_bits.proofs.Mixing.{none_at_all}
use Rattle.ddl_bits.proofs.Searching.{first_true, second_true, pow_half, lower_aligned, upper_aligned, upper_half}
use Rattle.ddl_bits.proofs.Sized.{parts_sized}
use Rattle.ddl_bits.proofs.common.+search_range.Goals as goal

pub search_range-requires : goal.search_range-requires
search_range-requires t c = (
  omega arith,
  (
    c.requires.a_accepted,
    (
      c.requires.b_accepted,
      (
        c.requires.a_width,
        (
          c.requires.b_width,
          (
            c.requires.at_most_128,
            (
              omega arith,
              (
                omega (arith, pow_half c.args.bits c.if-bits-eq0.false),
                (2 * c.requires.aligned.0, lower_aligned c.args.from c.args.bits c.requires.aligned.0 c.if-bits-eq0.false c.requires.aligned.1),
              ),
            ),
          ),
        ),
      ),
    ),
  ),
)

pub overflow_add-from : goal.overflow_add-from
overflow_add-from t c =
    omega (
      arith,
      one_shl (c.args.bits - 1) 128 (omega arith),
      pow_half c.args.bits c.if-bits-eq0.false,
      pow_mono {i = c.args.width} {j = 128} c.requires.at_most_128,
    )

pub search_range-requires-in-NoneHere : goal.search_range-requires-in-NoneHere
search_range-requires-in-NoneHere t c = (
  omega arith,
  (
    c.requires.a_accepted,
    (
      c.requires.b_accepted,
      (
        c.requires.a_width,
        (
          c.requires.b_width,
          (
            c.requires.at_most_128,
            (
              omega arith,
              (
                omega (arith, one_shl (c.args.bits - 1) 128 (omega arith), pow_half c.args.bits c.if-bits-eq0.false),
                (
                  2 * c.requires.aligned.0 + 1,
                  upper_aligned c.args.from c.args.bits c.requires.aligned.0 (1 * 2 ^ (c.args.bits - 1) % 2 ^ 128) c.if-bits-eq0.false
                      c.requires.aligned.1 (one_shl (c.args.bits - 1) 128 (omega arith)),
                ),
              ),
            ),
          ),
        ),
      ),
    ),
  ),
)

pub returns-in-Number : goal.returns-in-Number
returns-in-Number t c =
    (c.in-Number.ensures.0, omega (arith, c.in-Number.ensures.1, pow_half c.args.bits c.if-bits-eq0.false), c.in-Number.ensures.2, c.in-Number.ensures.3)

pub returns-in-Number-search_range : goal.returns-in-Number-search_range
returns-in-Number-search_range t c =
    let shift = one_shl (c.args.bits - 1) 128 (omega arith) in
    let half = pow_half c.args.bits c.if-bits-eq0.false in
    upper_half (parts_both (parts_view c.args.a.now) (parts_view c.args.b.now)) c.args.from (c.args.from + 2 ^ (c.args.bits - 1))
    (c.args.from + 1 * 2 ^ (c.args.bits - 1) % 2 ^ 128) (c.args.from + 1 * 2 ^ (c.args.bits - 1) % 2 ^ 128 + 2 ^ (c.args.bits - 1))
    (c.args.from + 2 ^ c.args.bits) (Some c.in-Number-search_range.number) (omega (arith, shift)) (omega (arith, shift, half)) c.in-NoneHere.ensures
    (omega arith) c.in-Number-search_range.ensures

pub may_share-requires-clause-a_sized : goal.may_share-requires-clause-a_sized
may_share-requires-clause-a_sized t c = parts_sized (parts_view c.args.a.now) c.requires.a_accepted

pub may_share-requires-clause-b_sized : goal.may_share-requires-clause-b_sized
may_share-requires-clause-b_sized t c = parts_sized (parts_view c.args.b.now) c.requires.b_accepted

pub both_cut-is_cut-requires-clause-a_sized : goal.both_cut-is_cut-requires-clause-a_sized
both_cut-is_cut-requires-clause-a_sized t c = parts_sized (parts_view c.args.a.now) c.requires.a_accepted

pub both_cut-is_cut-requires-clause-b_sized : goal.both_cut-is_cut-requires-clause-b_sized
both_cut-is_cut-requires-clause-b_sized t c = parts_sized (parts_view c.args.b.now) c.requires.b_accepted

pub returns-then-is_cut : goal.returns-then-is_cut
returns-then-is_cut t c =
    let a = parts_view c.args.a.now in
    let b = parts_view c.args.b.now in
    let shift = one_shl (c.args.bits - 1) 128 (omega arith) in
    let half = pow_half c.args.bits c.if-bits-eq0.false in
    let none = upper_half (parts_both a b) c.args.from (c.args.from + 2 ^ (c.args.bits - 1)) (c.args.from + 1 * 2 ^ (c.args.bits - 1) % 2 ^ 128)
    (c.args.from + 1 * 2 ^ (c.args.bits - 1) % 2 ^ 128 + 2 ^ (c.args.bits - 1)) (c.args.from + 2 ^ c.args.bits) None (omega (arith, shift))
    (omega (arith, shift, half)) c.in-NoneHere.ensures (omega arith) c.in-NoneHere-search_range.ensures in
    let cut = sym c.both_cut-is_cut.ensures ∙ c.if-is_cut.true in
    none_at_all a b c.args.from c.args.bits c.requires.aligned.0 c.requires.aligned.1 (first_true (parts_cut a c.args.bits) (parts_cut b c.args.bits) cut)
    (second_true (parts_cut a c.args.bits) (parts_cut b c.args.bits) cut) c.if-has_none.ensures c.if-has_none-2.ensures none

pub returns-else-is_cut : goal.returns-else-is_cut
returns-else-is_cut t c =
    let shift = one_shl (c.args.bits - 1) 128 (omega arith) in
    let half = pow_half c.args.bits c.if-bits-eq0.false in
    upper_half (parts_both (parts_view c.args.a.now) (parts_view c.args.b.now)) c.args.from (c.args.from + 2 ^ (c.args.bits - 1))
    (c.args.from + 1 * 2 ^ (c.args.bits - 1) % 2 ^ 128) (c.args.from + 1 * 2 ^ (c.args.bits - 1) % 2 ^ 128 + 2 ^ (c.args.bits - 1))
    (c.args.from + 2 ^ c.args.bits) None (omega (arith, shift)) (omega (arith, shift, half)) c.in-NoneHere.ensures (omega arith)
    c.in-NoneHere-search_range.ensures
