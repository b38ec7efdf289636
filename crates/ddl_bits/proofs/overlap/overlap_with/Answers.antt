use Rattle.std.proofs.Common.{◌≡◌, ◌<◌, length, refl, ap, ◌∙◌, inl, inr, arith}
use Rattle.std.proofs.lemmas.Bool.{cases_lt}
use Rattle.ddl_bits.specs.Overlaps.{fits_at, fits_both, parts_both}
use Rattle.ddl_bits.specs.View.{con_view, cons_view}
use Rattle.ddl_bits.proofs.Pairs.{accepted_at, both_are, fits_at_over, least_same}
use Rattle.ddl_bits.proofs.Searching.{second_false}
use Rattle.ddl_bits.proofs.overlap.overlap_with.Goals as goal

pub cons_common-requires-clause-a_accepted : goal.cons_common-requires-clause-a_accepted
cons_common-requires-clause-a_accepted c =
    (accepted_at c.args.cons.now c.args.first c.index-cons-first.result c.args.width c.requires.inside c.index-cons-first.is c.requires.accepted).1

pub cons_common-requires-clause-b_accepted : goal.cons_common-requires-clause-b_accepted
cons_common-requires-clause-b_accepted c =
    (accepted_at c.args.cons.now c.loop-second.second c.index-cons-second.result c.args.width (omega arith) c.index-cons-second.is c.requires.accepted).1

pub cons_common-requires-clause-a_width : goal.cons_common-requires-clause-a_width
cons_common-requires-clause-a_width c =
    (accepted_at c.args.cons.now c.args.first c.index-cons-first.result c.args.width c.requires.inside c.index-cons-first.is c.requires.accepted).0

pub cons_common-requires-clause-b_width : goal.cons_common-requires-clause-b_width
cons_common-requires-clause-b_width c =
    (accepted_at c.args.cons.now c.loop-second.second c.index-cons-second.result c.args.width (omega arith) c.index-cons-second.is c.requires.accepted).0

pub returns-in-Some : goal.returns-in-Some
returns-in-Some c =
    let cons = c.args.cons.now in
    let second = c.loop-second.second in
    let inside : second < length cons = omega arith in (
      refl,
      record {
        order = omega arith;
        number = least_same (fits_both (cons_view cons) c.args.first second)
            (parts_both (con_view c.index-cons-first.result) (con_view c.index-cons-second.result)) c.in-Some.number
            (λ n. both_are cons c.args.first second c.index-cons-first.result c.index-cons-second.result n c.requires.inside c.index-cons-first.is inside
            c.index-cons-second.is)
            c.in-Some.ensures;
        none_before = c.loop-second.invariant;
      },
    )

pub loop-second-preserved : goal.loop-second-preserved
loop-second-preserved c =
    λ j m above below.
    let cons = c.args.cons.now in
    let second = c.loop-second.second in
    let inside : second < length cons = omega arith in
    elim (cases_lt j second) [
      | inl before ↦ c.loop-second.invariant j m above before
      | inr here ↦
          let e : j ≡ second = omega arith in
          ap (λ q. fits_both (cons_view cons) c.args.first q m) e
          ∙ both_are cons c.args.first second c.index-cons-first.result c.index-cons-second.result m c.requires.inside c.index-cons-first.is inside
          c.index-cons-second.is
          ∙ c.in_default.ensures m
    ]

pub returns : goal.returns
returns c =
    λ j m above.
    elim (cases_lt j (length c.args.cons.now)) [
      | inl inside ↦ c.loop-second.invariant j m above (omega arith)
      | inr outside ↦ second_false (fits_at (cons_view c.args.cons.now) c.args.first m) (fits_at (cons_view c.args.cons.now) j m)
          (fits_at_over c.args.cons.now j m outside)
    ]
