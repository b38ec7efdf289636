use Rattle.std.proofs.Common.{ap, subst, sym, ◌∙◌}
use Rattle.ddl_bits.specs.Accepted.{ConsAccepted}
use Rattle.ddl_bits.specs.Overlaps.{HasNoOverlap}
use Rattle.ddl_bits.specs.Tree.{Cons}
use Rattle.ddl_bits.specs.View.{layout_view, cons_view}
use Rattle.ddl_bits.proofs.Layers.{layout_view_out}
use Rattle.ddl_bits.proofs.Pairs.{unambiguous_of}
use Rattle.ddl_bits.proofs.Verdicts.{one_width_accepted}
use Rattle.ddl_bits.proofs.verdict.check.Goals as goal

pub first_overlap-requires-clause-accepted : goal.first_overlap-requires-clause-accepted
first_overlap-requires-clause-accepted c =
    let P : Cons → Type 0 = λ cs. ConsAccepted cs c.in-Ok.width in
    subst P (layout_view_out c.args.layout ∙ ap cons_view (sym c.deref.ensures.value))
    (one_width_accepted (layout_view c.args.layout) c.in-Ok.width (sym c.in-Ok.ensures) c.requires).1

pub first_overlap-requires-clause-at_most_128 : goal.first_overlap-requires-clause-at_most_128
first_overlap-requires-clause-at_most_128 c =
    (one_width_accepted (layout_view c.args.layout) c.in-Ok.width (sym c.in-Ok.ensures) c.requires).0

pub invariant_of-result : goal.invariant_of-result
invariant_of-result c =
    let found = one_width_accepted (layout_view c.args.layout) c.in-Ok.width (sym c.in-Ok.ensures) c.requires in
    let seen = layout_view_out c.args.layout ∙ ap cons_view (sym c.deref.ensures.value) in
    record { accepted = (found.0, unambiguous_of (layout_view c.args.layout) (subst HasNoOverlap (sym seen) c.in-None.ensures), found.1) }
