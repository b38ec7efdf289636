use Rattle.std.proofs.Common.{ap, sym, ◌∙◌, arith}
use Rattle.ddl_bits.specs.Tree.{too_wide_from, other_width_from}
use Rattle.ddl_bits.specs.View.{layout_view, cons_view}
use Rattle.ddl_bits.proofs.Layers.{layout_view_out}
use Rattle.ddl_bits.proofs.Steps.{few_bits, one_width_found}
use Rattle.ddl_bits.proofs.one_width.one_width.Goals as goal

pub first_of_another_width-requires : goal.first_of_another_width-requires
first_of_another_width-requires c =
    let seen = layout_view_out c.args.layout.now ∙ ap cons_view (sym c.deref.ensures.value) in
    let few = few_bits 0 (layout_view c.args.layout.now) (ap (too_wide_from 0) seen ∙ sym c.in-None.ensures) in
    omega (arith, c.layout_bits-width.ensures, few)

pub returns-in-Some-first_of_another_width : goal.returns-in-Some-first_of_another_width
returns-in-Some-first_of_another_width c =
    let seen = layout_view_out c.args.layout.now ∙ ap cons_view (sym c.deref.ensures.value) in
    let seen_again = layout_view_out c.args.layout.now ∙ ap cons_view (sym c.deref-in-None.ensures.value) in
    one_width_found (layout_view c.args.layout.now) c.layout_bits-width.result _ (ap (too_wide_from 0) seen
    ∙ sym c.in-None.ensures) c.layout_bits-width.ensures (c.in-Some-first_of_another_width.ensures
    ∙ sym (ap (other_width_from c.layout_bits-width.result 0) seen_again))

pub returns-in-None-first_of_another_width : goal.returns-in-None-first_of_another_width
returns-in-None-first_of_another_width c =
    let seen = layout_view_out c.args.layout.now ∙ ap cons_view (sym c.deref.ensures.value) in
    let seen_again = layout_view_out c.args.layout.now ∙ ap cons_view (sym c.deref-in-None.ensures.value) in
    one_width_found (layout_view c.args.layout.now) c.layout_bits-width.result _ (ap (too_wide_from 0) seen
    ∙ sym c.in-None.ensures) c.layout_bits-width.ensures (c.in-None-first_of_another_width.ensures
    ∙ sym (ap (other_width_from c.layout_bits-width.result 0) seen_again))
