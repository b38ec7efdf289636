use Rattle.std.proofs.Common.{ap, subst, sym, ◌∙◌, arith, rules, tests}
use Rattle.std.proofs.lemmas.Grind.{common_steps}
use Rattle.std.proofs.lemmas.List.{get_or_read}
use Rattle.ddl_bits.specs.declared.layout.Layout.{the_lemmas}
use Rattle.ddl_bits.specs.Cuts.{parts_cut, cons_cut}
use Rattle.ddl_bits.specs.Tree.{Cons, parts_width, PartsSized, ConsSized}
use Rattle.ddl_bits.specs.View.{cons_view, parts_view}
use Rattle.ddl_bits.proofs.Layers.{layout_view_out, con_view_out}
use Rattle.ddl_bits.proofs.Steps.{no_con, only_con, not_cut}
use Rattle.ddl_bits.proofs.cuts.+cut.Goals as goal

pub layout_cut-parts_cut-requires : goal.layout_cut-parts_cut-requires
layout_cut-parts_cut-requires t c =
    let con = c.con-item.result in
    let whole = layout_view_out c.args.layout.now ∙ ap cons_view (sym c.as_slice.ensures.value)
    ∙ only_con c.as_slice.result.now con (omega (arith, c.in-len1.len_at_least, c.in-len1.len_below)) c.con-item.is in
    let P : Cons → Type 0 = λ cs. ConsSized cs c.args.width in
    let sized = subst P whole c.requires.sized in
    let seen = con_view_out con ∙ ap parts_view (sym c.deref.ensures.value) in (
      first_of (search (tests, rules, the_lemmas, get_or_read), grind (the_lemmas, arith, common_steps)),
      (subst PartsSized seen sized.1, (sym (ap parts_width seen) ∙ sized.0, c.requires.at_most_128)),
    )

pub layout_cut-returns-in-empty : goal.layout_cut-returns-in-empty
layout_cut-returns-in-empty t c =
    sym (ap (λ cs. cons_cut cs c.args.place) (layout_view_out c.args.layout.now ∙ ap cons_view (sym c.as_slice.ensures.value)
    ∙ no_con c.as_slice.result.now c.in-empty.len_below))

pub layout_cut-returns-in-len1 : goal.layout_cut-returns-in-len1
layout_cut-returns-in-len1 t c =
    let con = c.con-item.result in
    let whole = layout_view_out c.args.layout.now ∙ ap cons_view (sym c.as_slice.ensures.value)
    ∙ only_con c.as_slice.result.now con (omega (arith, c.in-len1.len_at_least, c.in-len1.len_below)) c.con-item.is in
    let seen = con_view_out con ∙ ap parts_view (sym c.deref.ensures.value) in
    c.parts_cut.ensures
    ∙ sym (ap (λ ps. parts_cut ps c.args.place) seen)
    ∙ sym (ap (λ cs. cons_cut cs c.args.place) whole)

pub layout_cut-returns-in-len2-up : goal.layout_cut-returns-in-len2-up
layout_cut-returns-in-len2-up t c =
    sym (ap (λ cs. cons_cut cs c.args.place) (layout_view_out c.args.layout.now ∙ ap cons_view (sym c.as_slice.ensures.value))
    ∙ not_cut c.as_slice.result.now c.args.place c.in-len2-up.len_at_least)
