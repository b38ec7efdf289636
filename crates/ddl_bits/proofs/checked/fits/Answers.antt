use Rattle.std.proofs.Common.{ap, subst, sym, ◌∙◌}
use Rattle.ddl_bits.specs.Tree.{ConsSized, Cons, place_of}
use Rattle.ddl_bits.specs.View.{layout_view, cons_view}
use Rattle.ddl_bits.proofs.Layers.{layout_view_out}
use Rattle.ddl_bits.proofs.Sized.{cons_sized}
use Rattle.ddl_bits.proofs.checked.fits.Goals as goal

pub first_that_fits-requires-clause-sized : goal.first_that_fits-requires-clause-sized
first_that_fits-requires-clause-sized c =
    let layout = c.args.checked.now.layout in
    let seen = layout_view_out layout ∙ ap cons_view (sym c.deref.ensures.value) in
    let P : Cons → Type 0 = λ cs. ConsSized cs c.args.checked.now.width in
    subst P seen (cons_sized (layout_view layout) c.args.checked.now.width c.args.checked.now.accepted.2)

pub returns : goal.returns
returns c =
    let layout = c.args.checked.now.layout in
    c.first_that_fits.ensures ∙ sym (ap (λ cs. place_of cs c.args.number) (layout_view_out layout ∙ ap cons_view (sym c.deref.ensures.value)))
