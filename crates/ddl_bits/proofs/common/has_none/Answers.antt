use Rattle.std.proofs.Common.{◌+◌, ◌^◌, Bool, subst, sym, ◌∙◌, arith}
use Rattle.std.proofs.Math.Pow.{pow_mono}
use Rattle.std.proofs.lemmas.Bool.{ne_eqb}
use Rattle.ddl_bits.specs.Overlaps.{HasNone}
use Rattle.ddl_bits.specs.Tree.{parts_fit}
use Rattle.ddl_bits.specs.View.{parts_view}
use Rattle.ddl_bits.proofs.Searching.{none_when, some_when}
use Rattle.ddl_bits.proofs.Sized.{parts_sized}
use Rattle.ddl_bits.proofs.common.has_none.Goals as goal

pub overflow_add-last : goal.overflow_add-last
overflow_add-last c = omega (arith, pow_mono {i = c.args.width} {j = 128} c.requires.at_most_128)

pub parts_fit-requires-clause-sized : goal.parts_fit-requires-clause-sized
parts_fit-requires-clause-sized c = parts_sized (parts_view c.args.parts.now) c.requires.accepted

pub returns-then-parts_below : goal.returns-then-parts_below
returns-then-parts_below c =
    none_when (parts_fit (parts_view c.args.parts.now)) c.args.from (c.args.from + c.last_of.result) (c.args.from + 2 ^ c.args.bits) (omega arith) (omega arith)
    (sym c.parts_below.ensures ∙ c.if-parts_below.true ∙ c.parts_below-2.ensures) c.parts_fit.result c.parts_fit.ensures

pub returns-else-parts_below : goal.returns-else-parts_below
returns-else-parts_below c =
    let P : Bool → Type 0 = HasNone (parts_fit (parts_view c.args.parts.now)) c.args.from (c.args.from + 2 ^ c.args.bits) in
    subst P (sym (ne_eqb c.parts_below.result c.parts_below-2.result c.if-parts_below.false))
    (some_when (parts_fit (parts_view c.args.parts.now)) c.args.from (c.args.from + c.last_of.result) (c.args.from + 2 ^ c.args.bits) (omega arith)
    (omega arith) (λ e. c.if-parts_below.false (c.parts_below.ensures ∙ e ∙ sym c.parts_below-2.ensures)))
