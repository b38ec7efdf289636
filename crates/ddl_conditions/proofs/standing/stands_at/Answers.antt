use Rattle.std.proofs.Common.{◌∙◌, sym, ap, subst}
use Rattle.ddl_types.specs.Types.{Ty}
use Rattle.ddl_unify.specs.Occurs.{has}
use Rattle.ddl_conditions.specs.Seen.{Noted, PlaceIn}
use Rattle.ddl_conditions.proofs.standing.stands_at.Goals as goal

pub returns : goal.returns
returns c =
    let P : Ty → Type 0 = λ x. Noted (PlaceIn x) c.args.seen.now c.mark_places.new.seen c.args.pending.now.items c.mark_places.new.pending.items in (
      ap (λ (x : Ty). has x c.args.variable) (sym c.in_ok-read.ensures.type_read) ∙ sym c.holds.ensures
          ∙ c.if-holds.false,
      subst P c.in_ok-read.ensures.type_read c.in_ok-mark_places.ensures,
    )
