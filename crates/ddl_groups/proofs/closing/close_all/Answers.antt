use Rattle.std.proofs.Common.{ℕ, ◌<◌, length, slice_index, ◌∙◌, arith, length-set}
use Rattle.ddl_groups.specs.declared.marks.Mark.TheVariants.{Closed}
use Rattle.ddl_groups.proofs.Marked.{more_closed, more_others, no_more_unseen}
use Rattle.ddl_groups.proofs.closing.close_all.Goals as goal

pub loop-place-preserved : goal.loop-place-preserved
loop-place-preserved c =
    let v : ℕ = slice_index c.args.path.now c.loop-place.place in
    let known : (v < length c.args.marks.now.items) × (v < length c.args.labels.now.items) = c.requires.known c.loop-place.place 0 c.loop-place-test.true in
    let marks_in : v < length c.loop-place.marks.items = rw c.loop-place.invariant.long.0 known.0 in
    let labels_in : v < length c.loop-place.labels.items = rw c.loop-place.invariant.long.1 known.1 in
    record {
      long = (
        length-set c.loop-place.marks.items v Closed ∙ c.loop-place.invariant.long.0,
        length-set c.loop-place.labels.items v c.args.label
            ∙ c.loop-place.invariant.long.1,
      );
      closed = more_closed c.args.path.now c.args.head c.args.label c.loop-place.place c.loop-place.marks.items c.args.marks.now.items c.loop-place.labels.items
          c.args.labels.now.items marks_in labels_in
          c.loop-place.invariant.closed;
      others = more_others c.args.path.now c.args.head c.args.label c.loop-place.place c.loop-place.marks.items c.args.marks.now.items c.loop-place.labels.items
          c.args.labels.now.items marks_in labels_in
          c.loop-place.invariant.others (omega arith);
      fewer = omega (arith, no_more_unseen c.loop-place.marks.items v marks_in, c.loop-place.invariant.fewer);
    }
