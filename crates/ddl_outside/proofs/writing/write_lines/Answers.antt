use Rattle.std.proofs.Common.{◌≡◌, take, rules}
use Rattle.std.proofs.lemmas.List.{take_all}
use Rattle.ddl_outside.specs.Writing.{IsWrite}
use Rattle.ddl_outside.specs.declared.writing.Written.TheVariants as written_of
use Rattle.ddl_outside.proofs.SinkLemmas.{Writes-trans, WritesPart-more, concat_at, concat_more, take_at}
use Rattle.ddl_outside.proofs.SinkLemmas.{OffersLines-none, OffersLines-more, OffersSome-at}
use Rattle.ddl_outside.proofs.writing.write_lines.Goals as goal

pub loop-line-init : goal.loop-line-init
loop-line-init g c = record { written = search rules; offered = OffersLines-none (g.S.Sink.state c.args.out.now) }

pub returns-in-Failed : goal.returns-in-Failed
returns-in-Failed g c =
    let part : IsWrite (g.S.Sink.state c.loop-line.out) (g.S.Sink.state c.write_whole.new.out) c.line-item.result written_of.Failed =
    rw c.get.ensures at c.in-Failed.ensures
    in (
      WritesPart-more _ _ _ _ _ _ _ (concat_at c.args.lines.now c.loop-line.line-index c.line-item.result c.loop-line-test.true c.line-item.is)
          c.loop-line.invariant.written part.0,
      OffersSome-at (g.S.Sink.state c.args.out.now) (g.S.Sink.state c.loop-line.out) (g.S.Sink.state c.write_whole.new.out) c.args.lines.now
          c.loop-line.line-index c.line-item.result c.loop-line-test.true c.line-item.is c.loop-line.invariant.offered part.1,
    )

pub loop-line-preserved : goal.loop-line-preserved
loop-line-preserved g c =
    let whole : IsWrite (g.S.Sink.state c.loop-line.out) (g.S.Sink.state c.write_whole.new.out) c.line-item.result written_of.Whole =
    rw c.get.ensures at c.in-Whole.ensures
    in
    record {
      written = rw (concat_more c.args.lines.now c.loop-line.line-index c.line-item.result c.loop-line-test.true c.line-item.is)
          (Writes-trans _ _ _ _ _ c.loop-line.invariant.written whole.0);
      offered = rw (take_at c.args.lines.now c.loop-line.line-index c.line-item.result c.loop-line-test.true c.line-item.is)
          (OffersLines-more (g.S.Sink.state c.args.out.now) (g.S.Sink.state c.loop-line.out) (g.S.Sink.state c.write_whole.new.out)
          (take c.loop-line.line-index c.args.lines.now) c.line-item.result c.loop-line.invariant.offered whole.1);
    }

pub returns : goal.returns
returns g c =
    let all : take c.loop-line.line-index c.args.lines.now ≡ c.args.lines.now = take_all c.loop-line.line-index c.args.lines.now c.loop-line-test.false in
    (rw all at c.loop-line.invariant.written, rw all at c.loop-line.invariant.offered)
