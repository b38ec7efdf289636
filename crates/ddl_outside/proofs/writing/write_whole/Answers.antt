use Rattle.std.proofs.Common.{ℕ, ◌≡◌, ◌+◌, ◌-◌, ◌<◌, length, take, drop, subst, arith, rules, length-drop}
use Rattle.std.proofs.lemmas.List.{take_rest, take_all}
use Rattle.ddl_outside.specs.Sink.{OffersPiece}
use Rattle.ddl_outside.proofs.SinkLemmas.{Writes-more, Writes-failed, OffersPiece-none, OffersPiece-more, OffersPiece-same}
use Rattle.ddl_outside.proofs.writing.write_whole.Goals as goal

pub loop-done-init : goal.loop-done-init
loop-done-init g c =
    record {
      within = search rules;
      written = search rules;
      offered = (length c.args.piece.now, omega arith, OffersPiece-none (g.S.Sink.state c.args.out.now) (length c.args.piece.now));
    }

pub returns-in-Failed : goal.returns-in-Failed
returns-in-Failed g c =
    let failed = c.in-Failed.ensures.answer in
    let offered = c.loop-done.invariant.offered in
    let some : 0 < offered.0 = omega (arith, offered.1, c.loop-done-test.true) in (
      Writes-failed _ _ _ c.loop-done.done c.args.piece.now c.loop-done-test.true c.loop-done.invariant.written failed.0 failed.1,
      (
        offered.0,
        some,
        OffersPiece-same (g.S.Sink.state c.args.out.now) (g.S.Sink.state c.loop-done.out) (g.S.Sink.state c.write.new.self)
            (length c.args.piece.now) offered.0 offered.2 failed.2,
      ),
    )

pub loop-done-preserved : goal.loop-done-preserved
loop-done-preserved g c =
    let took = rw take_rest at c.in-Took.ensures.answer in
    let offered = c.loop-done.invariant.offered in
    let left : ℕ = length (drop c.loop-done.done c.args.piece.now) - c.in-Took.count in
    let before : offered.0 ≡ c.in-Took.count + left = omega (arith, offered.1, took.1, c.loop-done-test.true, length-drop {A = ℕ}) in
    let after : c.loop-done.done + c.in-Took.count + left ≡ length c.args.piece.now = omega (arith, offered.1, before) in
    record {
      within = search rules;
      written = Writes-more _ _ _ c.loop-done.done c.in-Took.count c.args.piece.now c.loop-done.invariant.written took.2;
      offered = (
        left,
        after,
        OffersPiece-more (g.S.Sink.state c.args.out.now) (g.S.Sink.state c.loop-done.out) (g.S.Sink.state c.write.new.self) (length c.args.piece.now)
            c.in-Took.count left took.0
            (subst (OffersPiece (g.S.Sink.state c.args.out.now) (g.S.Sink.state c.loop-done.out) (length c.args.piece.now)) before offered.2) took.3,
      );
    }

pub returns : goal.returns
returns g c =
    let offered = c.loop-done.invariant.offered in
    let none : offered.0 ≡ 0 = omega (arith, offered.1, c.loop-done-test.false) in
    let all : take c.loop-done.done c.args.piece.now ≡ c.args.piece.now = take_all c.loop-done.done c.args.piece.now c.loop-done-test.false in (
      rw all at c.loop-done.invariant.written,
      subst (OffersPiece (g.S.Sink.state c.args.out.now) (g.S.Sink.state c.loop-done.out) (length c.args.piece.now))
          none offered.2,
    )
