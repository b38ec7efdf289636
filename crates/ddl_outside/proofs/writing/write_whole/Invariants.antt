use Rattle.std.proofs.Common.{ℕ, ◌≡◌, ◌+◌, length, ◌-◌, ◌≤◌, take}
use Rattle.ddl_outside.specs.Sink.{Writes, OffersPiece}
use Rattle.ddl_outside.proofs.writing.write_whole.Given as goal

abbrev pub invariant-loop-done : goal.invariant-loop-done
invariant-loop-done g l = record {
  within : l.done ≤ length l.piece;
  written : Writes (g.S.Sink.state l.initial.out) (g.S.Sink.state l.out) (take l.done l.piece);
  offered : (left : ℕ) × (l.done + left ≡ length l.piece)
      × OffersPiece (g.S.Sink.state l.initial.out) (g.S.Sink.state l.out) (length l.piece) left;
}

abbrev pub decreases-loop-done : goal.decreases-loop-done
decreases-loop-done g l = length l.piece - l.done
