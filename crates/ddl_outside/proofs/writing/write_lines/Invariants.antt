use Rattle.std.proofs.Common.{take}
use Rattle.std.specs.List.{concat}
use Rattle.ddl_outside.specs.Sink.{Writes, OffersLines}
use Rattle.ddl_outside.proofs.writing.write_lines.Given as goal

abbrev pub invariant-loop-line : goal.invariant-loop-line
invariant-loop-line g l = record {
  written : Writes (g.S.Sink.state l.initial.out) (g.S.Sink.state l.out) (concat (take l.line-index l.lines));
  offered : OffersLines (g.S.Sink.state l.initial.out) (g.S.Sink.state l.out) (take l.line-index l.lines);
}
