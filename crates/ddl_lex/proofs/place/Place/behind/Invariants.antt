use Rattle.std.proofs.Common.{◌≡◌, ◌≤◌, ◌+◌, ◌*◌, drop}
use Rattle.ddl_lex.specs.Places.{line_behind, column_behind}
use Rattle.ddl_lex.proofs.place.Place.behind.Given as goal

abbrev pub invariant-loop-byte : goal.invariant-loop-byte
invariant-loop-byte l = record {
  reached : l.place.at ≡ l.fn.self.at + l.byte-index;
  line_fits : l.place.line ≤ l.place.at;
  column_fits : l.place.column ≤ 8 * l.place.at;
  lines : line_behind l.place.line (drop l.byte-index l.bytes) ≡ line_behind l.fn.self.line l.bytes;
  columns : column_behind l.place.column (drop l.byte-index l.bytes) ≡ column_behind l.fn.self.column l.bytes;
}
