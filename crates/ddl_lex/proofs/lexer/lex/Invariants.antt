use Rattle.std.proofs.Common.{◌≡◌, ◌≤◌, ◌*◌, ◌^◌, length, drop}
use Rattle.ddl_lex.specs.Places.{line_at, column_at}
use Rattle.ddl_lex.specs.Tokens.{Cut}
use Rattle.ddl_lex.proofs.lexer.lex.Given as goal

abbrev pub invariant-loop-first : goal.invariant-loop-first
invariant-loop-first l = record {
  cut : Cut l.text l.tokens.items l.place.at;
  few : length l.tokens.items ≤ 2 ^ 20;
  left : l.rest ≡ drop l.place.at l.text;
  within : l.place.at ≤ length l.text;
  lines : l.place.line ≡ line_at l.place.at l.text;
  columns : l.place.column ≡ column_at l.place.at l.text;
  line_fits : l.place.line ≤ l.place.at;
  column_fits : l.place.column ≤ 8 * l.place.at;
}

abbrev pub decreases-loop-first : goal.decreases-loop-first
decreases-loop-first l = length l.rest
