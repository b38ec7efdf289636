use Rattle.std.proofs.Common.{◌≡◌, drop}
use Rattle.ddl_lex.specs.Names.{word_among}
use Rattle.ddl_lex.proofs.words.first_of.Given as goal

abbrev pub invariant-loop-word : goal.invariant-loop-word
invariant-loop-word l = word_among (drop l.word-index l.words) l.name ≡ word_among l.words l.name
