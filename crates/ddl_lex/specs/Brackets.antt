-- How many brackets are open.
use Rattle.std.specs.Prelude.{ℕ, suc, List, [], ◌∷◌, Option, Some, None}
use Rattle.ddl_lex.specs.declared.stack.Open.{Open}
use Rattle.ddl_lex.specs.declared.stack.Open.TheVariants.{Items, Bracket}

-- how many brackets are among what is open
abbrev pub bracket_count : List Open → ℕ
bracket_count [] = 0
bracket_count (Items _ ∷ stack) = bracket_count stack
bracket_count (Bracket ∷ stack) = suc (bracket_count stack)

-- the column of the innermost, if it is a list
abbrev pub column : List Open → Option ℕ
column (Items c ∷ _) = Some c
column _ = None

-- the innermost, if something is open
abbrev pub innermost : List Open → Option Open
innermost [] = None
innermost (o ∷ _) = Some o
