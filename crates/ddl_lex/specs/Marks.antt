-- The marks.
use Rattle.std.specs.Prelude.{ℕ, nat_eq, if◌then◌else◌, List, [], ◌∷◌, Option, Some, None}
use Rattle.std.specs.List.{starts_with}
use Rattle.ddl_token.specs.declared.mark.Mark.{Mark}
use Rattle.ddl_token.specs.declared.mark.Mark.TheVariants as m
use Rattle.ddl_token.specs.Spelling.{mark_spelling}

-- every mark: a longer one stands before a shorter one
abbrev pub marks : List Mark
marks =
    m.BitAnd ∷ m.BitOr ∷ m.BitXor ∷ m.OrElse ∷ m.OrOr ∷ m.DollarDollar ∷ m.DollarBracket ∷ m.DotDot ∷ m.Arrow ∷ m.EqualEqual ∷ m.NotEqual ∷
    m.LessEqual ∷ m.ShiftLeft ∷ m.LessHash ∷ m.ShiftRight ∷ m.GreaterEqual ∷ m.AndAnd ∷ m.OpenUnion ∷ m.CloseUnion ∷ m.Bar ∷ m.Caret ∷ m.Dot ∷
    m.Equals ∷ m.Bang ∷ m.Less ∷ m.Hash ∷ m.Greater ∷ m.Plus ∷ m.Minus ∷ m.Star ∷ m.Slash ∷ m.Percent ∷ m.Tilde ∷ m.OpenParen ∷ m.CloseParen ∷
    m.OpenBracket ∷ m.CloseBracket ∷ m.OpenBrace ∷ m.CloseBrace ∷ m.Comma ∷ m.Semicolon ∷ m.Colon ∷ m.Underscore ∷ []

-- the first of these marks with which the text begins
abbrev pub mark_among : List Mark → List ℕ → Option Mark
mark_among [] text = None
mark_among (m ∷ ms) text = if starts_with nat_eq text (mark_spelling m) then Some m else mark_among ms text

-- the longest mark with which the text begins
abbrev pub mark_of : List ℕ → Option Mark
mark_of text = mark_among marks text
