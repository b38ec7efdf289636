-- The spelling of a mark with a blank behind it begins with that mark.
use Rattle.std.proofs.Common.{ℕ, List, ◌∷◌, ◌++◌, length, Some, inl, inr, refl, sym, subst}
use Rattle.ddl_token.specs.declared.mark.Mark.{Mark}
use Rattle.ddl_token.specs.declared.mark.Mark.TheVariants as m
use Rattle.ddl_token.specs.declared.token.Tok.TheVariants as t
use Rattle.ddl_token.specs.Spelling.{mark_spelling}
use Rattle.ddl_lex.specs.Pieces.{piece}
use Rattle.ddl_lex.proofs.Longest.{IsRight, piece_right}
use Rattle.ddl_show.proofs.Inked.{IsBlank}

-- the mark is found where this byte stands behind it
abbrev BeginsWith : Mark → ℕ → List ℕ → Type 0
BeginsWith x c rest = IsRight (Some (t.Mark x)) (length (mark_spelling x)) (mark_spelling x ++ c ∷ rest)

-- behind it a space, or a newline
both_blanks : (x : Mark) (rest : List ℕ) → BeginsWith x 32 rest × BeginsWith x 10 rest
unfolding piece
both_blanks m.OrElse rest = (piece_right 0 _ _ _ _ refl, piece_right 0 _ _ _ _ refl)
both_blanks m.Bar rest = (piece_right 0 _ _ _ _ refl, piece_right 0 _ _ _ _ refl)
both_blanks m.OrOr rest = (piece_right 0 _ _ _ _ refl, piece_right 0 _ _ _ _ refl)
both_blanks m.DollarDollar rest = (piece_right 0 _ _ _ _ refl, piece_right 0 _ _ _ _ refl)
both_blanks m.DollarBracket rest = (piece_right 0 _ _ _ _ refl, piece_right 0 _ _ _ _ refl)
both_blanks m.Caret rest = (piece_right 0 _ _ _ _ refl, piece_right 0 _ _ _ _ refl)
both_blanks m.DotDot rest = (piece_right 0 _ _ _ _ refl, piece_right 0 _ _ _ _ refl)
both_blanks m.Dot rest = (piece_right 0 _ _ _ _ refl, piece_right 0 _ _ _ _ refl)
both_blanks m.BitAnd rest = (piece_right 0 _ _ _ _ refl, piece_right 0 _ _ _ _ refl)
both_blanks m.BitOr rest = (piece_right 0 _ _ _ _ refl, piece_right 0 _ _ _ _ refl)
both_blanks m.BitXor rest = (piece_right 0 _ _ _ _ refl, piece_right 0 _ _ _ _ refl)
both_blanks m.Arrow rest = (piece_right 0 _ _ _ _ refl, piece_right 0 _ _ _ _ refl)
both_blanks m.Equals rest = (piece_right 0 _ _ _ _ refl, piece_right 0 _ _ _ _ refl)
both_blanks m.EqualEqual rest = (piece_right 0 _ _ _ _ refl, piece_right 0 _ _ _ _ refl)
both_blanks m.NotEqual rest = (piece_right 0 _ _ _ _ refl, piece_right 0 _ _ _ _ refl)
both_blanks m.Bang rest = (piece_right 0 _ _ _ _ refl, piece_right 0 _ _ _ _ refl)
both_blanks m.Less rest = (piece_right 0 _ _ _ _ refl, piece_right 0 _ _ _ _ refl)
both_blanks m.LessEqual rest = (piece_right 0 _ _ _ _ refl, piece_right 0 _ _ _ _ refl)
both_blanks m.ShiftLeft rest = (piece_right 0 _ _ _ _ refl, piece_right 0 _ _ _ _ refl)
both_blanks m.LessHash rest = (piece_right 0 _ _ _ _ refl, piece_right 0 _ _ _ _ refl)
both_blanks m.Hash rest = (piece_right 0 _ _ _ _ refl, piece_right 0 _ _ _ _ refl)
both_blanks m.Greater rest = (piece_right 0 _ _ _ _ refl, piece_right 0 _ _ _ _ refl)
both_blanks m.ShiftRight rest = (piece_right 0 _ _ _ _ refl, piece_right 0 _ _ _ _ refl)
both_blanks m.GreaterEqual rest = (piece_right 0 _ _ _ _ refl, piece_right 0 _ _ _ _ refl)
both_blanks m.Plus rest = (piece_right 0 _ _ _ _ refl, piece_right 0 _ _ _ _ refl)
both_blanks m.Minus rest = (piece_right 0 _ _ _ _ refl, piece_right 0 _ _ _ _ refl)
both_blanks m.Star rest = (piece_right 0 _ _ _ _ refl, piece_right 0 _ _ _ _ refl)
both_blanks m.Slash rest = (piece_right 0 _ _ _ _ refl, piece_right 0 _ _ _ _ refl)
both_blanks m.Percent rest = (piece_right 0 _ _ _ _ refl, piece_right 0 _ _ _ _ refl)
both_blanks m.Tilde rest = (piece_right 0 _ _ _ _ refl, piece_right 0 _ _ _ _ refl)
both_blanks m.AndAnd rest = (piece_right 0 _ _ _ _ refl, piece_right 0 _ _ _ _ refl)
both_blanks m.OpenParen rest = (piece_right 0 _ _ _ _ refl, piece_right 0 _ _ _ _ refl)
both_blanks m.CloseParen rest = (piece_right 0 _ _ _ _ refl, piece_right 0 _ _ _ _ refl)
both_blanks m.OpenBracket rest = (piece_right 0 _ _ _ _ refl, piece_right 0 _ _ _ _ refl)
both_blanks m.CloseBracket rest = (piece_right 0 _ _ _ _ refl, piece_right 0 _ _ _ _ refl)
both_blanks m.OpenBrace rest = (piece_right 0 _ _ _ _ refl, piece_right 0 _ _ _ _ refl)
both_blanks m.CloseBrace rest = (piece_right 0 _ _ _ _ refl, piece_right 0 _ _ _ _ refl)
both_blanks m.OpenUnion rest = (piece_right 0 _ _ _ _ refl, piece_right 0 _ _ _ _ refl)
both_blanks m.CloseUnion rest = (piece_right 0 _ _ _ _ refl, piece_right 0 _ _ _ _ refl)
both_blanks m.Comma rest = (piece_right 0 _ _ _ _ refl, piece_right 0 _ _ _ _ refl)
both_blanks m.Semicolon rest = (piece_right 0 _ _ _ _ refl, piece_right 0 _ _ _ _ refl)
both_blanks m.Colon rest = (piece_right 0 _ _ _ _ refl, piece_right 0 _ _ _ _ refl)
both_blanks m.Underscore rest = (piece_right 0 _ _ _ _ refl, piece_right 0 _ _ _ _ refl)

pub mark_right : (x : Mark) (c : ℕ) (rest : List ℕ) → IsBlank c → BeginsWith x c rest
mark_right x c rest (inl e) = subst (λ z. BeginsWith x z rest) (sym e) (both_blanks x rest).0
mark_right x c rest (inr e) = subst (λ z. BeginsWith x z rest) (sym e) (both_blanks x rest).1
