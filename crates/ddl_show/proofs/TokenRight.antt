-- A token's spelling with a blank behind it begins with that token.
use Rattle.std.proofs.Common.{ℕ, List, ◌∷◌, ◌++◌, length, Some, None, inl, inr, refl, sym, subst}
use Rattle.ddl_token.specs.declared.token.Tok.{Tok}
use Rattle.ddl_token.specs.declared.token.Tok.TheVariants as t
use Rattle.ddl_lex.specs.Pieces.{piece}
use Rattle.ddl_lex.proofs.Longest.{IsRight, piece_right}
use Rattle.ddl_show.specs.Show.{spelled}
use Rattle.ddl_show.specs.ReadBack.{IsTokenForm}
use Rattle.ddl_show.proofs.Inked.{IsBlank}
use Rattle.ddl_show.proofs.MarkRight.{mark_right}
use Rattle.ddl_show.proofs.NamedRight.{word_right, upper_right, lower_right, class_right}
use Rattle.ddl_show.proofs.NumberRight.{number_right}
use Rattle.ddl_show.proofs.QuotedRight.{char_right, text_right}

pub blank_right : (c : ℕ) (rest : List ℕ) → IsBlank c → IsRight None 1 (c ∷ rest)
unfolding piece
blank_right c rest (inl e) = subst (λ z. IsRight None 1 (z ∷ rest)) (sym e) (piece_right 0 32 rest None 1 refl)
blank_right c rest (inr e) = subst (λ z. IsRight None 1 (z ∷ rest)) (sym e) (piece_right 0 10 rest None 1 refl)

pub token_right : (x : Tok) (c : ℕ) (rest : List ℕ) → IsBlank c → IsTokenForm x → IsRight (Some x) (length (spelled x)) (spelled x ++ c ∷ rest)
unfolding spelled
token_right (t.Word w) c rest blank form = word_right w c rest blank
token_right (t.Mark m) c rest blank form = mark_right m c rest blank
token_right (t.Upper x) c rest blank form = upper_right x c rest blank form.0 form.1
token_right (t.Lower x) c rest blank form = lower_right x c rest blank form.0 form.1
token_right (t.Class x) c rest blank form = class_right x c rest blank form
token_right (t.Number value base n) c rest blank form = number_right value base n c rest blank form.0 form.1 form.2
token_right (t.Char b) c rest blank form = char_right b c rest form
token_right (t.Text bs) c rest blank form = text_right bs c rest form
