-- The relations on worked bytes.
use Rattle.std.proofs.Common.{[], ◌∷◌, refl, arith}
use Rattle.std.specs.Prelude.{codes}
use Rattle.ddl_lex.specs.declared.error.LexError.TheVariants.{BadByte, OpenText, BadEscape}
use Rattle.ddl_lex.specs.Nesting.{IsComment, close, byte, nested}
use Rattle.ddl_lex.specs.Elements.{IsLiteral, escape, newline, single_quote, plain, none, one_more}
use Rattle.ddl_lex.specs.Pieces.{piece}
use Rattle.ddl_lex.specs.Wrong.{IsWrong}
use Rattle.ddl_lex.proofs.Nested.{comment_counted}
use Rattle.ddl_lex.proofs.Told.{piece_told}

-- these are comments
shortest : IsComment (codes "{--}")
shortest = (refl, refl, close)

inner : IsComment (codes "{-{--}-}")
inner = (refl, refl, nested {inner = codes "-}"} {bytes = codes "-}"} close close)

space : IsComment (codes "{- -}")
space = (refl, refl, byte {bytes = codes "-}"} 32 (refl, refl) close)

-- and these are none
one_dash : IsComment (codes "{-}") → ⊥
one_dash c = let x = comment_counted (codes "}") c.2 in cc

not_closed : IsComment (codes "{-{--}") → ⊥
not_closed c = let x = comment_counted (codes "{--}") c.2 in cc

closed_before : IsComment (codes "{--}-}") → ⊥
closed_before c = let x = comment_counted (codes "-}-}") c.2 in cc

-- "a\n" and '\''
text : IsLiteral 34 (97 ∷ 10 ∷ []) (34 ∷ 97 ∷ 92 ∷ 110 ∷ 34 ∷ [])
text = (
  97 ∷ 92 ∷ 110 ∷ [],
  refl,
  one_more {bytes = 97 ∷ []} {means = 10 ∷ []} {others =
      92 ∷ 110 ∷ []} 97 (plain 97 (λ e. (omega arith)) (λ e. (omega arith)) refl)
      (one_more {bytes = 92 ∷ 110 ∷ []} {means = []} {others = []} 10 (escape newline) none),
)

character : IsLiteral 39 (39 ∷ []) (39 ∷ 92 ∷ 39 ∷ 39 ∷ [])
character = (92 ∷ 39 ∷ [], refl, one_more {bytes = 92 ∷ 39 ∷ []} {means = []} {others = []} 39 (escape single_quote) none)

-- what is wrong: the texts "ab and "\q", the characters '' and 'ab', "a and the byte 1, {-, and @
open_text : IsWrong 11 (34 ∷ 97 ∷ 98 ∷ []) (OpenText 11)
unfolding piece
open_text = piece_told 11 34 (97 ∷ 98 ∷ []) (OpenText 11) refl

no_escape : IsWrong 11 (34 ∷ 92 ∷ 113 ∷ 34 ∷ []) (BadEscape 12)
unfolding piece
no_escape = piece_told 11 34 (92 ∷ 113 ∷ 34 ∷ []) (BadEscape 12) refl

no_byte : IsWrong 0 (39 ∷ 39 ∷ []) (OpenText 0)
unfolding piece
no_byte = piece_told 0 39 (39 ∷ []) (OpenText 0) refl

two_bytes : IsWrong 0 (39 ∷ 97 ∷ 98 ∷ 39 ∷ []) (OpenText 0)
unfolding piece
two_bytes = piece_told 0 39 (97 ∷ 98 ∷ 39 ∷ []) (OpenText 0) refl

control : IsWrong 0 (34 ∷ 97 ∷ 1 ∷ []) (BadByte 2)
unfolding piece
control = piece_told 0 34 (97 ∷ 1 ∷ []) (BadByte 2) refl

open_comment : IsWrong 4 (123 ∷ 45 ∷ []) (OpenText 4)
unfolding piece
open_comment = piece_told 4 123 (45 ∷ []) (OpenText 4) refl

no_form : IsWrong 11 (64 ∷ []) (BadByte 11)
unfolding piece
no_form = piece_told 11 64 [] (BadByte 11) refl
