-- The text of a module is cut into its tokens.
use Rattle.std.proofs.Common.{◌≡◌, ◌≤◌, ◌<◌, ◌^◌, ℕ, suc, ◌+◌, List, [], ◌∷◌, ◌++◌, length, drop, Option, Some, None, refl, ap, sym, subst, ◌∙◌, arith}
use Rattle.std.proofs.Common.{append_assoc, length-append}
use Rattle.std.proofs.lemmas.List.{append-nil}
use Rattle.std.proofs.Math.Seq.{drop-drop, drop-append_seam}
use Rattle.ddl_token.specs.declared.token.Tok.{Tok}
use Rattle.ddl_token.specs.declared.token.Token.{Token}
use Rattle.ddl_lex.specs.Tokens.{Cut, more, IsPiece, HasRoom, place_at}
use Rattle.ddl_lex.proofs.Longest.{IsRight}
use Rattle.ddl_show.specs.Show.{spelled}
use Rattle.ddl_show.specs.ReadBack.{AreTokenForms, kinds}
use Rattle.ddl_show.proofs.Inked.{Inked, none, one}
use Rattle.ddl_show.proofs.TokenRight.{token_right, blank_right}

-- what is right at a place is a piece there
piece_at : (text rest : List ℕ) (tokens : List Token) (at : ℕ) (found : Option Tok) (n : ℕ) → drop at text ≡ rest → IsRight found n rest → HasRoom tokens found
    → IsPiece text tokens at found n
piece_at text rest tokens at found n e right room = let here = subst (IsRight found n) (sym e) right in (here.0, here.1, here.2, room)

-- behind the first bytes of what is left
behind : (text front back : List ℕ) (at n : ℕ) → drop at text ≡ front ++ back → n ≡ length front → drop (at + n) text ≡ back
behind text front back at n e l = sym (drop-drop n at text) ∙ ap (drop n) e ∙ ap (λ z. drop z (front ++ back)) l ∙ drop-append_seam front back

-- from a place on, the text is cut into these tokens
abbrev CutsOn : List ℕ → List Token → List Tok → Type 0
CutsOn text tokens ts = (others : List Token) × Cut text (tokens ++ others) (length text) × (kinds others ≡ ts)

pub cut_on : (text : List ℕ) {ts : List Tok} {left : List ℕ} → Inked ts left → (tokens : List Token) (at : ℕ) → AreTokenForms ts →
    at + length left ≡ length text → drop at text ≡ left → length tokens + length ts ≤ 2 ^ 20 → Cut text tokens at → CutsOn text tokens ts
cut_on text none tokens at forms size rest few cut =
    let end : at ≡ length text = omega (arith, size) in
    ([], subst (λ z. Cut text z (length text)) (sym (append-nil tokens)) (subst (Cut text tokens) end cut), refl)
cut_on text (one {ts = us} {text = left} t c blank inked) tokens at forms size rest few cut =
    let n = length (spelled t) in
    let sized : length (spelled t ++ c ∷ left) ≡ n + suc (length left) = length-append (spelled t) (c ∷ left) in
    let right = token_right t c left blank forms.0 in
    let within : at < length text = omega (arith, size, sized) in
    let room : length tokens < 2 ^ 20 = omega (arith, few) in
    let next : Token = record { kind = t; line = (place_at text at).line; col = (place_at text at).column; «from» = at; to = at + n } in
    let first : Cut text (tokens ++ next ∷ []) (at + n) = more (Some t) n cut within
    (piece_at text (spelled t ++ c ∷ left) tokens at (Some t) n rest right room) in
    let rest' : drop (at + n) text ≡ c ∷ left = behind text (spelled t) (c ∷ left) at n rest refl in
    let within' : at + n < length text = omega (arith, size, sized) in
    let second : Cut text (tokens ++ next ∷ []) (at + n + 1) =
    more None 1 first within' (piece_at text (c ∷ left) (tokens ++ next ∷ []) (at + n) None 1 rest' (blank_right c left blank) tt) in
    let rest'' : drop (at + n + 1) text ≡ left = behind text (c ∷ []) left (at + n) 1 rest' refl in
    let longer : length (tokens ++ next ∷ []) ≡ length tokens + 1 = length-append tokens (next ∷ []) in
    let on = cut_on text inked (tokens ++ next ∷ []) (at + n + 1) forms.1 (omega (arith, size, sized)) rest'' (omega (arith, few, longer)) second in
    (next ∷ on.0, subst (λ z. Cut text z (length text)) (append_assoc tokens (next ∷ []) on.0) on.1, ap (λ z. t ∷ z) on.2)
