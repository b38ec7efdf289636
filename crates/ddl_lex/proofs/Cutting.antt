-- A piece more is cut from the text.
use Rattle.std.proofs.Common.{◌≡◌, ◌<◌, ◌≤◌, ◌≢◌, ◌==◌, ◌^◌, ℕ, ◌+◌, true, List, [], ◌∷◌, ◌++◌, length, drop, take, get_or, Option, Some, None, Ok, refl, subst}
use Rattle.std.proofs.Common.{sym, ap, ◌∙◌, arith, length-append, length-drop, if◌then◌else◌}
use Rattle.std.proofs.Math.Seq.{take-add}
use Rattle.std.proofs.lemmas.Bool.{eq-eqb}
use Rattle.ddl_token.specs.declared.token.Tok.{Tok}
use Rattle.ddl_token.specs.declared.token.Token.{Token}
use Rattle.ddl_lex.specs.declared.place.Place.{Place}
use Rattle.ddl_lex.specs.Pieces.{next_piece}
use Rattle.ddl_lex.proofs.Next.{next_right}
use Rattle.ddl_lex.specs.Places.{line_behind, column_behind, column_after, line_at, column_at}
use Rattle.ddl_lex.specs.Tokens.{Cut, begin, more, place_at, with_token}
use Rattle.ddl_lex.proofs.Standing.{is_full}

-- nothing is cut yet
pub cut_nothing : (text : List ℕ) (tokens : List Token) (at : ℕ) → tokens ≡ [] → at ≡ 0 → Cut text tokens at
cut_nothing text tokens at t a = rw (t, a) begin

line_behind_both : (line : ℕ) (a b : List ℕ) → line_behind line (a ++ b) ≡ line_behind (line_behind line a) b
line_behind_both line [] b = refl
line_behind_both line (x ∷ a) b = line_behind_both (if x == 10 then line + 1 else line) a b

column_behind_both : (column : ℕ) (a b : List ℕ) → column_behind column (a ++ b) ≡ column_behind (column_behind column a) b
column_behind_both column [] b = refl
column_behind_both column (x ∷ a) b = column_behind_both (column_after column x) a b

-- the line and the column behind a piece
pub line_more : (text piece : List ℕ) (at n line line' : ℕ) → line ≡ line_at at text → piece ≡ take n (drop at text) → line' ≡ line_behind line piece
    → line' ≡ line_at (at + n) text
line_more text piece at n line line' l p e = rw (e, l, p, take-add at n text) (sym (line_behind_both 0 (take at text) (take n (drop at text))))

pub column_more : (text piece : List ℕ) (at n column column' : ℕ) → column ≡ column_at at text → piece ≡ take n (drop at text)
    → column' ≡ column_behind column piece → column' ≡ column_at (at + n) text
column_more text piece at n column column' l p e = rw (e, l, p, take-add at n text) (sym (column_behind_both 0 (take at text) (take n (drop at text))))

-- a further token is found only where there is room for it
pub few_more : (tokens : List Token) (place : Place) (to : ℕ) (found : Option Tok) → length tokens ≤ 2 ^ 20 → (is_full tokens ≡ true → found ≡ None)
    → length (with_token tokens place to found) ≤ 2 ^ 20
few_more tokens place to None h room = h
few_more tokens place to (Some tok) h room =
    let different : length tokens ≢ 2 ^ 20 = λ e. (let f : Some tok ≡ None = room (eq-eqb (length tokens) (2 ^ 20) e) in cc) in
    simp length-append (omega arith)

-- one piece more
pub cut_more : (text rest : List ℕ) (tokens next : List Token) (place : Place) (to first n : ℕ) (found : Option Tok) →
    Cut text tokens place.at → length tokens ≤ 2 ^ 20 → rest ≡ drop place.at text → place.line ≡ line_at place.at text → place.column ≡ column_at place.at text
    →
    0 < length rest → first ≡ get_or rest 0 0 → next_piece (is_full tokens) place.at first rest ≡ Ok (found, n) →
    to ≡ place.at + n → next ≡ with_token tokens place to found → Cut text next to
cut_more text rest tokens next place to first n found cut few left line column some first-is there to-is next-is =
    let same : place ≡ place_at text place.at = λ i. record { at = place.at; line = line i; column = column i } in
    let within : place.at < length text = omega (arith, ap length left, length-drop place.at text) in
    let piece = more found n cut within (next_right text rest tokens place.at first found n few left some first-is there) in
    let tokens-are : next ≡ with_token tokens (place_at text place.at) (place.at + n) found =
    next-is ∙ ap (λ p. with_token tokens p to found) same ∙ ap (λ t. with_token tokens (place_at text place.at) t found) to-is in
    subst (λ t. Cut text next t) (sym to-is) (subst (λ ts. Cut text ts (place.at + n)) (sym tokens-are) piece)
