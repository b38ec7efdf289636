-- What is found next is the longest form at its place, and there is room for it.
use Rattle.std.proofs.Common.{◌≡◌, ◌≢◌, ◌<◌, ◌≤◌, ℕ, ◌&&◌, ◌^◌, Bool, true, false, List, [], ◌∷◌, length, drop, get_or, Option, Some, None, Ok, Err, refl, ap}
use Rattle.std.proofs.Common.{sym, subst, arith, if◌then◌else◌}
use Rattle.std.proofs.lemmas.Bool.{eq-eqb}
use Rattle.ddl_token.specs.declared.token.Tok.{Tok}
use Rattle.ddl_token.specs.declared.token.Token.{Token}
use Rattle.ddl_lex.specs.declared.error.LexError.TheVariants.{TooManyTokens}
use Rattle.ddl_lex.specs.Pieces.{piece, next_piece, one_more_token}
use Rattle.ddl_lex.specs.Letters.{begins_token}
use Rattle.ddl_lex.specs.Tokens.{HasRoom, IsPiece}
use Rattle.ddl_lex.proofs.Longest.{Found, IsRight, by_test, piece_right}
use Rattle.ddl_lex.proofs.Standing.{is_full}

room_by : (full : Bool) (at n m : ℕ) (tok : Tok) (found : Option Tok) (good bad : Found) → good ≡ Ok (Some tok, n) → bad ≡ Err (TooManyTokens at)
    → (if full then bad else good) ≡ Ok (found, m) → (good ≡ Ok (found, m)) × (full ≡ true → found ≡ None)
room_by true at n m tok found good bad g b e = cc
room_by false at n m tok found good bad g b e = (e, λ h. (cc))

found_room : (full : Bool) (at m : ℕ) (found : Option Tok) (r : Found) → one_more_token full at r ≡ Ok (found, m)
    → (r ≡ Ok (found, m)) × (full ≡ true → found ≡ None)
found_room full at m found (Err e) h = cc
found_room full at m found (Ok (None, n)) h =
    let pair : Option Tok × ℕ = (None, n) in let want : Option Tok × ℕ = (found, m) in let same : pair ≡ want = cc in (h, λ _. sym (ap (λ z. z.0) same))
found_room full at m found (Ok (Some tok, n)) h =
    let good : Found = Ok (Some tok, n) in let bad : Found = Err (TooManyTokens at) in room_by full at n m tok found good bad refl refl h

pub next_found : (full : Bool) (at b : ℕ) (text : List ℕ) (found : Option Tok) (n : ℕ) → next_piece full at b text ≡ Ok (found, n)
    → (piece at b text ≡ Ok (found, n)) × (full ≡ true → found ≡ None)
unfolding next_piece
next_found full at b text found n h =
    let r : Found = Ok (found, n) in
    by_test (full && begins_token b) _ _ r ((piece at b text ≡ Ok (found, n)) × (full ≡ true → found ≡ None)) h (λ v e. (cc)) (λ v e.
    found_room full at n found (piece at b text) e)

has_room : (tokens : List Token) (found : Option Tok) → length tokens ≤ 2 ^ 20 → (is_full tokens ≡ true → found ≡ None) → HasRoom tokens found
has_room tokens None h room = tt
has_room tokens (Some tok) h room =
    let different : length tokens ≢ 2 ^ 20 = λ e. (let f : Some tok ≡ None = room (eq-eqb (length tokens) (2 ^ 20) e) in cc) in
    omega arith

right_at : (at b : ℕ) (rest : List ℕ) (found : Option Tok) (n : ℕ) → 0 < length rest → b ≡ get_or rest 0 0 → piece at b rest ≡ Ok (found, n)
    → IsRight found n rest
right_at at b [] found n s f h = absurd (omega arith)
right_at at b (c ∷ cs) found n s f h = piece_right at c cs found n (subst (λ z. piece at z (c ∷ cs) ≡ Ok (found, n)) f h)

-- what is found next is what stands there
pub next_right : (text rest : List ℕ) (tokens : List Token) (at b : ℕ) (found : Option Tok) (n : ℕ) → length tokens ≤ 2 ^ 20 → rest ≡ drop at text
    → 0 < length rest → b ≡ get_or rest 0 0 →
    next_piece (is_full tokens) at b rest ≡ Ok (found, n) → IsPiece text tokens at found n
next_right text rest tokens at b found n few left s f h =
    let x = next_found (is_full tokens) at b rest found n h in
    let right : IsRight found n (drop at text) = subst (IsRight found n) left (right_at at b rest found n s f x.0) in
    (right.0, right.1, right.2, has_room tokens found few x.1)
