-- The error that is told behind some tokens is what is wrong there.
use Rattle.std.proofs.Common.{◌≡◌, ◌<◌, ℕ, zero, suc, ◌==◌, ◌&&◌, ◌||◌, ◌^◌, Bool, true, false, List, ◌∷◌, length, take, drop, get_or, Some, None, Ok, Err, inl}
use Rattle.std.proofs.Common.{inr, refl, ap, sym, subst, ◌∙◌, arith, if◌then◌else◌}
use Rattle.std.proofs.Math.Seq.{drop-cons}
use Rattle.std.proofs.lemmas.Bool.{eq-eqb}
use Rattle.ddl_token.specs.declared.token.Tok.{Tok}
use Rattle.ddl_token.specs.declared.token.Tok.TheVariants as t
use Rattle.ddl_token.specs.declared.token.Token.{Token}
use Rattle.ddl_lex.specs.declared.error.LexError.{LexError}
use Rattle.ddl_lex.specs.declared.error.LexError.TheVariants.{NoMemory, BadByte, OpenText, BadEscape, NumberTooWide, TooManyTokens}
use Rattle.ddl_lex.specs.Letters.{is_decimal, is_white, begins_with, begins_token}
use Rattle.ddl_lex.specs.Pieces.{piece, next_piece, one_more_token}
use Rattle.ddl_lex.specs.Forms.{IsForm, IsLongest, Fits}
use Rattle.ddl_lex.specs.Gives.{Gives}
use Rattle.ddl_lex.specs.Tokens.{Cut, BeginsToken, IsError, too_many, is_wrong, HasError}
use Rattle.ddl_lex.proofs.Firsts.{is_letter, class_of, begins}
use Rattle.ddl_lex.proofs.Lengths.{or_true}
use Rattle.ddl_lex.proofs.Longest.{Found, IsRight, by_test, piece_right}
use Rattle.ddl_lex.proofs.Standing.{is_full, stands}
use Rattle.ddl_lex.proofs.Stands.{piece_found, full_length, false_by}
use Rattle.ddl_lex.proofs.Told.{piece_told, wrong_told}
use Rattle.ddl_lex.proofs.Decided.{both}

-- ---- what is told is wrong

and_false : (a b : Bool) → (a && b) ≡ false → a ≡ true → b ≡ false
and_false true b h e = h
and_false false b h e = cc

error_as : (tokens : List Token) (at : ℕ) (text : List ℕ) (e f : LexError) → e ≡ f → IsError tokens at text e → IsError tokens at text f
error_as tokens at text e f same w = subst (IsError tokens at text) same w

one_told : (tokens : List Token) (at b : ℕ) (bs : List ℕ) (e : LexError) (r : Found) → (is_full tokens && begins_token b) ≡ false → piece at b (b ∷ bs) ≡ r →
    one_more_token (is_full tokens) at r ≡ Err e → IsError tokens at (b ∷ bs) e
one_told tokens at b bs e (Err f) v p h =
    error_as tokens at (b ∷ bs) f e (cc) (is_wrong (λ full. and_false (is_full tokens) (begins_token b) v (eq-eqb (length tokens) (2 ^ 20) full))
    (piece_told at b bs f p))
one_told tokens at b bs e (Ok (None, n)) v p h = cc
one_told tokens at b bs e (Ok (Some tok, n)) v p h =
    let right = piece_right at b bs (Some tok) n p in
    let none : begins_with 123 45 (b ∷ bs) ≡ false = false_by (begins_with 123 45 (b ∷ bs)) (λ c. (let x : Some tok ≡ None = right.1 c in cc)) in
    let good : Found = Ok (Some tok, n) in
    let bad : Found = Err (TooManyTokens at) in
    let r : Found = Err e in
    by_test (is_full tokens) bad good r (IsError tokens at (b ∷ bs) e) h
    (λ full f. error_as tokens at (b ∷ bs) (TooManyTokens at) e (cc) (too_many (full_length tokens full) (inr (tok, n, right.0, none)))) (λ full f. (cc))

-- the error that is told is what is wrong
next_told : (tokens : List Token) (at b : ℕ) (bs : List ℕ) (e : LexError) → next_piece (is_full tokens) at b (b ∷ bs) ≡ Err e → IsError tokens at (b ∷ bs) e
unfolding next_piece
next_told tokens at b bs e h =
    let r : Found = Err e in
    by_test (is_full tokens && begins_token b) _ _ r (IsError tokens at (b ∷ bs) e) h
    (λ v f. (let x = both (is_full tokens) (begins_token b) v
    in error_as tokens at (b ∷ bs) (TooManyTokens at) e (cc) (too_many (full_length tokens x.0) (inl x.1))))
    (λ v f. one_told tokens at b bs e (piece at b (b ∷ bs)) v refl f)

-- ---- what is wrong is told

digit_by : (l d w q p : Bool) → ◌≡◌ {A = ℕ} (if l then 0 else (if d then 1 else (if w then 2 else (if q then 3 else (if p then 4 else 5))))) 1 → d ≡ true
digit_by true d w q p h = absurd (omega arith)
digit_by false true w q p h = refl
digit_by false false true q p h = absurd (omega arith)
digit_by false false false true p h = absurd (omega arith)
digit_by false false false false true h = absurd (omega arith)
digit_by false false false false false h = absurd (omega arith)

digit : (b : ℕ) → class_of b ≡ 1 → is_decimal b ≡ true
digit b h = digit_by (is_letter b) (is_decimal b) (is_white b) (b == 34) (b == 39) h

digit_token : (b : ℕ) → is_decimal b ≡ true → begins_token b ≡ true
digit_token b h = rw (h, or_true (b == 34 || b == 39)) refl

fits_by : (tok : Tok) (b k : ℕ) (bs : List ℕ) → begins_token b ≡ false → IsForm (Some tok) (b ∷ take k bs) → Fits (Some tok)
fits_by (t.Word w) b k bs n f = tt
fits_by (t.Mark m) b k bs n f = tt
fits_by (t.Upper name) b k bs n f = tt
fits_by (t.Lower name) b k bs n f = tt
fits_by (t.Class name) b k bs n f = tt
fits_by (t.Number value base digits) b k bs n f = absurd (let x = digit_token b (digit b (begins (Some (t.Number value base digits)) b (take k bs) f)) in cc)
fits_by (t.Char c) b k bs n f = tt
fits_by (t.Text means) b k bs n f = tt

token_right : (tok : Tok) (n b : ℕ) (bs : List ℕ) → begins_token b ≡ false → IsLongest (Some tok) n (b ∷ bs) → begins_with 123 45 (b ∷ bs) ≡ false
    → IsRight (Some tok) n (b ∷ bs)
token_right tok zero b bs v l c = absurd (omega (arith, l.1))
token_right tok (suc k) b bs v l c = (l, (λ h. (cc)), fits_by tok b k bs v l.2)

begun_by : (at b : ℕ) (bs : List ℕ) (v : Bool) → begins_token b ≡ v → BeginsToken (b ∷ bs) → next_piece true at b (b ∷ bs) ≡ Err (TooManyTokens at)
unfolding next_piece
begun_by at b bs true v h = rw v refl
begun_by at b bs false v (inl h) = absurd (cc)
begun_by at b bs false v (inr (tok, n, l, c)) = rw (v, piece_found at b bs (Some tok) n (token_right tok n b bs v l c)) refl

no_more : (a b : Bool) → (a ≡ true → b ≡ false) → (a && b) ≡ false
no_more true b h = h refl
no_more false b h = refl

wrong_piece : (full : Bool) (at b : ℕ) (bs : List ℕ) (e : LexError) → (full && begins_token b) ≡ false → piece at b (b ∷ bs) ≡ Err e
    → next_piece full at b (b ∷ bs) ≡ Err e
unfolding next_piece
wrong_piece full at b bs e v p = rw (v, p) refl

error_told : (tokens : List Token) (at b : ℕ) (bs : List ℕ) (e : LexError) → IsError tokens at (b ∷ bs) e → next_piece (is_full tokens) at b (b ∷ bs) ≡ Err e
error_told tokens at b bs e (too_many n h) =
    subst (λ z. next_piece z at b (b ∷ bs) ≡ Err (TooManyTokens at)) (sym (eq-eqb (length tokens) (2 ^ 20) n)) (begun_by at b bs (begins_token b) refl h)
error_told tokens at b bs e (is_wrong n w) =
    wrong_piece (is_full tokens) at b bs e (no_more (is_full tokens) (begins_token b) (λ h. n (full_length tokens h))) (wrong_told at b bs e w)

-- ---- at a place of a text

pub error_stands : (text : List ℕ) (tokens : List Token) (at : ℕ) (e : LexError) → at < length text → IsError tokens at (drop at text) e
    → stands text tokens at ≡ Err e
error_stands text tokens at e h i =
    let b = get_or text at 0 in
    let rest : drop at text ≡ b ∷ drop (suc at) text = drop-cons text at 0 h in
    subst (λ z. next_piece (is_full tokens) at b z ≡ Err e) (sym rest)
    (error_told tokens at b (drop (suc at) text) e (subst (λ z. IsError tokens at z e) rest i))

pub stands_error : (text : List ℕ) (tokens : List Token) (at : ℕ) (e : LexError) → at < length text → stands text tokens at ≡ Err e
    → IsError tokens at (drop at text) e
stands_error text tokens at e h s =
    let b = get_or text at 0 in
    let rest : drop at text ≡ b ∷ drop (suc at) text = drop-cons text at 0 h in
    subst (λ z. IsError tokens at z e) (sym rest) (next_told tokens at b (drop (suc at) text) e
    (subst (λ z. next_piece (is_full tokens) at b z ≡ Err e) rest s))

stands_as : (text rest : List ℕ) (tokens : List Token) (at b : ℕ) (e : LexError) → at < length text → rest ≡ drop at text → b ≡ get_or rest 0 0
    → next_piece (is_full tokens) at b rest ≡ Err e → stands text tokens at ≡ Err e
stands_as text rest tokens at b e h left first g =
    let front : get_or (drop at text) 0 0 ≡ get_or text at 0 = ap (λ z. get_or z 0 0) (drop-cons text at 0 h) in
    let byte : b ≡ get_or text at 0 = first ∙ ap (λ z. get_or z 0 0) left ∙ front in
    subst (λ z. next_piece (is_full tokens) at z (drop at text) ≡ Err e) byte (subst (λ z. next_piece (is_full tokens) at b z ≡ Err e) left g)

error_at : (text rest : List ℕ) (tokens : List Token) (at b : ℕ) (e : LexError) → at < length text → rest ≡ drop at text → b ≡ get_or rest 0 0
    → next_piece (is_full tokens) at b rest ≡ Err e → IsError tokens at (drop at text) e
error_at text rest tokens at b e h left first g = stands_error text tokens at e h (stands_as text rest tokens at b e h left first g)

-- what is found there is an error of the text, unless memory ran out
pub has_error : (text rest : List ℕ) (tokens : List Token) (at b : ℕ) (e : LexError) → Cut text tokens at → at < length text → rest ≡ drop at text
    → b ≡ get_or rest 0 0 →
    Gives (next_piece (is_full tokens) at b rest) (Err e) → HasError text e
has_error text rest tokens at b NoMemory c h left first g = tt
has_error text rest tokens at b (BadByte a) c h left first g = (tokens, at, c, h, error_at text rest tokens at b (BadByte a) h left first g)
has_error text rest tokens at b (OpenText a) c h left first g = (tokens, at, c, h, error_at text rest tokens at b (OpenText a) h left first g)
has_error text rest tokens at b (BadEscape a) c h left first g = (tokens, at, c, h, error_at text rest tokens at b (BadEscape a) h left first g)
has_error text rest tokens at b (NumberTooWide a) c h left first g = (tokens, at, c, h, error_at text rest tokens at b (NumberTooWide a) h left first g)
has_error text rest tokens at b (TooManyTokens a) c h left first g = (tokens, at, c, h, error_at text rest tokens at b (TooManyTokens a) h left first g)
