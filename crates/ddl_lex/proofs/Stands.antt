-- A piece that is cut is what stands at its place.
use Rattle.std.proofs.Common.{◌≡◌, ◌<◌, ◌⊎◌, ℕ, zero, suc, ◌||◌, ◌==◌, ◌^◌, Bool, true, false, List, ◌∷◌, length, take, drop, get_or, Option, Some, None, Ok}
use Rattle.std.proofs.Common.{Err, inl, inr, refl, ap, sym, subst, ◌∙◌, arith}
use Rattle.std.proofs.Math.Seq.{drop-cons}
use Rattle.ddl_token.specs.declared.token.Tok.{Tok}
use Rattle.ddl_token.specs.declared.token.Token.{Token}
use Rattle.ddl_lex.specs.Letters.{is_decimal, begins_token}
use Rattle.ddl_lex.specs.Pieces.{piece, next_piece}
use Rattle.ddl_lex.specs.Tokens.{IsPiece, HasRoom}
use Rattle.ddl_lex.proofs.Standing.{is_full, stands}
use Rattle.ddl_lex.proofs.Firsts.{class_of, Begins, begins, decimal_class}
use Rattle.ddl_lex.proofs.Decided.{either, equal_of}
use Rattle.ddl_lex.proofs.Longest.{Found, IsRight, piece_right}
use Rattle.ddl_lex.proofs.Same.{one_longest}
use Rattle.ddl_lex.proofs.Wrong.{piece_wrong}

-- what is right is found
found_by : (at b : ℕ) (bs : List ℕ) (found : Option Tok) (n : ℕ) (r : Found) → piece at b (b ∷ bs) ≡ r → IsRight found n (b ∷ bs) → r ≡ Ok (found, n)
found_by at b bs found n (Err e) h right = absurd (piece_wrong at b bs found n e right h)
found_by at b bs found n (Ok r) h right =
    let same = one_longest r.0 found r.1 n b bs (piece_right at b bs r.0 r.1 h).0 right.0 in
    ap (λ z. Ok (z, r.1)) same.0 ∙ ap (λ z. Ok (found, z)) same.1

pub piece_found : (at b : ℕ) (bs : List ℕ) (found : Option Tok) (n : ℕ) → IsRight found n (b ∷ bs) → piece at b (b ∷ bs) ≡ Ok (found, n)
piece_found at b bs found n right = found_by at b bs found n (piece at b (b ∷ bs)) refl right

-- a quote or a digit
abbrev Quoted : ℕ → Type 0
Quoted b = (class_of b ≡ 1) ⊎ ((class_of b ≡ 3) ⊎ (class_of b ≡ 4))

quote_class : (b : ℕ) → ((b == 34) ≡ true) ⊎ ((b == 39) ≡ true) → Quoted b
quote_class b (inl q) = inr (inl (ap class_of (equal_of b 34 q)))
quote_class b (inr p) = inr (inr (ap class_of (equal_of b 39 p)))

token_class : (b : ℕ) → ((b == 34 || b == 39) ≡ true) ⊎ (is_decimal b ≡ true) → Quoted b
token_class b (inl q) = quote_class b (either (b == 34) (b == 39) q)
token_class b (inr d) = inl (decimal_class b d)

no_token_by : (c : ℕ) → (c ≡ 2) ⊎ (c ≡ 5) → (c ≡ 1) ⊎ ((c ≡ 3) ⊎ (c ≡ 4)) → ⊥
no_token_by c (inl f) (inl g) = omega arith
no_token_by c (inr f) (inl g) = omega arith
no_token_by c (inl f) (inr (inl g)) = omega arith
no_token_by c (inr f) (inr (inl g)) = omega arith
no_token_by c (inl f) (inr (inr g)) = omega arith
no_token_by c (inr f) (inr (inr g)) = omega arith

pub false_by : (v : Bool) → (v ≡ true → ⊥) → v ≡ false
false_by true n = absurd (n refl)
false_by false n = refl

-- white space and comments begin with no quote and no digit
no_token : (b : ℕ) → Begins None (class_of b) → begins_token b ≡ false
no_token b g = false_by (begins_token b) (λ h. no_token_by (class_of b) g (token_class b (either (b == 34 || b == 39) (is_decimal b) h)))

-- what is found stands there, if there is room for it
room_by : (full : Bool) (at b : ℕ) (text : List ℕ) (found : Option Tok) (n : ℕ) → piece at b text ≡ Ok (found, n)
    → (full ≡ true → (found ≡ None) × (begins_token b ≡ false)) → next_piece full at b text ≡ Ok (found, n)
unfolding next_piece
room_by false at b text None n h room = rw h refl
room_by false at b text (Some tok) n h room = rw h refl
room_by true at b text None n h room = rw ((room refl).1, h) refl
room_by true at b text (Some tok) n h room = absurd (let x = (room refl).0 in cc)

pub full_length : (tokens : List Token) → is_full tokens ≡ true → length tokens ≡ 2 ^ 20
full_length tokens h = equal_of (length tokens) (2 ^ 20) h

room_none : (tokens : List Token) (found : Option Tok) → HasRoom tokens found → is_full tokens ≡ true → found ≡ None
room_none tokens None r h = refl
room_none tokens (Some tok) r h = absurd (omega (arith, r, full_length tokens h))

starts : (found : Option Tok) (n b : ℕ) (bs : List ℕ) → IsRight found n (b ∷ bs) → found ≡ None → begins_token b ≡ false
starts found zero b bs r e = absurd (omega (arith, r.0.1))
starts found (suc n) b bs r e = no_token b (subst (λ z. Begins z (class_of b)) e (begins found b (take n bs) r.0.2))

next_found : (tokens : List Token) (at b : ℕ) (bs : List ℕ) (found : Option Tok) (n : ℕ) → HasRoom tokens found → IsRight found n (b ∷ bs)
    → next_piece (is_full tokens) at b (b ∷ bs) ≡ Ok (found, n)
next_found tokens at b bs found n room right =
    room_by (is_full tokens) at b (b ∷ bs) found n (piece_found at b bs found n right)
    (λ h. (let none = room_none tokens found room h in (none, starts found n b bs right none)))

-- a piece that is cut stands there
pub stands_right : (text : List ℕ) (tokens : List Token) (at : ℕ) (found : Option Tok) (n : ℕ) → at < length text → IsPiece text tokens at found n
    → stands text tokens at ≡ Ok (found, n)
stands_right text tokens at found n h p =
    let b = get_or text at 0 in
    let rest : drop at text ≡ b ∷ drop (suc at) text = drop-cons text at 0 h in
    let right : IsRight found n (drop at text) = (p.0, p.1, p.2) in
    subst (λ z. next_piece (is_full tokens) at b z ≡ Ok (found, n)) (sym rest)
    (next_found tokens at b (drop (suc at) text) found n p.3 (subst (IsRight found n) rest right))
