-- A text is cut in one way: what is reached after so many pieces is told by the text.
use Rattle.std.proofs.Common.{◌≡◌, ◌≢◌, ◌<◌, ◌⊎◌, ℕ, zero, suc, ◌+◌, ◌-◌, nat_lt, Bool, true, false, List, [], length, Option, Some, None, Ok, Err, inl, inr}
use Rattle.std.proofs.Common.{refl, ap, sym, subst, ◌∙◌, arith, if◌then◌else◌}
use Rattle.std.proofs.lemmas.Bool.{lt-ltb, ltb-true}
use Rattle.ddl_token.specs.declared.token.Tok.{Tok}
use Rattle.ddl_token.specs.declared.token.Token.{Token}
use Rattle.ddl_lex.specs.declared.error.LexError.{LexError}
use Rattle.ddl_lex.specs.declared.error.LexError.TheVariants.{NoMemory, BadByte, OpenText, BadEscape, NumberTooWide, TooManyTokens}
use Rattle.ddl_lex.specs.Tokens.{Cut, begin, more, HasError, place_at, with_token}
use Rattle.ddl_lex.proofs.Standing.{stands}
use Rattle.ddl_lex.specs.Only.{OneList, NoTokensWithError, OneError}
use Rattle.ddl_lex.proofs.Stands.{stands_right}
use Rattle.ddl_lex.proofs.Erring.{error_stands}
use Rattle.ddl_lex.proofs.Longest.{Found}

-- the tokens before a place, and the place
abbrev State : Type 0
State = List Token × ℕ

-- behind what stands there
abbrev behind_found : List ℕ → State → Found → Option State
behind_found text s (Err e) = None
behind_found text s (Ok r) = Some (with_token s.0 (place_at text s.1) (s.1 + r.1) r.0, s.1 + r.1)

-- one piece more, if the text goes on and one stands there
abbrev one_piece : List ℕ → Option State → Option State
one_piece text None = None
one_piece text (Some s) = if nat_lt s.1 (length text) then behind_found text s (stands text s.0 s.1) else None

-- what is reached after so many pieces
abbrev reached : List ℕ → ℕ → Option State
reached text zero = Some ([], 0)
reached text (suc k) = one_piece text (reached text k)

one_more : (text : List ℕ) (tokens : List Token) (at : ℕ) (found : Option Tok) (n : ℕ) → at < length text → stands text tokens at ≡ Ok (found, n) →
    one_piece text (Some (tokens, at)) ≡ Some (with_token tokens (place_at text at) (at + n) found, at + n)
one_more text tokens at found n h e = rw (lt-ltb at (length text) h) (ap (behind_found text (tokens, at)) e)

-- what is cut is reached
cut_reached : (text : List ℕ) (tokens : List Token) (at : ℕ) → Cut text tokens at → (k : ℕ) × (reached text k ≡ Some (tokens, at))
cut_reached text tokens at begin = (0, refl)
cut_reached text tokens at (more {text = bytes} {tokens = before} {at = from'} found n c within p) =
    let r = cut_reached bytes before from' c in
    (suc r.0, ap (one_piece bytes) r.1 ∙ one_more bytes before from' found n within (stands_right bytes before from' found n within p))

-- behind a place where it ends nothing is reached
none_behind : (text : List ℕ) (k j : ℕ) → one_piece text (reached text k) ≡ None → reached text (suc (k + j)) ≡ None
none_behind text k zero e = let x : k + 0 ≡ k = omega arith in rw x e
none_behind text k (suc j) e = let x : k + suc j ≡ suc (k + j) = omega arith in rw x (ap (one_piece text) (none_behind text k j e))

not_before : (text : List ℕ) (k j : ℕ) (s t : State) → reached text k ≡ Some s → one_piece text (Some s) ≡ None → reached text j ≡ Some t → k < j → ⊥
not_before text k zero s t e n f h = omega arith
not_before text k (suc j) s t e n f h =
    let x : k + (j - k) ≡ j = omega arith in
    let none : reached text (suc j) ≡ None = subst (λ z. reached text (suc z) ≡ None) x (none_behind text k (j - k) (ap (one_piece text) e ∙ n)) in cc

compare : (a b : ℕ) → (a < b) ⊎ ((a ≡ b) ⊎ (b < a))
compare zero zero = inr (inl refl)
compare zero (suc b) = inl (omega arith)
compare (suc a) zero = inr (inr (omega arith))
compare (suc a) (suc b) = elim (compare a b) as (λ _. (suc a < suc b) ⊎ ((suc a ≡ suc b) ⊎ (suc b < suc a))) [
  | inl x ↦ inl (omega arith)
  | inr y ↦ elim y as (λ _. (suc a < suc b) ⊎ ((suc a ≡ suc b) ⊎ (suc b < suc a))) [ inl x ↦ inr (inl (ap suc x)) | inr x ↦ inr (inr (omega arith)) ]
]

same_number : (text : List ℕ) (k j : ℕ) (s t : State) → reached text k ≡ Some s → one_piece text (Some s) ≡ None → reached text j ≡ Some t
    → one_piece text (Some t) ≡ None →
    (k < j) ⊎ ((k ≡ j) ⊎ (j < k)) → k ≡ j
same_number text k j s t e n f m (inl x) = absurd (not_before text k j s t e n f x)
same_number text k j s t e n f m (inr (inl x)) = x
same_number text k j s t e n f m (inr (inr x)) = absurd (not_before text j k t s f m e x)

-- it ends in one state
one_end : (text : List ℕ) (tokens others : List Token) (at to : ℕ) → Cut text tokens at → one_piece text (Some (tokens, at)) ≡ None → Cut text others to
    → one_piece text (Some (others, to)) ≡ None →
    (tokens ≡ others) × (at ≡ to)
one_end text tokens others at to c n d m =
    let x = cut_reached text tokens at c in
    let y = cut_reached text others to d in
    let s : State = (tokens, at) in let t : State = (others, to) in
    let k = same_number text x.0 y.0 s t x.1 n y.1 m (compare x.0 y.0) in
    let first : reached text y.0 ≡ Some s = subst (λ z. reached text z ≡ Some s) k x.1 in
    let same : s ≡ t = cc in
    (ap (λ z. z.0) same, ap (λ z. z.1) same)

not_less : (a b : ℕ) (v : Bool) → nat_lt a b ≡ v → (a < b → ⊥) → v ≡ false
not_less a b true e n = absurd (n (ltb-true a b e))
not_less a b false e n = refl

-- it ends where the text ends
at_end : (text : List ℕ) (tokens : List Token) → one_piece text (Some (tokens, length text)) ≡ None
at_end text tokens = rw (not_less (length text) (length text) (nat_lt (length text) (length text)) refl (λ h. (omega arith))) refl

-- it ends where there is an error
at_error : (text : List ℕ) (tokens : List Token) (at : ℕ) (e : LexError) → at < length text → stands text tokens at ≡ Err e
    → one_piece text (Some (tokens, at)) ≡ None
at_error text tokens at e h f = rw (lt-ltb at (length text) h) (ap (behind_found text (tokens, at)) f)

-- an error other than want of memory has its place
abbrev Wrong : List ℕ → LexError → Type 0
Wrong text e = (tokens : List Token) × (at : ℕ) × Cut text tokens at × (at < length text) × (stands text tokens at ≡ Err e)

wrong_at : (text : List ℕ) (e : LexError) → e ≢ NoMemory → HasError text e → Wrong text e
wrong_at text NoMemory n h = absurd (n refl)
wrong_at text (BadByte a) n h = (h.0, h.1, h.2, h.3, error_stands text h.0 h.1 (BadByte a) h.3 h.4)
wrong_at text (OpenText a) n h = (h.0, h.1, h.2, h.3, error_stands text h.0 h.1 (OpenText a) h.3 h.4)
wrong_at text (BadEscape a) n h = (h.0, h.1, h.2, h.3, error_stands text h.0 h.1 (BadEscape a) h.3 h.4)
wrong_at text (NumberTooWide a) n h = (h.0, h.1, h.2, h.3, error_stands text h.0 h.1 (NumberTooWide a) h.3 h.4)
wrong_at text (TooManyTokens a) n h = (h.0, h.1, h.2, h.3, error_stands text h.0 h.1 (TooManyTokens a) h.3 h.4)

pub one_list : OneList
one_list text tokens others c d = (one_end text tokens others (length text) (length text) c (at_end text tokens) d (at_end text others)).0

pub no_tokens_with_error : NoTokensWithError
no_tokens_with_error text e tokens n h c =
    let w = wrong_at text e n h in
    let x = one_end text tokens w.0 (length text) w.1 c (at_end text tokens) w.2 (at_error text w.0 w.1 e w.3 w.4) in
    omega (arith, x.1, w.3)

pub one_error : OneError
one_error text e f n m h k =
    let v = wrong_at text e n h in
    let w = wrong_at text f m k in
    let x = one_end text v.0 w.0 v.1 w.1 v.2 (at_error text v.0 v.1 e v.3 v.4) w.2 (at_error text w.0 w.1 f w.3 w.4) in
    let same : stands text v.0 v.1 ≡ stands text w.0 w.1 = ap (λ z. stands text z v.1) x.0 ∙ ap (stands text w.0) x.1 in
    let bad : Found = Err e in let worse : Found = Err f in
    let there : bad ≡ worse = sym v.4 ∙ same ∙ w.4 in cc
