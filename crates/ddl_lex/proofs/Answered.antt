-- A text is cut on until it ends or has an error.
use Rattle.std.proofs.Common.{◌≡◌, ◌≢◌, ◌<◌, ◌≤◌, ◌⊎◌, ◌^◌, ℕ, zero, suc, ◌+◌, ◌&&◌, ◌==◌, nat_lt, Bool, true, false, List, [], ◌∷◌, length, take, drop, get_or}
use Rattle.std.proofs.Common.{Option, Some, None, Result, Ok, Err, inl, inr, refl, ap, sym, subst, arith, length-drop, if◌then◌else◌}
use Rattle.std.proofs.Math.Seq.{drop-cons}
use Rattle.std.proofs.lemmas.Bool.{ltb-true}
use Rattle.std.proofs.lemmas.Bool.Decides.{nat_tests}
use Rattle.ddl_token.specs.declared.mark.Mark.{Mark}
use Rattle.ddl_token.specs.declared.token.Tok.{Tok}
use Rattle.ddl_token.specs.declared.token.Token.{Token}
use Rattle.ddl_lex.specs.declared.error.LexError.{LexError}
use Rattle.ddl_lex.specs.declared.error.LexError.TheVariants.{NoMemory, BadByte, OpenText, BadEscape, NumberTooWide, TooManyTokens}
use Rattle.ddl_lex.specs.declared.literal.Element.{Element}
use Rattle.ddl_lex.specs.declared.literal.Element.TheVariants.{Means, Closes, Ends, Control, NoEscape}
use Rattle.ddl_lex.specs.Letters.{is_white, is_decimal, run, begins_token, begins_with}
use Rattle.ddl_lex.specs.Comments.{comment}
use Rattle.ddl_lex.specs.Literals.{literal, character_of, element, later, meaning, read, bytes_behind}
use Rattle.ddl_lex.specs.Names.{begins_name, begins_class}
use Rattle.ddl_lex.specs.Numbers.{number, base_of, base_mark, is_digit_of, radix, value_behind}
use Rattle.ddl_lex.specs.Marks.{mark_of}
use Rattle.ddl_lex.specs.Pieces.{piece, next_piece, one_more_token, opened, text_token, marked}
use Rattle.ddl_lex.specs.Tokens.{Cut, begin, more, HasError, IsPiece, place_at, with_token}
use Rattle.ddl_lex.proofs.Standing.{is_full, stands}
use Rattle.ddl_lex.specs.Only.{TokensOrError}
use Rattle.ddl_lex.proofs.Longest.{Found}
use Rattle.ddl_lex.proofs.Next.{next_right, next_found}
use Rattle.ddl_lex.proofs.Cutting.{few_more}
use Rattle.ddl_lex.proofs.Digits.{number_token}
use Rattle.ddl_lex.proofs.Erring.{stands_error}

abbrev Read : Type 0
Read = Result (List ℕ × ℕ) LexError

-- ---- what stands at a place is never want of memory

later_memory : (x : Read) → (x ≡ Err NoMemory → ⊥) → later x ≡ Err NoMemory → ⊥
later_memory (Err e) n h = n (cc)
later_memory (Ok r) n h = cc

meaning_memory : (v : ℕ) (x : Read) → (x ≡ Err NoMemory → ⊥) → meaning v x ≡ Err NoMemory → ⊥
meaning_memory v (Err e) n h = n (cc)
meaning_memory v (Ok r) n h = cc

read_memory : (s a : ℕ) (e : Element) (x : Read) → (x ≡ Err NoMemory → ⊥) → read s a e x ≡ Err NoMemory → ⊥
read_memory s a (Means v n) x m h = meaning_memory v x m h
read_memory s a Closes x m h = cc
read_memory s a Ends x m h = cc
read_memory s a Control x m h = cc
read_memory s a NoEscape x m h = cc

literal_memory : (quote s a skip : ℕ) (text : List ℕ) → literal quote s a skip text ≡ Err NoMemory → ⊥
literal_memory quote s a skip [] h = cc
literal_memory quote s a (suc skip) (b ∷ bs) h = later_memory _ (literal_memory quote s (a + 1) skip bs) h
literal_memory quote s a zero (b ∷ bs) h =
    let e = element quote (b ∷ bs) in read_memory s a e (literal quote s (a + 1) (bytes_behind e) bs) (literal_memory quote s (a + 1) (bytes_behind e) bs) h

text_memory : (x : Read) → (x ≡ Err NoMemory → ⊥) → text_token x ≡ Err NoMemory → ⊥
text_memory (Err e) n h = n (cc)
text_memory (Ok r) n h = cc

if_memory : (v : Bool) (x y : Found) → (x ≡ Err NoMemory → ⊥) → (y ≡ Err NoMemory → ⊥) → (if v then x else y) ≡ Err NoMemory → ⊥
if_memory true x y f g h = f h
if_memory false x y f g h = g h

character_memory : (s : ℕ) (inside : List ℕ) (e : Element) → character_of s inside e ≡ Err NoMemory → ⊥
character_memory s inside (Means v n) h = if_memory (get_or inside n 0 == 39) _ _ (λ x. (cc)) (λ x. (cc)) h
character_memory s inside Closes h = cc
character_memory s inside Ends h = cc
character_memory s inside Control h = cc
character_memory s inside NoEscape h = cc

opened_memory : (at : ℕ) (o : Option ℕ) → opened at o ≡ Err NoMemory → ⊥
opened_memory at None h = cc
opened_memory at (Some n) h = cc

marked_memory : (at : ℕ) (o : Option Mark) → marked at o ≡ Err NoMemory → ⊥
marked_memory at None h = cc
marked_memory at (Some m) h = cc

wide_memory : (v : Bool) (at : ℕ) (x : Option Tok × ℕ) → (if v then Ok x else Err (NumberTooWide at)) ≡ Err NoMemory → ⊥
wide_memory true at x h = cc
wide_memory false at x h = cc

number_memory : (at : ℕ) (text : List ℕ) → number at text ≡ Err NoMemory → ⊥
number_memory at text h =
    let base = base_of text in
    let digits = drop (base_mark base) text in
    let n = run (is_digit_of base) digits in
    let value = value_behind (radix base) 0 (take n digits) in
    wide_memory (nat_lt value (2 ^ 128)) at (Some (number_token text), base_mark base + n) h

piece_memory : (at b : ℕ) (text : List ℕ) → piece at b text ≡ Err NoMemory → ⊥
unfolding piece
piece_memory at b text h =
    if_memory (is_white b) _ _ (λ x. (cc))
    (if_memory (begins_with 45 45 text) _ _ (λ x. (cc))
    (if_memory (begins_with 123 45 text) _ _ (opened_memory at (comment 0 0 (drop 2 text)))
    (if_memory (b == 34) _ _ (text_memory (literal 34 at (at + 1) 0 (drop 1 text)) (literal_memory 34 at (at + 1) 0 (drop 1 text)))
    (if_memory (b == 39) _ _ (character_memory at (drop 1 text) (element 39 (drop 1 text)))
    (if_memory (begins_name text) _ _ (λ x. (cc))
    (if_memory (begins_class text) _ _ (λ x. (cc))
    (if_memory (is_decimal b) _ _ (number_memory at text)
    (marked_memory at (mark_of text))))))))) h

one_more_memory : (full : Bool) (at : ℕ) (x : Found) → (x ≡ Err NoMemory → ⊥) → one_more_token full at x ≡ Err NoMemory → ⊥
one_more_memory full at (Err e) n h = n (cc)
one_more_memory full at (Ok (None, k)) n h = cc
one_more_memory full at (Ok (Some tok, k)) n h = if_memory full _ _ (λ x. (cc)) (λ x. (cc)) h

next_memory : (full : Bool) (at b : ℕ) (text : List ℕ) → next_piece full at b text ≡ Err NoMemory → ⊥
unfolding next_piece
next_memory full at b text h = if_memory (full && begins_token b) _ _ (λ x. (cc)) (one_more_memory full at (piece at b text) (piece_memory at b text)) h

-- ---- cutting on

-- the text is cut whole, or has an error
abbrev Answered : List ℕ → Type 0
Answered text = ((tokens : List Token) × Cut text tokens (length text)) ⊎ ((e : LexError) × (e ≢ NoMemory) × HasError text e)

-- from any place behind this one the text is answered
abbrev GoesOn : List ℕ → ℕ → Type 0
GoesOn text at = (tokens : List Token) (to : ℕ) → at < to → to ≤ length text → length tokens ≤ 2 ^ 20 → Cut text tokens to → Answered text

answer_at : (text : List ℕ) (tokens : List Token) (at : ℕ) (r : Found) → stands text tokens at ≡ r → at < length text → length tokens ≤ 2 ^ 20
    → Cut text tokens at → GoesOn text at → Answered text
answer_at text tokens at (Err NoMemory) s h few c on = absurd (next_memory (is_full tokens) at (get_or text at 0) (drop at text) s)
answer_at text tokens at (Err (BadByte a)) s h few c on = inr (BadByte a, (λ x. (cc)), (tokens, at, c, h, stands_error text tokens at (BadByte a) h s))
answer_at text tokens at (Err (OpenText a)) s h few c on = inr (OpenText a, (λ x. (cc)), (tokens, at, c, h, stands_error text tokens at (OpenText a) h s))
answer_at text tokens at (Err (BadEscape a)) s h few c on = inr (BadEscape a, (λ x. (cc)), (tokens, at, c, h, stands_error text tokens at (BadEscape a) h s))
answer_at text tokens at (Err (NumberTooWide a)) s h few c on =
    inr (NumberTooWide a, (λ x. (cc)), (tokens, at, c, h, stands_error text tokens at (NumberTooWide a) h s))
answer_at text tokens at (Err (TooManyTokens a)) s h few c on =
    inr (TooManyTokens a, (λ x. (cc)), (tokens, at, c, h, stands_error text tokens at (TooManyTokens a) h s))
answer_at text tokens at (Ok (found, n)) s h few c on =
    let b = get_or text at 0 in
    let rest : drop at text ≡ b ∷ drop (suc at) text = drop-cons text at 0 h in
    let there : IsPiece text tokens at found n = next_right text (drop at text) tokens at b found n few refl (omega (arith, h, length-drop at text))
    (ap (λ z. get_or z 0 0) (sym rest)) s in
    on (with_token tokens (place_at text at) (at + n) found) (at + n) (omega (arith, there.0.1)) (omega (arith, there.0.0, h, length-drop at text))
    (few_more tokens (place_at text at) (at + n) found few (next_found (is_full tokens) at b (drop at text) found n s).1)
    (more found n c h there)

at_end : (a b : ℕ) → nat_lt a b ≡ false → a ≤ b → a ≡ b
at_end a b e h = grind (arith, nat_tests)

answer_test : (text : List ℕ) (tokens : List Token) (at : ℕ) (v : Bool) → nat_lt at (length text) ≡ v → at ≤ length text → length tokens ≤ 2 ^ 20
    → Cut text tokens at → GoesOn text at → Answered text
answer_test text tokens at true e h few c on = answer_at text tokens at (stands text tokens at) refl (ltb-true at (length text) e) few c on
answer_test text tokens at false e h few c on =
    let end : at ≡ length text = at_end at (length text) e h in
    inl (tokens, subst (Cut text tokens) end c)

answer_from : (fuel : ℕ) (text : List ℕ) (tokens : List Token) (at : ℕ) → length text ≤ at + fuel → at ≤ length text → length tokens ≤ 2 ^ 20
    → Cut text tokens at → Answered text
answer_from zero text tokens at f h few c = inl (tokens, subst (Cut text tokens) (omega arith) c)
answer_from (suc fuel) text tokens at f h few c =
    answer_test text tokens at (nat_lt at (length text)) refl h few c (λ more' to less within few' c'.
    answer_from fuel text more' to (omega arith) within few' c')

-- a text is cut whole, or has an error
pub tokens_or_error : TokensOrError
tokens_or_error text = answer_from (length text) text [] 0 (omega arith) (omega arith) (omega arith) begin
