-- The error that is told at a place is what is wrong there.
use Rattle.std.proofs.Common.{◌≡◌, ◌≢◌, ◌<◌, ◌≤◌, ℕ, zero, suc, ◌+◌, ◌==◌, ◌^◌, nat_lt, true, false, List, [], ◌∷◌, ◌++◌, length, take, drop, get_or, Option}
use Rattle.std.proofs.Common.{Some, None, Result, Ok, Err, refl, ap, sym, subst, ◌∙◌, arith}
use Rattle.std.proofs.lemmas.Bool.Decides.{nat_tests}
use Rattle.ddl_token.specs.declared.mark.Mark.{Mark}
use Rattle.ddl_token.specs.declared.mark.Mark.TheVariants as m
use Rattle.ddl_token.specs.declared.token.Tok.{Tok}
use Rattle.ddl_token.specs.declared.token.Tok.TheVariants as t
use Rattle.ddl_token.specs.declared.token.Base.{Base}
use Rattle.ddl_lex.specs.declared.error.LexError.{LexError}
use Rattle.ddl_lex.specs.declared.error.LexError.TheVariants.{BadByte, OpenText, NumberTooWide}
use Rattle.ddl_lex.specs.Letters.{is_white, is_decimal, begins_with, run}
use Rattle.ddl_lex.specs.Comments.{comment}
use Rattle.ddl_lex.specs.Literals.{literal, character}
use Rattle.ddl_lex.specs.Names.{begins_name, begins_class}
use Rattle.ddl_lex.specs.Numbers.{number, base_of, base_mark, is_digit_of, radix, value_behind}
use Rattle.ddl_lex.specs.Marks.{mark_of}
use Rattle.ddl_lex.specs.Pieces.{piece, opened, text_token, marked}
use Rattle.ddl_lex.specs.Nesting.{EndsComment, IsComment}
use Rattle.ddl_lex.specs.Forms.{IsForm, IsLongest, Fits}
use Rattle.ddl_lex.specs.Wrong.{NoForm, IsWrong, open_comment, broken_text, broken_character, no_byte, open_character, wide_number, no_form}
use Rattle.ddl_lex.proofs.Firsts.{class_of, begins, decimal_class}
use Rattle.ddl_lex.proofs.Commented.{comment_more}
use Rattle.ddl_lex.proofs.Nested.{comment_counted, counted_comment}
use Rattle.ddl_lex.proofs.Digits.{digits_longest, extent}
use Rattle.ddl_lex.proofs.Namely.{IsSign, no_form as nothing_begins}
use Rattle.ddl_lex.proofs.Longest.{Found, by_test, piece_right, two_bytes, sign_class}
use Rattle.ddl_lex.proofs.Broken.{text_broken, broken_behind_read, character_broken, broken_character_read, open_character_read, wrong_as}
use Rattle.ddl_lex.proofs.Same.{one_longest}
use Rattle.ddl_lex.proofs.Decided.{equal_of, not_equal}

-- ---- what is told is wrong

no_comment : (b : ℕ) (bs : List ℕ) (n : ℕ) → comment 0 0 (drop 1 bs) ≡ None → IsComment (take n (b ∷ bs)) → ⊥
no_comment b bs zero c i = i
no_comment b bs (suc zero) c i = i
no_comment b [] (suc (suc k)) c i = i
no_comment b (d ∷ ds) (suc (suc k)) c i = let x = comment_more 0 0 ds k (length (take k ds)) (comment_counted (take k ds) i.2) in cc

comment_told : (at b : ℕ) (bs : List ℕ) (e : LexError) (o : Option ℕ) → begins_with 123 45 (b ∷ bs) ≡ true → comment 0 0 (drop 1 bs) ≡ o → opened at o ≡ Err e
    → IsWrong at (b ∷ bs) e
comment_told at b bs e None h c f = wrong_as at (b ∷ bs) (OpenText at) e (cc) (open_comment h (λ n i. no_comment b bs n c i))
comment_told at b bs e (Some n) h c f = cc

text_error : (x : Result (List ℕ × ℕ) LexError) (e : LexError) → text_token x ≡ Err e → x ≡ Err e
text_error (Err f) e h = cc
text_error (Ok r) e h = cc

text_told : (at b : ℕ) (bs : List ℕ) (e : LexError) → b ≡ 34 → text_token (literal 34 at (at + 1) 0 bs) ≡ Err e → IsWrong at (b ∷ bs) e
text_told at b bs e u h =
    let w = text_broken 34 at (at + 1) bs e (λ z. (omega arith)) (text_error (literal 34 at (at + 1) 0 bs) e h) in
    broken_text w.0 w.1 w.2 (ap (λ z. z ∷ bs) u ∙ ap (λ z. 34 ∷ z) w.3) w.4 w.5

not_less : (a b : ℕ) → nat_lt a b ≡ false → b ≤ a
not_less a b h = grind (arith, nat_tests)

number_told : (at b : ℕ) (bs : List ℕ) (e : LexError) → is_decimal b ≡ true → number at (b ∷ bs) ≡ Err e → IsWrong at (b ∷ bs) e
number_told at b bs e d h =
    let text = b ∷ bs in
    let base = base_of text in
    let digits = drop (base_mark base) text in
    let n = run (is_digit_of base) digits in
    let value = value_behind (radix base) 0 (take n digits) in
    let good : Found = Ok (Some (t.Number value base n), base_mark base + n) in
    let bad : Found = Err (NumberTooWide at) in
    let r : Found = Err e in
    by_test (nat_lt value (2 ^ 128)) good bad r (IsWrong at text e) h (λ v f. (cc))
    (λ v f. wrong_as at text (NumberTooWide at) e (cc) (wide_number value base n (extent base text) (digits_longest b bs d (decimal_class b d))
    (not_less value (2 ^ 128) v)))

no_form_at : (b : ℕ) (bs : List ℕ) → IsSign b bs → mark_of (b ∷ bs) ≡ None → NoForm (b ∷ bs)
no_form_at b bs i m found zero s h f = omega arith
no_form_at b bs i m found (suc k) s h f = nothing_begins b bs i m found k (omega arith) f

mark_told : (at b : ℕ) (bs : List ℕ) (e : LexError) (o : Option Mark) → IsSign b bs → (b == 34) ≡ false → (b == 39) ≡ false → mark_of (b ∷ bs) ≡ o
    → marked at o ≡ Err e → IsWrong at (b ∷ bs) e
mark_told at b bs e None i q p m h = wrong_as at (b ∷ bs) (BadByte at) e (cc) (no_form (not_equal b 34 q) (not_equal b 39 p) (no_form_at b bs i m))
mark_told at b bs e (Some k) i q p m h = cc

-- the error that is told is what is wrong
pub piece_told : (at b : ℕ) (bs : List ℕ) (e : LexError) → piece at b (b ∷ bs) ≡ Err e → IsWrong at (b ∷ bs) e
unfolding piece
piece_told at b bs e h =
    let G = IsWrong at (b ∷ bs) e in
    let r : Found = Err e in
    by_test (is_white b) _ _ r G h (λ w f. (cc)) (λ w h1.
    by_test (begins_with 45 45 (b ∷ bs)) _ _ r G h1 (λ l f. (cc)) (λ l h2.
    by_test (begins_with 123 45 (b ∷ bs)) _ _ r G h2 (λ c f. comment_told at b bs e (comment 0 0 (drop 1 bs)) c refl f) (λ c h3.
    by_test (b == 34) _ _ r G h3 (λ q f. text_told at b bs e (equal_of b 34 q) f) (λ q h4.
    by_test (b == 39) _ _ r G h4 (λ p f. character_broken at b bs e (equal_of b 39 p) f) (λ p h5.
    by_test (begins_name (b ∷ bs)) _ _ r G h5 (λ m f. (cc)) (λ m h6.
    by_test (begins_class (b ∷ bs)) _ _ r G h6 (λ k f. (cc)) (λ k h7.
    by_test (is_decimal b) _ _ r G h7 (λ d f. number_told at b bs e d f) (λ d h8.
    mark_told at b bs e (mark_of (b ∷ bs)) (sign_class b bs w q p m d, l, c, m, k) q p refl h8))))))))

-- ---- what is wrong is told

moved : (at b : ℕ) (bs text : List ℕ) → b ∷ bs ≡ text → piece at b (b ∷ bs) ≡ piece at (get_or text 0 0) text
moved at b bs text same = ap (λ z. piece at (get_or z 0 0) z) same

open_piece : (at : ℕ) (ds : List ℕ) → comment 0 0 ds ≡ None → piece at 123 (123 ∷ 45 ∷ ds) ≡ Err (OpenText at)
unfolding piece
open_piece at ds h = ap (opened at) h

no_end : (ds : List ℕ) (o : Option ℕ) → comment 0 0 ds ≡ o → ((n : ℕ) → EndsComment (take n ds) → ⊥) → o ≡ None
no_end ds None c h = refl
no_end ds (Some n) c h = absurd (h n (counted_comment ds n c))

open_told : (at b : ℕ) (bs : List ℕ) → begins_with 123 45 (b ∷ bs) ≡ true → ((n : ℕ) → IsComment (take n (b ∷ bs)) → ⊥)
    → piece at b (b ∷ bs) ≡ Err (OpenText at)
open_told at b bs h n =
    let z = two_bytes 123 45 b bs h in
    let ds = z.1 in
    let same : b ∷ bs ≡ 123 ∷ 45 ∷ ds = ap (λ y. y ∷ bs) z.3 ∙ ap (λ y. 123 ∷ y) (z.2 ∙ ap (λ y. y ∷ ds) z.4) in
    let open' : (k : ℕ) → IsComment (take k (123 ∷ 45 ∷ ds)) → ⊥ = λ k i. n k (subst (λ y. IsComment (take k y)) (sym same) i) in
    moved at b bs (123 ∷ 45 ∷ ds) same ∙ open_piece at ds (no_end ds (comment 0 0 ds) refl (λ k i. open' (suc (suc k)) (refl, refl, i)))

text_piece : (at : ℕ) (bs : List ℕ) (e : LexError) → literal 34 at (at + 1) 0 bs ≡ Err e → piece at 34 (34 ∷ bs) ≡ Err e
unfolding piece
text_piece at [] e h = ap text_token h
text_piece at (c ∷ cs) e h = ap text_token h

character_piece : (at : ℕ) (bs : List ℕ) (e : LexError) → character at bs ≡ Err e → piece at 39 (39 ∷ bs) ≡ Err e
unfolding piece
character_piece at [] e h = h
character_piece at (c ∷ cs) e h = h

-- what is no comment, text or character
first_byte : (b c : ℕ) (bs cs : List ℕ) → b ∷ bs ≡ c ∷ cs → b ≡ c
first_byte b c bs cs e = ap (λ z. get_or z 0 0) e

number_class : (value : ℕ) (base : Base) (digits n b : ℕ) (bs : List ℕ) → 0 < n → IsForm (Some (t.Number value base digits)) (take n (b ∷ bs)) → class_of b ≡ 1
number_class value base digits zero b bs s f = absurd (omega arith)
number_class value base digits (suc k) b bs s f = begins (Some (t.Number value base digits)) b (take k bs) f

not_at : (b c : ℕ) → class_of b ≡ 1 → (class_of c ≡ 1 → ⊥) → b ≡ c → ⊥
not_at b c h n e = n (ap class_of (sym e) ∙ h)

only_wide : (at b : ℕ) (bs : List ℕ) (e : LexError) → class_of b ≡ 1 → (NoForm (b ∷ bs) → ⊥) → IsWrong at (b ∷ bs) e → e ≡ NumberTooWide at
only_wide at b bs e c n (open_comment h i) = absurd (not_at b 123 c (λ z. (omega arith)) (two_bytes 123 45 b bs h).3)
only_wide at b bs e c n (broken_text means inside rest same i k) = absurd (not_at b 34 c (λ z. (omega arith)) (first_byte b 34 bs (inside ++ rest) same))
only_wide at b bs e c n (broken_character rest same k) = absurd (not_at b 39 c (λ z. (omega arith)) (first_byte b 39 bs rest same))
only_wide at b bs e c n (no_byte rest same) = absurd (not_at b 39 c (λ z. (omega arith)) (first_byte b 39 bs (39 ∷ rest) same))
only_wide at b bs e c n (open_character value inside rest same i q) = absurd (not_at b 39 c (λ z. (omega arith)) (first_byte b 39 bs (inside ++ rest) same))
only_wide at b bs e c n (wide_number value base digits k l w) = refl
only_wide at b bs e c n (no_form q p f) = absurd (n f)

too_wide : (value : ℕ) (base : Base) (digits : ℕ) (found : Option Tok) → found ≡ Some (t.Number value base digits) → Fits found → 2 ^ 128 ≤ value → ⊥
too_wide value base digits found e f w = let x : value < 2 ^ 128 = subst Fits e f in omega (arith, x, w)

wide_by : (at b : ℕ) (bs : List ℕ) (value : ℕ) (base : Base) (digits n : ℕ) (r : Found) → piece at b (b ∷ bs) ≡ r
    → IsLongest (Some (t.Number value base digits)) n (b ∷ bs) → 2 ^ 128 ≤ value → r ≡ Err (NumberTooWide at)
wide_by at b bs value base digits n (Ok x) p l w =
    let right = piece_right at b bs x.0 x.1 p in
    let same = one_longest x.0 (Some (t.Number value base digits)) x.1 n b bs right.0 l in
    absurd (too_wide value base digits x.0 same.0 right.2 w)
wide_by at b bs value base digits n (Err e) p l w =
    let number' : Tok = t.Number value base digits in
    ap Err (only_wide at b bs e (number_class value base digits n b bs l.1 l.2) (λ none. none (Some number') n l.1 l.0 l.2) (piece_told at b bs e p))

brace_form : (b : ℕ) (bs : List ℕ) → b ≡ 123 → IsForm (Some (t.Mark m.OpenBrace)) (take 1 (b ∷ bs))
brace_form b bs u = ap (λ z. z ∷ []) u

only_none : (at b : ℕ) (bs : List ℕ) (e : LexError) → b ≢ 34 → b ≢ 39 → NoForm (b ∷ bs) → IsWrong at (b ∷ bs) e → e ≡ BadByte at
only_none at b bs e q p n (open_comment h i) = absurd (n (Some (t.Mark m.OpenBrace)) 1 (omega arith) (omega arith)
    (brace_form b bs (two_bytes 123 45 b bs h).3))
only_none at b bs e q p n (broken_text means inside rest same i k) = absurd (q (first_byte b 34 bs (inside ++ rest) same))
only_none at b bs e q p n (broken_character rest same k) = absurd (p (first_byte b 39 bs rest same))
only_none at b bs e q p n (no_byte rest same) = absurd (p (first_byte b 39 bs (39 ∷ rest) same))
only_none at b bs e q p n (open_character value inside rest same i z) = absurd (p (first_byte b 39 bs (inside ++ rest) same))
only_none at b bs e q p n (wide_number value base digits k l w) = absurd (n (Some (t.Number value base digits)) k l.1 l.0 l.2)
only_none at b bs e q p n (no_form q' p' f) = refl

none_by : (at b : ℕ) (bs : List ℕ) (r : Found) → piece at b (b ∷ bs) ≡ r → b ≢ 34 → b ≢ 39 → NoForm (b ∷ bs) → r ≡ Err (BadByte at)
none_by at b bs (Ok x) h q p n = let right = piece_right at b bs x.0 x.1 h in absurd (n x.0 x.1 right.0.1 right.0.0 right.0.2)
none_by at b bs (Err e) h q p n = ap Err (only_none at b bs e q p n (piece_told at b bs e h))

-- what is wrong is the error that is told
pub wrong_told : (at b : ℕ) (bs : List ℕ) (e : LexError) → IsWrong at (b ∷ bs) e → piece at b (b ∷ bs) ≡ Err e
wrong_told at b bs e (open_comment h n) = open_told at b bs h n
wrong_told at b bs e (broken_text means inside rest same i k) =
    moved at b bs (34 ∷ inside ++ rest) same ∙ text_piece at (inside ++ rest) e
    (broken_behind_read 34 at (at + 1) means inside rest e (refl, λ z. (omega arith)) i k)
wrong_told at b bs e (broken_character rest same k) = moved at b bs (39 ∷ rest) same ∙ character_piece at rest e (broken_character_read at rest e k)
wrong_told at b bs e (no_byte rest same) = moved at b bs (39 ∷ 39 ∷ rest) same ∙ character_piece at (39 ∷ rest) (OpenText at) refl
wrong_told at b bs e (open_character value inside rest same i n) = moved at b bs (39 ∷ inside ++ rest) same
    ∙ character_piece at (inside ++ rest) (OpenText at) (open_character_read at value inside rest i n)
wrong_told at b bs e (wide_number value base digits n l w) = wide_by at b bs value base digits n (piece at b (b ∷ bs)) refl l w
wrong_told at b bs e (no_form q p n) = none_by at b bs (piece at b (b ∷ bs)) refl q p n
