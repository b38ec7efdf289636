-- Where there is an error at a place, no form stands there that is right.
use Rattle.std.proofs.Common.{◌≡◌, ℕ, zero, suc, ◌+◌, ◌==◌, true, List, [], ◌∷◌, length, take, drop, Option, Some, None, Result, Ok, Err, inl, inr, refl, ap}
use Rattle.std.proofs.Common.{subst, arith}
use Rattle.ddl_token.specs.declared.mark.Mark.{Mark}
use Rattle.ddl_token.specs.declared.token.Tok.{Tok}
use Rattle.ddl_token.specs.declared.token.Tok.TheVariants as t
use Rattle.ddl_lex.specs.declared.error.LexError.{LexError}
use Rattle.ddl_lex.specs.Letters.{is_white, is_decimal, begins_with}
use Rattle.ddl_lex.specs.Comments.{comment}
use Rattle.ddl_lex.specs.Literals.{literal, character}
use Rattle.ddl_lex.specs.Names.{begins_name, begins_class}
use Rattle.ddl_lex.specs.Numbers.{number, base_of}
use Rattle.ddl_lex.specs.Marks.{mark_of}
use Rattle.ddl_lex.specs.Pieces.{piece, opened, text_token, marked}
use Rattle.ddl_lex.specs.Forms.{IsForm, IsLongest, Fits}
use Rattle.ddl_lex.proofs.Firsts.{class_of, Begins, begins, white_class, decimal_class}
use Rattle.ddl_lex.proofs.Lengths.{line_byte}
use Rattle.ddl_lex.proofs.Nested.{comment_counted}
use Rattle.ddl_lex.proofs.Commented.{comment_more}
use Rattle.ddl_lex.proofs.Contents.{literal_read}
use Rattle.ddl_lex.proofs.Digits.{digits_longest, number_token, number_right, extent}
use Rattle.ddl_lex.proofs.Quoted.{literal_more, at_quote}
use Rattle.ddl_lex.proofs.Characters.{character_right}
use Rattle.ddl_lex.proofs.Namely.{white_byte, IsSign, no_form}
use Rattle.ddl_lex.proofs.Longest.{Found, IsRight, by_test, two_bytes, sign_class}
use Rattle.ddl_lex.proofs.Same.{one_longest}
use Rattle.ddl_lex.proofs.Decided.{equal_of}

-- ---- a comment that is not closed

comment_closed : (b d : ℕ) (ds : List ℕ) (k : ℕ) → b ≡ 123 → comment 0 0 ds ≡ None → IsForm None (b ∷ take k (d ∷ ds)) → ⊥
comment_closed b d ds k u c (inl w) = let x = white_class b (white_byte b (take k (d ∷ ds)) w) in let y : class_of b ≡ 5 = ap class_of u in omega arith
comment_closed b d ds k u c (inr (inl l)) = omega (arith, line_byte b (take k (d ∷ ds)) l)
comment_closed b d ds zero u c (inr (inr l)) = l
comment_closed b d ds (suc k) u c (inr (inr l)) = let x = comment_more 0 0 ds k (length (take k ds)) (comment_counted (take k ds) l.2) in cc

comment_at : (b d : ℕ) (ds : List ℕ) (n : ℕ) → b ≡ 123 → comment 0 0 ds ≡ None → IsLongest None n (b ∷ d ∷ ds) → ⊥
comment_at b d ds zero u c l = omega (arith, l.1)
comment_at b d ds (suc n) u c l = comment_closed b d ds n u c l.2

comment_none : (at b d : ℕ) (ds : List ℕ) (n : ℕ) (o : Option ℕ) (e : LexError) → b ≡ 123 → comment 0 0 ds ≡ o → opened at o ≡ Err e
    → IsLongest None n (b ∷ d ∷ ds) → ⊥
comment_none at b d ds n None e u c h l = comment_at b d ds n u c l
comment_none at b d ds n (Some m) e u c h l = cc

comment_wrong : (at b : ℕ) (bs : List ℕ) (found : Option Tok) (n : ℕ) (e : LexError) → begins_with 123 45 (b ∷ bs) ≡ true
    → opened at (comment 0 0 (drop 1 bs)) ≡ Err e → IsRight found n (b ∷ bs) → ⊥
comment_wrong at b bs found n e c h r =
    let z = two_bytes 123 45 b bs c in
    let longest : IsLongest None n (b ∷ bs) = subst (λ x. IsLongest x n (b ∷ bs)) (r.1 c) r.0 in
    let longest' : IsLongest None n (b ∷ z.0 ∷ z.1) = subst (λ x. IsLongest None n (b ∷ x)) z.2 longest in
    let wrong : opened at (comment 0 0 z.1) ≡ Err e = subst (λ x. opened at (comment 0 0 (drop 1 x)) ≡ Err e) z.2 h in
    comment_none at b z.0 z.1 n (comment 0 0 z.1) e z.3 refl wrong longest'

-- ---- a literal that cannot be read

text_read : (x : Result (List ℕ × ℕ) LexError) (means : List ℕ) (n : ℕ) (e : LexError) → x ≡ Ok (means, n) → text_token x ≡ Err e → ⊥
text_read (Err z) means n e f h = cc
text_read (Ok r) means n e f h = cc

text_wrong : (at b : ℕ) (bs : List ℕ) (found : Option Tok) (n : ℕ) (e : LexError) → b ≡ 34 → text_token (literal 34 at (at + 1) 0 bs) ≡ Err e
    → IsLongest found n (b ∷ bs) → ⊥
text_wrong at b bs found zero e u h l = omega (arith, l.1)
text_wrong at b bs found (suc k) e u h l =
    let x = at_quote b bs (class_of b) refl (ap class_of u) found k l.2 (begins found b (take k bs) l.2) in
    text_read (literal 34 at (at + 1) 0 bs) x.0 (length (take k bs)) e (literal_more 34 0 1 at (at + 1) 0 bs k (length (take k bs)) x.0 x.1) h

at_character : (b : ℕ) (bs : List ℕ) (c : ℕ) → class_of b ≡ c → c ≡ 4 → (q : Option Tok) (k : ℕ) → IsForm q (b ∷ take k bs) → Begins q c
    → (x : ℕ) × (literal 39 0 1 0 (take k bs) ≡ Ok (x ∷ [], length (take k bs)))
at_character b bs c s e None k f (inl g) = absurd (omega arith)
at_character b bs c s e None k f (inr g) = absurd (omega arith)
at_character b bs c s e (Some (t.Word w)) k f g = absurd (omega arith)
at_character b bs c s e (Some (t.Mark m)) k f g = absurd (omega arith)
at_character b bs c s e (Some (t.Upper name)) k f g = absurd (omega arith)
at_character b bs c s e (Some (t.Lower name)) k f (inl g) = absurd (omega arith)
at_character b bs c s e (Some (t.Lower name)) k f (inr g) = absurd (omega arith)
at_character b bs c s e (Some (t.Class name)) k f g = absurd (omega arith)
at_character b bs c s e (Some (t.Number v base n)) k f g = absurd (omega arith)
at_character b bs c s e (Some (t.Char x)) k f g = (x, (literal_read 39 b (take k bs) (x ∷ []) (λ z. (omega arith)) f).1)
at_character b bs c s e (Some (t.Text means)) k f g = absurd (omega arith)

character_wrong : (at b : ℕ) (bs : List ℕ) (found : Option Tok) (n : ℕ) (e : LexError) → b ≡ 39 → character at bs ≡ Err e → IsLongest found n (b ∷ bs) → ⊥
character_wrong at b bs found zero e u h l = omega (arith, l.1)
character_wrong at b bs found (suc k) e u h l =
    let x = at_character b bs (class_of b) refl (ap class_of u) found k l.2 (begins found b (take k bs) l.2) in
    character_right at x.0 (length (take k bs)) bs e (literal_more 39 0 1 0 1 0 bs k (length (take k bs)) (x.0 ∷ []) x.1) h

-- ---- a number that is too wide

number_wrong : (at b : ℕ) (bs : List ℕ) (found : Option Tok) (n : ℕ) (e : LexError) → is_decimal b ≡ true → number at (b ∷ bs) ≡ Err e
    → IsRight found n (b ∷ bs) → ⊥
number_wrong at b bs found n e d h r =
    let number = number_token (b ∷ bs) in
    let same = one_longest found (Some number) n (extent (base_of (b ∷ bs)) (b ∷ bs)) b bs r.0 (digits_longest b bs d (decimal_class b d)) in
    number_right at (b ∷ bs) e (subst Fits same.0 r.2) h

-- ---- no form

mark_wrong : (at b : ℕ) (bs : List ℕ) (found : Option Tok) (n : ℕ) (o : Option Mark) (e : LexError) → IsSign b bs → mark_of (b ∷ bs) ≡ o → marked at o ≡ Err e
    → IsLongest found n (b ∷ bs) → ⊥
mark_wrong at b bs found n (Some m) e i o h l = cc
mark_wrong at b bs found zero None e i o h l = omega (arith, l.1)
mark_wrong at b bs found (suc k) None e i o h l = no_form b bs i o found k (omega (arith, l.0)) l.2

-- Where there is an error no form is right.
pub piece_wrong : (at b : ℕ) (bs : List ℕ) (found : Option Tok) (n : ℕ) (e : LexError) → IsRight found n (b ∷ bs) → piece at b (b ∷ bs) ≡ Err e → ⊥
unfolding piece
piece_wrong at b bs found n e right h =
    let r : Found = Err e in
    by_test (is_white b) _ _ r ⊥ h (λ w f. (cc)) (λ w h1.
    by_test (begins_with 45 45 (b ∷ bs)) _ _ r ⊥ h1 (λ l f. (cc)) (λ l h2.
    by_test (begins_with 123 45 (b ∷ bs)) _ _ r ⊥ h2 (λ c f. comment_wrong at b bs found n e c f right) (λ c h3.
    by_test (b == 34) _ _ r ⊥ h3 (λ q f. text_wrong at b bs found n e (equal_of b 34 q) f right.0) (λ q h4.
    by_test (b == 39) _ _ r ⊥ h4 (λ p f. character_wrong at b bs found n e (equal_of b 39 p) f right.0) (λ p h5.
    by_test (begins_name (b ∷ bs)) _ _ r ⊥ h5 (λ m f. (cc)) (λ m h6.
    by_test (begins_class (b ∷ bs)) _ _ r ⊥ h6 (λ k f. (cc)) (λ k h7.
    by_test (is_decimal b) _ _ r ⊥ h7 (λ d f. number_wrong at b bs found n e d f right) (λ d h8.
    mark_wrong at b bs found n (mark_of (b ∷ bs)) e (sign_class b bs w q p m d, l, c, m, k) refl h8 right.0))))))))
