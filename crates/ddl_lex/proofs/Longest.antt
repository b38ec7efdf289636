-- What is found at a place is the longest form that begins there.
use Rattle.std.proofs.Common.{◌≡◌, ℕ, suc, ◌+◌, ◌==◌, ◌&&◌, ◌||◌, Bool, true, false, List, [], ◌∷◌, length, take, drop, get_or, Option, Some, None, Result, Ok}
use Rattle.std.proofs.Common.{Err, inl, refl, sym, subst, arith, if◌then◌else◌}
use Rattle.ddl_token.specs.declared.word.Word.{Word}
use Rattle.ddl_token.specs.declared.mark.Mark.{Mark}
use Rattle.ddl_token.specs.declared.token.Tok.{Tok}
use Rattle.ddl_token.specs.declared.token.Tok.TheVariants as t
use Rattle.ddl_token.specs.Spelling.{mark_spelling}
use Rattle.ddl_lex.specs.declared.error.LexError.{LexError}
use Rattle.ddl_lex.specs.Letters.{is_capital, is_white, is_decimal, is_name, in_line, run, begins_with}
use Rattle.ddl_lex.specs.Comments.{comment}
use Rattle.ddl_lex.specs.Literals.{literal, character}
use Rattle.ddl_lex.specs.Names.{begins_name, begins_class, named, class, longer_word, word_or_name, word_of, signed_word}
use Rattle.ddl_lex.specs.Marks.{mark_of}
use Rattle.ddl_lex.specs.Pieces.{piece, opened, text_token, marked}
use Rattle.ddl_lex.specs.Forms.{IsLongest, Fits}
use Rattle.ddl_lex.proofs.Firsts.{is_letter, class_of, white_class, decimal_class}
use Rattle.ddl_lex.proofs.Lengths.{white_no_longer}
use Rattle.ddl_lex.proofs.Commented.{comment_longest, line_longest}
use Rattle.ddl_lex.proofs.Digits.{number_longest, number_fits}
use Rattle.ddl_lex.proofs.Quoted.{text_longest, character_longest, character_by}
use Rattle.ddl_lex.proofs.Namely.{IsSign, named_longest, class_longest, mark_longest}
use Rattle.ddl_lex.proofs.Decided.{both, equal_of}

abbrev pub Found : Type 0
Found = Result (Option Tok × ℕ) LexError

-- the longest form, a comment where one is opened, and a number that fits
abbrev pub IsRight : Option Tok → ℕ → List ℕ → Type 0
IsRight found n text = IsLongest found n text × (begins_with 123 45 text ≡ true → found ≡ None) × Fits found

-- by the answer of a test
pub by_test : (v : Bool) (x y r : Found) (G : Type 0) → (if v then x else y) ≡ r → (v ≡ true → x ≡ r → G) → (v ≡ false → y ≡ r → G) → G
by_test true x y r G e f g = f refl e
by_test false x y r G e f g = g refl e

-- what is found is one thing
right_by : (found found' : Option Tok) (n n' : ℕ) (text : List ℕ) (r : Found) → r ≡ Ok (found, n) → r ≡ Ok (found', n') → IsRight found n text
    → IsRight found' n' text
right_by found found' n n' text r e f right =
    let pair : Option Tok × ℕ = (found, n) in let want : Option Tok × ℕ = (found', n') in let same : pair ≡ want = cc in
    subst (λ z. IsRight z.0 z.1 text) same right

pub two_bytes : (x y b : ℕ) (bs : List ℕ) → begins_with x y (b ∷ bs) ≡ true → (d : ℕ) × (ds : List ℕ) × (bs ≡ d ∷ ds) × (b ≡ x) × (d ≡ y)
two_bytes x y b [] h = cc
two_bytes x y b (d ∷ ds) h = let z = both (b == x) (d == y) h in (d, ds, refl, equal_of b x z.0, equal_of d y z.1)

white_right : (b : ℕ) (bs : List ℕ) → is_white b ≡ true → IsRight None 1 (b ∷ bs)
white_right b bs h = ((omega arith, omega arith, inl h, white_no_longer b bs (white_class b h)), λ _. refl, tt)

line_right : (b : ℕ) (bs : List ℕ) → begins_with 45 45 (b ∷ bs) ≡ true → IsRight None (run in_line (b ∷ bs)) (b ∷ bs)
line_right b bs h = let z = two_bytes 45 45 b bs h in
    subst (λ x. IsRight None (run in_line (b ∷ x)) (b ∷ x)) (sym z.2) (line_longest b z.0 z.1 z.3 z.4, λ _. refl, tt)

opened_right : (at b d : ℕ) (ds : List ℕ) (found : Option Tok) (n : ℕ) (o : Option ℕ) → b ≡ 123 → d ≡ 45 → comment 0 0 ds ≡ o → opened at o ≡ Ok (found, n)
    → IsRight found n (b ∷ d ∷ ds)
opened_right at b d ds found n None u v c e = cc
opened_right at b d ds found n (Some m) u v c e = right_by None found (m + 2) n (b ∷ d ∷ ds) (opened at (Some m)) refl e (
  comment_longest b d ds m u v c,
  λ _.
      refl,
  tt,
)

comment_right : (at b : ℕ) (bs : List ℕ) (found : Option Tok) (n : ℕ) → begins_with 123 45 (b ∷ bs) ≡ true → opened at (comment 0 0 (drop 1 bs)) ≡ Ok (found, n)
    → IsRight found n (b ∷ bs)
comment_right at b bs found n h e = let z = two_bytes 123 45 b bs h in
    subst (λ x. IsRight found n (b ∷ x)) (sym z.2) (opened_right at b z.0 z.1 found n (comment 0 0 z.1) z.3 z.4 refl
    (subst (λ x. opened at (comment 0 0 (drop 1 x)) ≡ Ok (found, n)) z.2 e))

text_right : (at b : ℕ) (bs : List ℕ) (found : Option Tok) (n : ℕ) (r : Result (List ℕ × ℕ) LexError) → begins_with 123 45 (b ∷ bs) ≡ false → b ≡ 34
    → literal 34 at (at + 1) 0 bs ≡ r → text_token r ≡ Ok (found, n) → IsRight found n (b ∷ bs)
text_right at b bs found n (Err x) c u l e = cc
text_right at b bs found n (Ok r) c u l e = right_by (Some (t.Text r.0)) found (suc r.1) n (b ∷ bs) (text_token (Ok r)) refl e
    (text_longest at (at + 1) b bs r.0 r.1 u l, λ h. (cc), tt)

character_right : (at b : ℕ) (bs : List ℕ) (found : Option Tok) (n : ℕ) → begins_with 123 45 (b ∷ bs) ≡ false → b ≡ 39 → character at bs ≡ Ok (found, n)
    → IsRight found n (b ∷ bs)
character_right at b bs found n c u e =
    let x = character_by at bs _ found n e in
    (character_longest at b bs found n u e, λ h. (cc), subst Fits (sym x.4) tt)

no_word_fits : (v : Bool) (name : List ℕ) → Fits (Some (if v then t.Upper name else t.Lower name))
no_word_fits true name = tt
no_word_fits false name = tt

word_fits : (o : Option Word) (name : List ℕ) → Fits (Some (word_or_name o name))
word_fits (Some w) name = tt
word_fits None name = no_word_fits (is_capital (get_or name 0 0)) name

longer_fits : (o : Option Word) (n : ℕ) (name : List ℕ) → Fits (longer_word o n name).0
longer_fits (Some w) n name = tt
longer_fits None n name = word_fits (word_of name) name

named_fits : (n : ℕ) (text : List ℕ) → Fits (named n text).0
named_fits n text = longer_fits (signed_word n text) n (take n text)

named_right : (b : ℕ) (bs : List ℕ) (found : Option Tok) (n : ℕ) (r : Found) → begins_with 123 45 (b ∷ bs) ≡ false → begins_name (b ∷ bs) ≡ true
    → r ≡ Ok (named (run is_name (b ∷ bs)) (b ∷ bs)) → r ≡ Ok (found, n) → IsRight found n (b ∷ bs)
named_right b bs found n r c h e f =
    let x = named (run is_name (b ∷ bs)) (b ∷ bs) in
    right_by x.0 found x.1 n (b ∷ bs) r e f (named_longest b bs h, λ g. (cc), named_fits (run is_name (b ∷ bs)) (b ∷ bs))

class_right : (b : ℕ) (bs : List ℕ) (found : Option Tok) (n : ℕ) (r : Found) → begins_with 123 45 (b ∷ bs) ≡ false → begins_class (b ∷ bs) ≡ true
    → r ≡ Ok (class (suc (run is_name bs)) (b ∷ bs)) → r ≡ Ok (found, n) → IsRight found n (b ∷ bs)
class_right b bs found n r c h e f =
    right_by (Some (t.Class (take (suc (run is_name bs)) (b ∷ bs)))) found (suc (run is_name bs)) n (b ∷ bs) r e f (class_longest b bs h, λ g. (cc), tt)

mark_right : (at b : ℕ) (bs : List ℕ) (found : Option Tok) (n : ℕ) (o : Option Mark) → IsSign b bs → mark_of (b ∷ bs) ≡ o → marked at o ≡ Ok (found, n)
    → IsRight found n (b ∷ bs)
mark_right at b bs found n None i m e = cc
mark_right at b bs found n (Some k) i m e = right_by (Some (t.Mark k)) found (length (mark_spelling k)) n (b ∷ bs) (marked at (Some k)) refl e
    (mark_longest b bs k i m, λ h. (cc (i.2)), tt)

first_false : (a b : Bool) → (a || b) ≡ false → a ≡ false
first_false true b h = h
first_false false b h = refl

-- a byte of no other class
pub sign_class : (b : ℕ) (bs : List ℕ) → is_white b ≡ false → (b == 34) ≡ false → (b == 39) ≡ false → begins_name (b ∷ bs) ≡ false → is_decimal b ≡ false
    → class_of b ≡ 5
sign_class b bs w x y n d = rw (first_false (is_letter b) (b == 95 && is_name (get_or bs 0 0)) n, d, w, x, y) refl

-- What is found at a place is right.
pub piece_right : (at b : ℕ) (bs : List ℕ) (found : Option Tok) (n : ℕ) → piece at b (b ∷ bs) ≡ Ok (found, n) → IsRight found n (b ∷ bs)
unfolding piece
piece_right at b bs found n h =
    let G = IsRight found n (b ∷ bs) in
    let r : Found = Ok (found, n) in
    by_test (is_white b) _ _ r G h (λ w e. right_by None found 1 n (b ∷ bs) (Ok (found, n)) (sym e) refl (white_right b bs w)) (λ w h1.
    by_test (begins_with 45 45 (b ∷ bs)) _ _ r G h1 (λ l e.
    right_by None found (run in_line (b ∷ bs)) n (b ∷ bs) (Ok (found, n)) (sym e) refl (line_right b bs l)) (λ l h2.
    by_test (begins_with 123 45 (b ∷ bs)) _ _ r G h2 (λ c e. comment_right at b bs found n c e) (λ c h3.
    by_test (b == 34) _ _ r G h3 (λ q e. text_right at b bs found n (literal 34 at (at + 1) 0 bs) c (equal_of b 34 q) refl e) (λ q h4.
    by_test (b == 39) _ _ r G h4 (λ p e. character_right at b bs found n c (equal_of b 39 p) e) (λ p h5.
    by_test (begins_name (b ∷ bs)) _ _ r G h5 (λ m e. named_right b bs found n (Ok (found, n)) c m (sym e) refl) (λ m h6.
    by_test (begins_class (b ∷ bs)) _ _ r G h6 (λ k e. class_right b bs found n (Ok (found, n)) c k (sym e) refl) (λ k h7.
    by_test (is_decimal b) _ _ r G h7 (λ d e. (number_longest at b bs found n d (decimal_class b d) e, (λ x. (cc)), number_fits at (b ∷ bs) found n e)) (λ d h8.
    mark_right at b bs found n (mark_of (b ∷ bs)) (sign_class b bs w q p m d, l, c, m, k) refl h8))))))))
