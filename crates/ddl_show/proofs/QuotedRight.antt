-- A literal with a blank behind it begins with that literal.
use Rattle.std.proofs.Common.{◌≡◌, ◌⊎◌, ◌<◌, ◌≤◌, ℕ, suc, ◌+◌, ◌*◌, ◌/◌, ◌%◌, ◌==◌, ◌||◌, Bool, true, false, List, [], ◌∷◌, ◌++◌, length, Option, Some, None}
use Rattle.std.proofs.Common.{Ok, inl, inr, refl, ap, sym, subst, ◌∙◌, arith, append_assoc, length-append, if◌then◌else◌}
use Rattle.std.proofs.lemmas.Bool.Decides.{nat_tests}
use Rattle.std.proofs.lemmas.List.{append-nil}
use Rattle.std.proofs.Math.Seq.{drop-append_seam, get_or-append_seam}
use Rattle.ddl_token.specs.declared.token.Tok.{Tok}
use Rattle.ddl_token.specs.declared.token.Tok.TheVariants as t
use Rattle.ddl_lex.specs.declared.literal.Element.TheVariants.{Means}
use Rattle.ddl_lex.specs.Letters.{between, is_control}
use Rattle.ddl_lex.specs.Letters.{is_hexadecimal, digit_value, begins_with}
use Rattle.ddl_lex.specs.Literals.{element, literal, character, character_of}
use Rattle.ddl_lex.proofs.Elements.{behind, one_element}
use Rattle.ddl_lex.proofs.Decided.{either, equal_of}
use Rattle.ddl_lex.proofs.Longest.{IsRight, two_bytes}
use Rattle.ddl_lex.proofs.Quoted.{text_longest, character_longest}
use Rattle.ddl_show.specs.Numerals.{digit}
use Rattle.ddl_show.specs.Quoted.{written, all_written, quoted}
use Rattle.ddl_show.specs.ReadBack.{AreBytes}

-- ---- digits

pub digit_hexadecimal : (d : ℕ) → d < 16 → is_hexadecimal (digit d) ≡ true
digit_hexadecimal d h = grind (arith, nat_tests)

pub digit_means : (d : ℕ) → d < 16 → digit_value (digit d) ≡ d
digit_means d h = grind (arith, nat_tests)

-- ---- one byte

-- the quote of a text or a character
IsQuote : ℕ → Type 0
IsQuote q = (q ≡ 34) ⊎ (q ≡ 39)

escaped_by : (q b : ℕ) (rest : List ℕ) → IsQuote q → (b ≡ q) ⊎ (b ≡ 92) → element q (92 ∷ b ∷ rest) ≡ Means b 2
unfolding IsQuote
escaped_by q b rest (inl e) (inl f) = rw (f, e) refl
escaped_by q b rest (inr e) (inl f) = rw (f, e) refl
escaped_by q b rest (inl e) (inr f) = rw (f, e) refl
escaped_by q b rest (inr e) (inr f) = rw (f, e) refl

is_escaped : (q b : ℕ) → (b == q || b == 92) ≡ true → (b ≡ q) ⊎ (b ≡ 92)
is_escaped q b h = elim (either (b == q) (b == 92) h) [ inl e ↦ inl (equal_of b q e) | inr e ↦ inr (equal_of b 92 e) ]

or_false : (a b : Bool) → (a || b) ≡ false → (a ≡ false) × (b ≡ false)
or_false true b h = absurd (cc)
or_false false b h = (refl, h)

visible : (b : ℕ) → between 32 126 b ≡ true → ((b == 10) ≡ false) × (is_control b ≡ false)
visible b h = (grind (arith, nat_tests), grind (arith, nat_tests))

plain : (q b : ℕ) (rest : List ℕ) → (b == q || b == 92) ≡ false → between 32 126 b ≡ true → element q (b ∷ rest) ≡ Means b 1
plain q b rest h v = let z = or_false (b == q) (b == 92) h in let w = visible b v in rw (z.0, z.1, w.0, w.1) refl

coded_means : (b : ℕ) → b < 256 → 16 * digit_value (digit (b / 16)) + digit_value (digit (b % 16)) ≡ b
coded_means b h =
    let high : b / 16 < 16 = omega arith in
    let low : b % 16 < 16 = omega arith in
    rw (digit_means (b / 16) high, digit_means (b % 16) low) (omega arith)

coded_by : (q b : ℕ) (rest : List ℕ) → IsQuote q → b < 256 → element q (92 ∷ 120 ∷ digit (b / 16) ∷ digit (b % 16) ∷ rest) ≡ Means b 4
unfolding IsQuote
coded_by q b rest (inl e) h =
    let high : b / 16 < 16 = omega arith in
    let low : b % 16 < 16 = omega arith in
    rw (e, digit_hexadecimal (b / 16) high, digit_hexadecimal (b % 16) low) (ap (λ z. Means z 4) (coded_means b h))
coded_by q b rest (inr e) h =
    let high : b / 16 < 16 = omega arith in
    let low : b % 16 < 16 = omega arith in
    rw (e, digit_hexadecimal (b / 16) high, digit_hexadecimal (b % 16) low) (ap (λ z. Means z 4) (coded_means b h))

-- what is written is one element, which means the byte
Written : ℕ → ℕ → List ℕ → List ℕ → Type 0
Written q b form rest = (element q (form ++ rest) ≡ Means b (length form)) × (0 < length form)

written_by : (q b : ℕ) (rest : List ℕ) (v w : Bool) → IsQuote q → b < 256 → (b == q || b == 92) ≡ v → between 32 126 b ≡ w →
    Written q b (if v then 92 ∷ b ∷ [] else (if w then b ∷ [] else 92 ∷ 120 ∷ digit (b / 16) ∷ digit (b % 16) ∷ [])) rest
unfolding Written
written_by q b rest true w quote h e f = (escaped_by q b rest quote (is_escaped q b e), omega arith)
written_by q b rest false true quote h e f = (plain q b rest e f, omega arith)
written_by q b rest false false quote h e f = (coded_by q b rest quote h, omega arith)

one_written : (q b : ℕ) (rest : List ℕ) → IsQuote q → b < 256 → (element q (written q b ++ rest) ≡ Means b (length (written q b))) × (0 < length (written q b))
unfolding Written
one_written q b rest quote h = written_by q b rest (b == q || b == 92) (between 32 126 b) quote h refl refl

-- ---- all bytes

closes : (q s a : ℕ) (rest : List ℕ) → IsQuote q → literal q s a 0 (q ∷ rest) ≡ Ok ([], 1)
unfolding IsQuote
closes q s a rest (inl e) = rw e refl
closes q s a rest (inr e) = rw e refl

literal_written : (q s a : ℕ) (bytes rest : List ℕ) → IsQuote q → AreBytes bytes
    → literal q s a 0 (all_written q bytes ++ q ∷ rest) ≡ Ok (bytes, length (all_written q bytes) + 1)
literal_written q s a [] rest quote h = closes q s a rest quote
literal_written q s a (b ∷ bs) rest quote h =
    let front = written q b in
    let back = all_written q bs ++ q ∷ rest in
    let n = length front in
    let one = one_written q b back quote h.0 in
    let size : n ≤ length (front ++ back) = omega (arith, length-append front back) in
    let total : n + (length (all_written q bs) + 1) ≡ length (front ++ all_written q bs) + 1 = omega (arith, length-append front (all_written q bs)) in
    ap (literal q s a 0) (append_assoc front (all_written q bs) (q ∷ rest))
    ∙ one_element q s a b n (front ++ back) one.0 one.1 size
    ∙ ap (λ z. behind (b ∷ []) n (literal q s (a + n) 0 z)) (drop-append_seam front back)
    ∙ ap (behind (b ∷ []) n) (literal_written q s (a + n) bs rest quote h.1)
    ∙ ap (λ z. Ok (b ∷ bs, z)) total

-- ---- literals

pub no_comment_at : (b : ℕ) (bs : List ℕ) (found : Option Tok) → b < 123 → begins_with 123 45 (b ∷ bs) ≡ true → found ≡ None
no_comment_at b bs found less h = let z = two_bytes 123 45 b bs h in absurd (omega (arith, z.3))

pub text_right : (bytes : List ℕ) (c : ℕ) (rest : List ℕ) → AreBytes bytes
    → IsRight (Some (t.Text bytes)) (length (quoted 34 bytes)) (quoted 34 bytes ++ c ∷ rest)
unfolding IsQuote
text_right bytes c rest h =
    let inside = all_written 34 bytes in
    let text = 34 ∷ inside ++ 34 ∷ c ∷ rest in
    let n : length (inside ++ 34 ∷ []) ≡ length inside + 1 = length-append inside (34 ∷ []) in
    let longest = text_longest 0 1 34 (inside ++ 34 ∷ c ∷ rest) bytes (length inside + 1) refl (literal_written 34 0 1 bytes (c ∷ rest) (inl refl) h) in
    let right : IsRight (Some (t.Text bytes)) (suc (length inside + 1)) text =
    (longest, no_comment_at 34 (inside ++ 34 ∷ c ∷ rest) (Some (t.Text bytes)) (omega arith), tt) in
    let here : IsRight (Some (t.Text bytes)) (length (quoted 34 bytes)) text = subst (λ z. IsRight (Some (t.Text bytes)) (suc z) text) (sym n) right in
    subst (λ z. IsRight (Some (t.Text bytes)) (length (quoted 34 bytes)) (34 ∷ z)) (sym (append_assoc inside (34 ∷ []) (c ∷ rest))) here

character_is : (b : ℕ) (front back : List ℕ) → element 39 (front ++ 39 ∷ back) ≡ Means b (length front)
    → character 0 (front ++ 39 ∷ back) ≡ Ok (Some (t.Char b), length front + 2)
character_is b front back e =
    let quote = get_or-append_seam front 39 back 0 in
    ap (character_of 0 (front ++ 39 ∷ back)) e ∙ (rw quote refl)

pub char_right : (b c : ℕ) (rest : List ℕ) → b < 256 → IsRight (Some (t.Char b)) (length (quoted 39 (b ∷ []))) (quoted 39 (b ∷ []) ++ c ∷ rest)
unfolding IsQuote
char_right b c rest h =
    let front = written 39 b in
    let text = 39 ∷ front ++ 39 ∷ c ∷ rest in
    let one = one_written 39 b (39 ∷ c ∷ rest) (inr refl) h in
    let longest = character_longest 0 39 (front ++ 39 ∷ c ∷ rest) (Some (t.Char b)) (length front + 2) refl (character_is b front (c ∷ rest) one.0) in
    let n : length front + 2 ≡ suc (length (front ++ 39 ∷ [])) = omega (arith, length-append front (39 ∷ [])) in
    let right : IsRight (Some (t.Char b)) (length front + 2) text = (longest, no_comment_at 39 (front ++ 39 ∷ c ∷ rest) (Some (t.Char b)) (omega arith), tt) in
    let here : IsRight (Some (t.Char b)) (suc (length (front ++ 39 ∷ []))) text = subst (λ z. IsRight (Some (t.Char b)) z text) n right in
    let joined : IsRight (Some (t.Char b)) (suc (length (front ++ 39 ∷ []))) (39 ∷ (front ++ 39 ∷ []) ++ c ∷ rest) =
    subst (λ z. IsRight (Some (t.Char b)) (suc (length (front ++ 39 ∷ []))) (39 ∷ z)) (sym (append_assoc front (39 ∷ []) (c ∷ rest))) here in
    subst (λ z. IsRight (Some (t.Char b)) (suc (length (z ++ 39 ∷ []))) (39 ∷ (z ++ 39 ∷ []) ++ c ∷ rest)) (sym (append-nil front)) joined
