-- A number with a blank behind it begins with that number.
use Rattle.std.proofs.Common.{◌≡◌, ◌<◌, ◌≤◌, ℕ, zero, suc, ◌+◌, ◌*◌, ◌/◌, ◌%◌, ◌^◌, ◌==◌, ◌&&◌, Bool, true, false, List, [], ◌∷◌, ◌++◌, length, take, drop}
use Rattle.std.proofs.Common.{Option, Some, Result, Ok, Err, inl, inr, refl, ap, sym, subst, ◌∙◌, arith, append_assoc, length-append, if◌then◌else◌}
use Rattle.std.specs.Prelude.{nat_lt}
use Rattle.std.proofs.lemmas.Bool.Decides.{nat_tests}
use Rattle.std.proofs.lemmas.Bool.{lt-ltb}
use Rattle.std.proofs.lemmas.List.{reverse-append, length-reverse}
use Rattle.std.proofs.lemmas.Nat.{div-add-mod'}
use Rattle.std.proofs.Math.Nat.{mod-lt, div-lt_iff_lt-mul, pow-suc, pow-zero}
use Rattle.ddl_token.specs.declared.token.Base.{Base}
use Rattle.ddl_token.specs.declared.token.Base.TheVariants.{Decimal, Hexadecimal, Binary}
use Rattle.ddl_token.specs.declared.token.Tok.{Tok}
use Rattle.ddl_token.specs.declared.token.Tok.TheVariants as t
use Rattle.ddl_lex.specs.declared.error.LexError.{LexError}
use Rattle.ddl_lex.specs.declared.error.LexError.TheVariants.{NumberTooWide}
use Rattle.ddl_lex.specs.Letters.{is_decimal, run}
use Rattle.ddl_lex.specs.Letters.{digit_value}
use Rattle.ddl_lex.specs.Numbers.{radix, base_mark, is_digit_of, base_of, value_behind, number_of, number}
use Rattle.ddl_lex.specs.Forms.{AllPass, base_spelling}
use Rattle.ddl_lex.proofs.Firsts.{decimal_class}
use Rattle.ddl_lex.proofs.Digits.{number_longest, number_fits}
use Rattle.ddl_lex.proofs.Longest.{IsRight}
use Rattle.ddl_show.specs.Numerals.{digit, low_digits, digits}
use Rattle.ddl_show.proofs.Inked.{IsBlank}
use Rattle.ddl_show.proofs.NamedRight.{run_is, take_front}
use Rattle.ddl_show.proofs.QuotedRight.{digit_means, no_comment_at}

-- ---- the digits that are written

radix_some : (base : Base) → 1 < radix base
radix_some Decimal = omega arith
radix_some Hexadecimal = omega arith
radix_some Binary = omega arith

radix_few : (base : Base) → radix base ≤ 16
radix_few Decimal = omega arith
radix_few Hexadecimal = omega arith
radix_few Binary = omega arith

digit_is : (base : Base) (d : ℕ) → d < radix base → is_digit_of base (digit d) ≡ true
digit_is Decimal d h = grind (arith, nat_tests)
digit_is Hexadecimal d h = grind (arith, nat_tests)
digit_is Binary d h = grind (arith, nat_tests)

pass_both : (p : ℕ → Bool) (xs ys : List ℕ) → AllPass p xs → AllPass p ys → AllPass p (xs ++ ys)
pass_both p [] ys h k = k
pass_both p (x ∷ xs) ys h k = (h.0, pass_both p xs ys h.1 k)

more_digits : (radix n value : ℕ) → digits radix (suc n) value ≡ digits radix n (value / radix) ++ digit (value % radix) ∷ []
more_digits radix n value = reverse-append (digit (value % radix) ∷ []) (low_digits radix n (value / radix))

digits_pass : (base : Base) (n value : ℕ) → AllPass (is_digit_of base) (digits (radix base) n value)
digits_pass base zero value = tt
digits_pass base (suc n) value =
    let r = radix base in
    let positive : 0 < r = omega (arith, radix_some base) in
    let one : AllPass (is_digit_of base) (digit (value % r) ∷ []) = (digit_is base (value % r) (mod-lt value positive), tt) in
    subst (AllPass (is_digit_of base)) (sym (more_digits r n value))
    (pass_both (is_digit_of base) (digits r n (value / r)) (digit (value % r) ∷ []) (digits_pass base n (value / r)) one)

low_length : (radix n value : ℕ) → length (low_digits radix n value) ≡ n
low_length radix zero value = refl
low_length radix (suc n) value = ap suc (low_length radix n (value / radix))

digits_length : (radix n value : ℕ) → length (digits radix n value) ≡ n
digits_length radix n value = length-reverse (low_digits radix n value) ∙ low_length radix n value

value_more : (radix v : ℕ) (ds : List ℕ) (d : ℕ) → value_behind radix v (ds ++ d ∷ []) ≡ value_behind radix v ds * radix + digit_value d
value_more radix v [] d = refl
value_more radix v (e ∷ ds) d = value_more radix (v * radix + digit_value e) ds d

digits_value : (radix n value : ℕ) → 1 < radix → radix ≤ 16 → value < radix ^ n → value_behind radix 0 (digits radix n value) ≡ value
digits_value radix zero value some few h = omega (arith, h, pow-zero radix)
digits_value radix (suc n) value some few h =
    let positive : 0 < radix = omega (arith, some) in
    let less : value < radix ^ n * radix = subst (λ z. value < z) (pow-suc radix n) h in
    let below : value / radix < radix ^ n = (div-lt_iff_lt-mul positive).1 less in
    let small : value % radix < 16 = omega (arith, mod-lt value positive, few) in
    ap (value_behind radix 0) (more_digits radix n value)
    ∙ value_more radix 0 (digits radix n (value / radix)) (digit (value % radix))
    ∙ ap (λ z. z * radix + digit_value (digit (value % radix))) (digits_value radix n (value / radix) some few below)
    ∙ ap (λ z. value / radix * radix + z) (digit_means (value % radix) small)
    ∙ div-add-mod' value radix

-- ---- the base that is told

and_false : (a : Bool) → (a && false) ≡ false
and_false true = refl
and_false false = refl

decimal_marks_none : (e : ℕ) → is_decimal e ≡ true → ((e == 120) ≡ false) × ((e == 98) ≡ false)
decimal_marks_none e h = (grind (arith, nat_tests), grind (arith, nat_tests))

blank_marks_none : (c : ℕ) → IsBlank c → ((c == 120) ≡ false) × ((c == 98) ≡ false)
blank_marks_none c (inl e) = rw e (refl, refl)
blank_marks_none c (inr e) = rw e (refl, refl)

no_mark : (d e : ℕ) (more : List ℕ) → (e == 120) ≡ false → (e == 98) ≡ false → base_of (d ∷ e ∷ more) ≡ Decimal
no_mark d e [] h k = refl
no_mark d e (f ∷ fs) h k = rw (h, k, and_false (d == 48)) refl

told : (base : Base) (ds : List ℕ) (c : ℕ) (rest : List ℕ) → IsBlank c → AllPass (is_digit_of base) ds → 0 < length ds
    → base_of (base_spelling base ++ (ds ++ c ∷ rest)) ≡ base
told base [] c rest blank h some = absurd (omega (arith, some))
told Decimal (d ∷ []) c rest blank h some = let z = blank_marks_none c blank in no_mark d c rest z.0 z.1
told Decimal (d ∷ e ∷ ds) c rest blank h some = let z = decimal_marks_none e h.1.0 in no_mark d e (ds ++ c ∷ rest) z.0 z.1
told Hexadecimal (d ∷ ds) c rest blank h some = rw h.0 refl
told Binary (d ∷ ds) c rest blank h some = rw h.0 refl

mark_length : (base : Base) → base_mark base ≡ length (base_spelling base)
mark_length Decimal = refl
mark_length Hexadecimal = refl
mark_length Binary = refl

behind_mark : (base : Base) (text : List ℕ) → drop (base_mark base) (base_spelling base ++ text) ≡ text
behind_mark Decimal text = refl
behind_mark Hexadecimal text = refl
behind_mark Binary text = refl

-- ---- the number

blank_no_digit : (base : Base) (c : ℕ) → IsBlank c → is_digit_of base c ≡ false
blank_no_digit Decimal c (inl e) = rw e refl
blank_no_digit Decimal c (inr e) = rw e refl
blank_no_digit Hexadecimal c (inl e) = rw e refl
blank_no_digit Hexadecimal c (inr e) = rw e refl
blank_no_digit Binary c (inl e) = rw e refl
blank_no_digit Binary c (inr e) = rw e refl

abbrev Found : Type 0
Found = Result (Option Tok × ℕ) LexError

fits : (v : Bool) (x y : Found) → v ≡ true → (if v then x else y) ≡ x
fits true x y h = refl
fits false x y h = absurd (cc)

-- the number of the digits at the front, in this base
abbrev numbered : ℕ → Base → List ℕ → Found
numbered at base ds = let n = run (is_digit_of base) ds in number_of at base n (take n ds)

number_is : (base : Base) (ds : List ℕ) (c : ℕ) (rest : List ℕ) → IsBlank c → AllPass (is_digit_of base) ds → 0 < length ds
    → value_behind (radix base) 0 ds < 2 ^ 128 →
    number 0 (base_spelling base ++ (ds ++ c ∷ rest)) ≡ Ok (Some (t.Number (value_behind (radix base) 0 ds) base (length ds)), base_mark base + length ds)
number_is base ds c rest blank h some small =
    let text = base_spelling base ++ (ds ++ c ∷ rest) in
    let value = value_behind (radix base) 0 ds in
    let good : Found = Ok (Some (t.Number value base (length ds)), base_mark base + length ds) in
    let wide : Found = Err (NumberTooWide 0) in
    ap (λ b. numbered 0 b (drop (base_mark b) text)) (told base ds c rest blank h some)
    ∙ ap (numbered 0 base) (behind_mark base (ds ++ c ∷ rest))
    ∙ ap (λ n. number_of 0 base n (take n (ds ++ c ∷ rest))) (run_is (is_digit_of base) ds c rest h (blank_no_digit base c blank))
    ∙ ap (number_of 0 base (length ds)) (take_front ds (c ∷ rest))
    ∙ fits (nat_lt value (2 ^ 128)) good wide (lt-ltb value (2 ^ 128) small)

-- a number begins with a decimal digit
right_of : (text : List ℕ) (found : Option Tok) (k : ℕ) (b : ℕ) (bs : List ℕ) → text ≡ b ∷ bs → is_decimal b ≡ true → number 0 text ≡ Ok (found, k)
    → IsRight found k text
right_of text found k b bs e h n =
    let less : b < 123 = grind (arith, nat_tests) in
    let there = subst (λ z. number 0 z ≡ Ok (found, k)) e n in
    let longest = number_longest 0 b bs found k h (decimal_class b h) there in
    subst (IsRight found k) (sym e) (longest, no_comment_at b bs found less, number_fits 0 (b ∷ bs) found k there)

begin_right : (base : Base) (ds : List ℕ) (c : ℕ) (rest : List ℕ) (found : Option Tok) (k : ℕ) → AllPass (is_digit_of base) ds → 0 < length ds →
    number 0 (base_spelling base ++ (ds ++ c ∷ rest)) ≡ Ok (found, k) → IsRight found k (base_spelling base ++ (ds ++ c ∷ rest))
begin_right base [] c rest found k h some n = absurd (omega (arith, some))
begin_right Decimal (d ∷ ds) c rest found k h some n = right_of (d ∷ ds ++ c ∷ rest) found k d (ds ++ c ∷ rest) refl h.0 n
begin_right Hexadecimal (d ∷ ds) c rest found k h some n = right_of (48 ∷ 120 ∷ d ∷ ds ++ c ∷ rest) found k 48 (120 ∷ d ∷ ds ++ c ∷ rest) refl refl n
begin_right Binary (d ∷ ds) c rest found k h some n = right_of (48 ∷ 98 ∷ d ∷ ds ++ c ∷ rest) found k 48 (98 ∷ d ∷ ds ++ c ∷ rest) refl refl n

pub number_right : (value : ℕ) (base : Base) (n c : ℕ) (rest : List ℕ) → IsBlank c → 0 < n → value < radix base ^ n → value < 2 ^ 128 →
    let form = base_spelling base ++ digits (radix base) n value in IsRight (Some (t.Number value base n)) (length form) (form ++ c ∷ rest)
number_right value base n c rest blank some below small =
    let r = radix base in
    let ds = digits r n value in
    let mark = base_spelling base in
    let is = digits_value r n value (radix_some base) (radix_few base) below in
    let long = digits_length r n value in
    let pass = digits_pass base n value in
    let some' : 0 < length ds = omega (arith, some, long) in
    let small' : value_behind r 0 ds < 2 ^ 128 = subst (λ z. z < 2 ^ 128) (sym is) small in
    let found = number_is base ds c rest blank pass some' small' in
    let size : base_mark base + length ds ≡ length (mark ++ ds) = ap (λ z. z + length ds) (mark_length base) ∙ sym (length-append mark ds) in
    let right = begin_right base ds c rest (Some (t.Number (value_behind r 0 ds) base (length ds))) (base_mark base + length ds) pass some' found in
    let one = subst (λ z. IsRight (Some (t.Number z base (length ds))) (base_mark base + length ds) (mark ++ (ds ++ c ∷ rest))) is right in
    let two = subst (λ z. IsRight (Some (t.Number value base z)) (base_mark base + length ds) (mark ++ (ds ++ c ∷ rest))) long one in
    let three = subst (λ z. IsRight (Some (t.Number value base n)) z (mark ++ (ds ++ c ∷ rest))) size two in
    subst (IsRight (Some (t.Number value base n)) (length (mark ++ ds))) (sym (append_assoc mark ds (c ∷ rest))) three
