-- The number at a place has all digits of its base that follow.
use Rattle.std.proofs.Common.{◌≡◌, ◌<◌, ◌≤◌, ℕ, zero, suc, ◌+◌, ◌==◌, ◌&&◌, ◌^◌, nat_lt, Bool, true, false, List, [], ◌∷◌, ◌++◌, length, take, drop, Option}
use Rattle.std.proofs.Common.{Some, None, Result, Ok, Err, inl, inr, refl, ap, sym, subst, ◌∙◌, arith, if◌then◌else◌}
use Rattle.std.proofs.lemmas.Bool.{ltb-true, lt-ltb}
use Rattle.std.proofs.lemmas.Bool.Decides.{nat_tests}
use Rattle.ddl_token.specs.declared.token.Tok.{Tok}
use Rattle.ddl_token.specs.declared.token.Tok.TheVariants as t
use Rattle.ddl_token.specs.declared.token.Base.{Base}
use Rattle.ddl_token.specs.declared.token.Base.TheVariants.{Decimal, Hexadecimal, Binary}
use Rattle.ddl_lex.specs.declared.error.LexError.{LexError}
use Rattle.ddl_lex.specs.declared.error.LexError.TheVariants.{NumberTooWide}
use Rattle.ddl_lex.specs.Letters.{is_decimal, between, run}
use Rattle.ddl_lex.specs.Letters.{is_hexadecimal}
use Rattle.ddl_lex.specs.Numbers.{is_digit_of, radix, base_mark, base_of, value_behind, number}
use Rattle.ddl_lex.specs.Forms.{IsForm, IsNumber, AllPass, NoLonger, IsLongest, Fits, base_spelling}
use Rattle.ddl_lex.proofs.Runs.{run_most, run_passes, run_within}
use Rattle.ddl_lex.proofs.Lengths.{taken}
use Rattle.ddl_lex.proofs.Firsts.{class_of, Begins, begins}
use Rattle.ddl_lex.proofs.Decided.{equal_of}

-- how many bytes a number of the base has
abbrev pub extent : Base → List ℕ → ℕ
extent base text = base_mark base + run (is_digit_of base) (drop (base_mark base) text)

-- both parts of a test
both : (a b : Bool) → (a && b) ≡ true → (a ≡ true) × (b ≡ true)
both true b h = (refl, h)
both false b h = cc

equal_to : (a b : ℕ) → a ≡ b → (a == b) ≡ true
equal_to a b h = grind (arith, nat_tests)

-- the test that three bytes begin a number of a base with a mark
abbrev marks_base : ℕ → (ℕ → Bool) → ℕ → ℕ → ℕ → Bool
marks_base x p a b d = a == 48 && b == x && p d

marked : (x : ℕ) (p : ℕ → Bool) (a b d : ℕ) → marks_base x p a b d ≡ true → (a ≡ 48) × (b ≡ x) × (p d ≡ true)
marked x p a b d h =
    let outer = both (a == 48 && b == x) (p d) h in
    let inner = both (a == 48) (b == x) outer.0 in
    (equal_of a 48 inner.0, equal_of b x inner.1, outer.1)

marks : (x : ℕ) (p : ℕ → Bool) (a b d : ℕ) → a ≡ 48 → b ≡ x → p d ≡ true → marks_base x p a b d ≡ true
marks x p a b d e f h = rw (equal_to a 48 e, equal_to b x f, h) refl

-- bytes of a number with a mark of its base: at least three, the third a digit
three : (x : ℕ) (p : ℕ → Bool) (text digits : List ℕ) (k : ℕ) → k ≤ length text → take k text ≡ 48 ∷ x ∷ digits → AllPass p digits → 0 < length digits →
    (rest : List ℕ) × (n : ℕ) × (d : ℕ) × (text ≡ 48 ∷ x ∷ d ∷ rest) × (k ≡ suc (suc (suc n))) × (p d ≡ true) × (n ≤ length rest) × AllPass p (take n rest)
three x p text [] k h e a s = absurd (omega arith)
three x p [] (y ∷ digits) zero h e a s = cc
three x p [] (y ∷ digits) (suc k) h e a s = absurd (omega arith)
three x p (b ∷ bs) (y ∷ digits) zero h e a s = cc
three x p (b ∷ []) (y ∷ digits) (suc zero) h e a s = cc
three x p (b ∷ []) (y ∷ digits) (suc (suc k)) h e a s = absurd (omega arith)
three x p (b ∷ c ∷ bs) (y ∷ digits) (suc zero) h e a s = cc
three x p (b ∷ c ∷ []) (y ∷ digits) (suc (suc zero)) h e a s = cc
three x p (b ∷ c ∷ []) (y ∷ digits) (suc (suc (suc k))) h e a s = absurd (omega arith)
three x p (b ∷ c ∷ d ∷ bs) (y ∷ digits) (suc (suc zero)) h e a s = cc
three x p (b ∷ c ∷ d ∷ bs) (y ∷ digits) (suc (suc (suc k))) h e a s =
    let b48 : b ≡ 48 = cc in let cx : c ≡ x = cc in let dy : d ≡ y = cc in let rest : take k bs ≡ digits = cc in
    (bs, k, d, rw (b48, cx) refl, refl, subst (λ z. p z ≡ true) (sym dy) a.0, omega arith, subst (AllPass p) (sym rest) a.1)

-- a number is no longer than that of the base that is told
in_decimal : (text : List ℕ) (k : ℕ) → k ≤ length text → AllPass is_decimal (take k text) → k ≤ extent Decimal text
in_decimal text k h a = omega (arith, run_most is_decimal text k h a)

in_marked : (x : ℕ) (p : ℕ → Bool) (d : ℕ) (rest : List ℕ) (n : ℕ) → p d ≡ true → n ≤ length rest → AllPass p (take n rest)
    → suc (suc (suc n)) ≤ 2 + run p (d ∷ rest)
in_marked x p d rest n e h a = let m = run_most p (d ∷ rest) (suc n) (omega arith) (e, a) in omega arith

-- a decimal number before the letter of a base has one digit
one_digit : (x : ℕ) (c : ℕ) (rest : List ℕ) (k : ℕ) → is_decimal x ≡ false → AllPass is_decimal (take k (c ∷ x ∷ rest)) → k ≤ 1
one_digit x c rest zero f a = omega arith
one_digit x c rest (suc zero) f a = omega arith
one_digit x c rest (suc (suc k)) f a = absurd (let g : true ≡ false = sym a.1.0 ∙ f in cc)

not_both : (x y : ℕ) (p q : ℕ → Bool) (a b d : ℕ) → (y ≡ x → ⊥) → marks_base x p a b d ≡ true → b ≡ y → ⊥
not_both x y p q a b d n h e = n (sym e ∙ (marked x p a b d h).1)

-- the base that three bytes tell
abbrev base_by : Bool → Bool → Base
base_by h b = if h then Hexadecimal else (if b then Binary else Decimal)

long_by : (a b d : ℕ) (rest : List ℕ) (hex bin : Bool) → marks_base 120 is_hexadecimal a b d ≡ hex → marks_base 98 (between 48 49) a b d ≡ bin →
    (base : Base) (v count k : ℕ) → k ≤ suc (suc (suc (length rest))) → IsNumber v base count (take k (a ∷ b ∷ d ∷ rest))
    → k ≤ extent (base_by hex bin) (a ∷ b ∷ d ∷ rest)
long_by a b d rest true bin e f Decimal v count k h n =
    let all : AllPass is_decimal (take k (a ∷ b ∷ d ∷ rest)) = subst (AllPass is_decimal) (sym n.1) n.2 in
    let m = marked 120 is_hexadecimal a b d e in
    let one = one_digit b a (d ∷ rest) k (rw m.1 refl) all in omega arith
long_by a b d rest true bin e f Hexadecimal v count k h n =
    let s = three 120 is_hexadecimal (a ∷ b ∷ d ∷ rest) n.0 k h n.1 n.2 (omega (arith, n.3, n.4)) in
    let same : d ∷ rest ≡ s.2 ∷ s.0 = cc (s.3) in
    let m = in_marked 120 is_hexadecimal s.2 s.0 s.1 s.5 s.6 s.7 in
    omega (arith, s.4, m, ap (run is_hexadecimal) same)
long_by a b d rest true bin e f Binary v count k h n =
    let s = three 98 (between 48 49) (a ∷ b ∷ d ∷ rest) n.0 k h n.1 n.2 (omega (arith, n.3, n.4)) in
    let b98 : b ≡ 98 = cc (s.3) in
    absurd (let m = marked 120 is_hexadecimal a b d e in omega (arith, m.1))
long_by a b d rest false true e f Decimal v count k h n =
    let all : AllPass is_decimal (take k (a ∷ b ∷ d ∷ rest)) = subst (AllPass is_decimal) (sym n.1) n.2 in
    let m = marked 98 (between 48 49) a b d f in
    let one = one_digit b a (d ∷ rest) k (rw m.1 refl) all in omega arith
long_by a b d rest false true e f Binary v count k h n =
    let s = three 98 (between 48 49) (a ∷ b ∷ d ∷ rest) n.0 k h n.1 n.2 (omega (arith, n.3, n.4)) in
    let same : d ∷ rest ≡ s.2 ∷ s.0 = cc (s.3) in
    let m = in_marked 98 (between 48 49) s.2 s.0 s.1 s.5 s.6 s.7 in
    omega (arith, s.4, m, ap (run (between 48 49)) same)
long_by a b d rest false true e f Hexadecimal v count k h n =
    let s = three 120 is_hexadecimal (a ∷ b ∷ d ∷ rest) n.0 k h n.1 n.2 (omega (arith, n.3, n.4)) in
    let b120 : b ≡ 120 = cc (s.3) in
    absurd (let m = marked 98 (between 48 49) a b d f in omega (arith, m.1))
long_by a b d rest false false e f Decimal v count k h n =
    let all : AllPass is_decimal (take k (a ∷ b ∷ d ∷ rest)) = subst (AllPass is_decimal) (sym n.1) n.2 in
    in_decimal (a ∷ b ∷ d ∷ rest) k h all
long_by a b d rest false false e f Hexadecimal v count k h n =
    let s = three 120 is_hexadecimal (a ∷ b ∷ d ∷ rest) n.0 k h n.1 n.2 (omega (arith, n.3, n.4)) in
    let a48 : a ≡ 48 = cc (s.3) in let b120 : b ≡ 120 = cc (s.3) in let same : d ≡ s.2 = cc (s.3) in
    absurd (let x : true ≡ false = sym (marks 120 is_hexadecimal a b d a48 b120 (ap is_hexadecimal same ∙ s.5)) ∙ e in cc)
long_by a b d rest false false e f Binary v count k h n =
    let s = three 98 (between 48 49) (a ∷ b ∷ d ∷ rest) n.0 k h n.1 n.2 (omega (arith, n.3, n.4)) in
    let a48 : a ≡ 48 = cc (s.3) in let b98 : b ≡ 98 = cc (s.3) in let same : d ≡ s.2 = cc (s.3) in
    absurd (let x : true ≡ false = sym (marks 98 (between 48 49) a b d a48 b98 (ap (between 48 49) same ∙ s.5)) ∙ f in cc)

few_bytes : (text : List ℕ) (k : ℕ) → length text ≤ 2 → k ≤ length text → (base : Base) (v count : ℕ) → IsNumber v base count (take k text)
    → k ≤ extent Decimal text
few_bytes text k l h Decimal v count n = in_decimal text k h (subst (AllPass is_decimal) (sym n.1) n.2)
few_bytes text k l h Hexadecimal v count n =
    let s = three 120 is_hexadecimal text n.0 k h n.1 n.2 (omega (arith, n.3, n.4)) in absurd (omega (arith, s.4))
few_bytes text k l h Binary v count n =
    let s = three 98 (between 48 49) text n.0 k h n.1 n.2 (omega (arith, n.3, n.4)) in absurd (omega (arith, s.4))

number_length : (text : List ℕ) (k : ℕ) → k ≤ length text → (base : Base) (v count : ℕ) → IsNumber v base count (take k text) → k ≤ extent (base_of text) text
number_length [] k h base v count n = few_bytes [] k (omega arith) h base v count n
number_length (a ∷ []) k h base v count n = few_bytes (a ∷ []) k (omega arith) h base v count n
number_length (a ∷ b ∷ []) k h base v count n = few_bytes (a ∷ b ∷ []) k (omega arith) h base v count n
number_length (a ∷ b ∷ d ∷ rest) k h base v count n = long_by a b d rest (marks_base 120 is_hexadecimal a b d) (marks_base 98 (between 48 49) a b d) refl refl
    base v count k h n

at_digit : (b : ℕ) (bs : List ℕ) (c : ℕ) → class_of b ≡ c → c ≡ 1 → (q : Option Tok) (k : ℕ) → k ≤ length bs → IsForm q (b ∷ take k bs) → Begins q c
    → suc k ≤ extent (base_of (b ∷ bs)) (b ∷ bs)
at_digit b bs c s e None k h f (inl g) = absurd (omega arith)
at_digit b bs c s e None k h f (inr g) = absurd (omega arith)
at_digit b bs c s e (Some (t.Word w)) k h f g = absurd (omega arith)
at_digit b bs c s e (Some (t.Mark m)) k h f g = absurd (omega arith)
at_digit b bs c s e (Some (t.Upper name)) k h f g = absurd (omega arith)
at_digit b bs c s e (Some (t.Lower name)) k h f (inl g) = absurd (omega arith)
at_digit b bs c s e (Some (t.Lower name)) k h f (inr g) = absurd (omega arith)
at_digit b bs c s e (Some (t.Class name)) k h f g = absurd (omega arith)
at_digit b bs c s e (Some (t.Number v base n)) k h f g = number_length (b ∷ bs) (suc k) (omega arith) base v n f
at_digit b bs c s e (Some (t.Char x)) k h f g = absurd (omega arith)
at_digit b bs c s e (Some (t.Text x)) k h f g = absurd (omega arith)

number_no_longer : (b : ℕ) (bs : List ℕ) → class_of b ≡ 1 → NoLonger (extent (base_of (b ∷ bs)) (b ∷ bs)) (b ∷ bs)
number_no_longer b bs e q zero h f = omega arith
number_no_longer b bs e q (suc k) h f = at_digit b bs (class_of b) refl e q k (omega arith) f (begins q b (take k bs) f)

-- the bytes of the number, and one digit at least
abbrev Bytes : Base → List ℕ → Type 0
Bytes base text = let n = run (is_digit_of base) (drop (base_mark base) text) in
    (take (base_mark base + n) text ≡ base_spelling base ++ take n (drop (base_mark base) text)) × (0 < n) × (base_mark base + n ≤ length text)

run_some : (p : ℕ → Bool) (b : ℕ) (bs : List ℕ) → p b ≡ true → 0 < run p (b ∷ bs)
run_some p b bs h = rw h (omega arith)

decimal_bytes : (b : ℕ) (bs : List ℕ) → is_decimal b ≡ true → Bytes Decimal (b ∷ bs)
decimal_bytes b bs h =
    let e : 0 + run is_decimal (b ∷ bs) ≡ run is_decimal (b ∷ bs) = omega arith in
    (ap (λ z. take z (b ∷ bs)) e, run_some is_decimal b bs h, omega (arith, run_within is_decimal (b ∷ bs)))

marked_bytes : (x : ℕ) (p : ℕ → Bool) (a b d : ℕ) (rest : List ℕ) → a ≡ 48 → b ≡ x → p d ≡ true → let n = run p (d ∷ rest) in
    (take (2 + n) (a ∷ b ∷ d ∷ rest) ≡ (48 ∷ x ∷ []) ++ take n (d ∷ rest)) × (0 < n) × (2 + n ≤ length (a ∷ b ∷ d ∷ rest))
marked_bytes x p a b d rest e f h =
    let s : 2 + run p (d ∷ rest) ≡ suc (suc (run p (d ∷ rest))) = omega arith in (
      ap (λ z. take z (a ∷ b ∷ d ∷ rest)) s ∙ ap (λ z. z ∷ b ∷ take (run p (d ∷ rest)) (d ∷ rest)) e ∙ ap (λ z. 48 ∷ z ∷ take (run p (d ∷ rest)) (d ∷ rest)) f,
      run_some p d rest h,
      omega (arith, run_within p (d ∷ rest)),
    )

bytes_by : (a b d : ℕ) (rest : List ℕ) (hex bin : Bool) → marks_base 120 is_hexadecimal a b d ≡ hex → marks_base 98 (between 48 49) a b d ≡ bin
    → is_decimal a ≡ true → Bytes (base_by hex bin) (a ∷ b ∷ d ∷ rest)
bytes_by a b d rest true bin e f h = let m = marked 120 is_hexadecimal a b d e in marked_bytes 120 is_hexadecimal a b d rest m.0 m.1 m.2
bytes_by a b d rest false true e f h = let m = marked 98 (between 48 49) a b d f in marked_bytes 98 (between 48 49) a b d rest m.0 m.1 m.2
bytes_by a b d rest false false e f h = decimal_bytes a (b ∷ d ∷ rest) h

bytes : (b : ℕ) (bs : List ℕ) → is_decimal b ≡ true → Bytes (base_of (b ∷ bs)) (b ∷ bs)
bytes b [] h = decimal_bytes b [] h
bytes b (c ∷ []) h = decimal_bytes b (c ∷ []) h
bytes b (c ∷ d ∷ rest) h = bytes_by b c d rest (marks_base 120 is_hexadecimal b c d) (marks_base 98 (between 48 49) b c d) refl refl h

number_by : (tok : Tok) (n : ℕ) (v : Bool) (good bad : Result (Option Tok × ℕ) LexError) (e : LexError) (found : Option Tok) (k : ℕ) →
    good ≡ Ok (Some tok, n) → bad ≡ Err e → (if v then good else bad) ≡ Ok (found, k) → (found ≡ Some tok) × (k ≡ n) × (v ≡ true)
number_by tok n true good bad e found k g f h = let pair : Option Tok × ℕ = (found, k) in let want : Option Tok × ℕ = (Some tok, n) in let same : pair ≡ want =
    cc in (ap (λ z. z.0) same, ap (λ z. z.1) same, refl)
number_by tok n false good bad e found k g f h = absurd (cc)

-- the value of the digits, and their number, as a token
abbrev pub number_token : List ℕ → Tok
number_token text =
    let base = base_of text in
    let digits = drop (base_mark base) text in
    let n = run (is_digit_of base) digits in
    t.Number (value_behind (radix base) 0 (take n digits)) base n

-- all digits of its base that follow make the longest form, whatever their value
pub digits_longest : (b : ℕ) (bs : List ℕ) → is_decimal b ≡ true → class_of b ≡ 1
    → IsLongest (Some (number_token (b ∷ bs))) (extent (base_of (b ∷ bs)) (b ∷ bs)) (b ∷ bs)
digits_longest b bs d c =
    let text = b ∷ bs in
    let base = base_of text in
    let digits = drop (base_mark base) text in
    let n = run (is_digit_of base) digits in
    let all = bytes b bs d in
    let count : n ≡ length (take n digits) = sym (taken digits n (run_within (is_digit_of base) digits)) in
    let form : IsNumber (value_behind (radix base) 0 (take n digits)) base n (take (base_mark base + n) text) =
    (take n digits, all.0, run_passes (is_digit_of base) digits, count, all.1, refl) in
    (all.2, omega (arith, all.1), form, number_no_longer b bs c)

-- the number that is found is the longest form
pub number_longest : (at b : ℕ) (bs : List ℕ) (found : Option Tok) (k : ℕ) → is_decimal b ≡ true → class_of b ≡ 1 → number at (b ∷ bs) ≡ Ok (found, k)
    → IsLongest found k (b ∷ bs)
number_longest at b bs found k d c h =
    let text = b ∷ bs in
    let base = base_of text in
    let digits = drop (base_mark base) text in
    let n = run (is_digit_of base) digits in
    let value = value_behind (radix base) 0 (take n digits) in
    let good : Result (Option Tok × ℕ) LexError = Ok (Some (t.Number value base n), base_mark base + n) in
    let bad : Result (Option Tok × ℕ) LexError = Err (NumberTooWide at) in
    let is = number_by (t.Number value base n) (base_mark base + n) (nat_lt value (2 ^ 128)) good bad (NumberTooWide at) found k refl refl h in
    subst (λ z. IsLongest z k text) (sym is.0) (subst (λ z. IsLongest (Some (t.Number value base n)) z text) (sym is.1) (digits_longest b bs d c))

-- a number that fits is no error
pub number_right : (at : ℕ) (text : List ℕ) (e : LexError) → Fits (Some (number_token text)) → number at text ≡ Err e → ⊥
number_right at text e f h =
    let base = base_of text in
    let digits = drop (base_mark base) text in
    let n = run (is_digit_of base) digits in
    let value = value_behind (radix base) 0 (take n digits) in
    let good : Result (Option Tok × ℕ) LexError = Ok (Some (t.Number value base n), base_mark base + n) in
    let bad : Result (Option Tok × ℕ) LexError = Err (NumberTooWide at) in
    let fits : nat_lt value (2 ^ 128) ≡ true = lt-ltb value (2 ^ 128) f in
    let there : good ≡ Err e = subst (λ v. (if v then good else bad) ≡ Err e) fits h in cc

-- the number that is found fits
pub number_fits : (at : ℕ) (text : List ℕ) (found : Option Tok) (k : ℕ) → number at text ≡ Ok (found, k) → Fits found
number_fits at text found k h =
    let base = base_of text in
    let digits = drop (base_mark base) text in
    let n = run (is_digit_of base) digits in
    let value = value_behind (radix base) 0 (take n digits) in
    let good : Result (Option Tok × ℕ) LexError = Ok (Some (t.Number value base n), base_mark base + n) in
    let bad : Result (Option Tok × ℕ) LexError = Err (NumberTooWide at) in
    let is = number_by (t.Number value base n) (base_mark base + n) (nat_lt value (2 ^ 128)) good bad (NumberTooWide at) found k refl refl h in
    subst Fits (sym is.0) (ltb-true value (2 ^ 128) is.2)
