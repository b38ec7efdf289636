-- What is read between two quotes is the elements there.
use Rattle.std.proofs.Common.{◌≡◌, ◌≢◌, ◌<◌, ◌≤◌, ℕ, zero, suc, ◌+◌, ◌*◌, ◌==◌, ◌&&◌, ◌||◌, Bool, true, false, List, [], ◌∷◌, ◌++◌, length, take, drop, get_or}
use Rattle.std.proofs.Common.{Result, Ok, Err, inl, inr, refl, ap, sym, subst, ◌∙◌, append_assoc, append-nil, length-append, length-drop, arith, if◌then◌else◌}
use Rattle.std.proofs.lemmas.Bool.{eq-eqb}
use Rattle.std.proofs.lemmas.Bool.Decides.{nat_tests}
use Rattle.std.proofs.lemmas.List.{take-append-drop}
use Rattle.std.proofs.Math.Seq.{drop-append_seam}
use Rattle.ddl_lex.specs.declared.error.LexError.{LexError}
use Rattle.ddl_lex.specs.declared.literal.Element.{Element}
use Rattle.ddl_lex.specs.declared.literal.Element.TheVariants.{Means, Closes, Ends, Control, NoEscape}
use Rattle.ddl_lex.specs.Letters.{is_control, is_hexadecimal, digit_value}
use Rattle.ddl_lex.specs.Literals as r
use Rattle.ddl_lex.specs.Literals.{literal, element, hexadecimal_escape, read, bytes_behind}
use Rattle.ddl_lex.specs.Elements.{IsEscape, newline, tab, return, backslash, double_quote, single_quote, hexadecimal, IsElement, escape, plain, AreElements}
use Rattle.ddl_lex.specs.Elements.{none, one_more, IsLiteral}
use Rattle.ddl_lex.proofs.Elements.{one_element, behind, behind_none, behind_twice}
use Rattle.ddl_lex.proofs.Lengths.{taken}
use Rattle.ddl_lex.proofs.Decided.{either, both, equal_of, not_equal, no_equal}

abbrev Read : Type 0
Read = Result (List ℕ × ℕ) LexError

-- ---- elements are read

no_newline : (b : ℕ) → is_control b ≡ false → (b == 10) ≡ false
no_newline b h = grind (arith, nat_tests)

pub escape_read : (quote value : ℕ) (rest bytes : List ℕ) → quote ≢ 92 → IsEscape value bytes → element quote (bytes ++ rest) ≡ Means value (length bytes)
escape_read quote value rest bytes n newline = rw (no_equal 92 quote (λ e. n (sym e))) refl
escape_read quote value rest bytes n tab = rw (no_equal 92 quote (λ e. n (sym e))) refl
escape_read quote value rest bytes n return = rw (no_equal 92 quote (λ e. n (sym e))) refl
escape_read quote value rest bytes n backslash = rw (no_equal 92 quote (λ e. n (sym e))) refl
escape_read quote value rest bytes n double_quote = rw (no_equal 92 quote (λ e. n (sym e))) refl
escape_read quote value rest bytes n single_quote = rw (no_equal 92 quote (λ e. n (sym e))) refl
escape_read quote value rest bytes n (hexadecimal high low h l) = rw (no_equal 92 quote (λ e. n (sym e)), h, l) refl

pub element_read : (quote value : ℕ) (rest bytes : List ℕ) → quote ≢ 92 → IsElement quote value bytes
    → element quote (bytes ++ rest) ≡ Means value (length bytes)
element_read quote value rest bytes n (escape e) = escape_read quote value rest bytes n e
element_read quote value rest bytes n (plain b q s c) = rw (no_equal b quote q, no_newline b c, no_equal b 92 s, c) refl

escape_some : (value : ℕ) (bytes : List ℕ) → IsEscape value bytes → 0 < length bytes
escape_some value bytes newline = omega arith
escape_some value bytes tab = omega arith
escape_some value bytes return = omega arith
escape_some value bytes backslash = omega arith
escape_some value bytes double_quote = omega arith
escape_some value bytes single_quote = omega arith
escape_some value bytes (hexadecimal high low h l) = omega arith

pub element_some : (quote value : ℕ) (bytes : List ℕ) → IsElement quote value bytes → 0 < length bytes
element_some quote value bytes (escape e) = escape_some value bytes e
element_some quote value bytes (plain b q s c) = omega arith

one_read : (quote s a value : ℕ) (rest bytes means inside : List ℕ) → element quote (bytes ++ (inside ++ rest)) ≡ Means value (length bytes) → 0 < length bytes
    →
    literal quote s (a + length bytes) 0 (inside ++ rest) ≡ behind means (length inside) (literal quote s (a + length bytes + length inside) 0 rest) →
    literal quote s a 0 ((bytes ++ inside) ++ rest) ≡ behind (value ∷ means) (length (bytes ++ inside)) (literal quote s (a + length (bytes ++ inside)) 0 rest)
one_read quote s a value rest bytes means inside e some more =
    let text = bytes ++ (inside ++ rest) in
    let n = length bytes in
    let m = length inside in
    let within : n ≤ length text = rw (length-append bytes (inside ++ rest)) (omega arith) in
    let one = one_element quote s a value n text e some within in
    let there : literal quote s (a + n) 0 (drop n text) ≡ behind means m (literal quote s (a + n + m) 0 rest) =
    ap (literal quote s (a + n) 0) (drop-append_seam bytes (inside ++ rest)) ∙ more in
    let len : length (bytes ++ inside) ≡ n + m = length-append bytes inside in
    let place : a + length (bytes ++ inside) ≡ a + n + m = omega (arith, len) in
    ap (literal quote s a 0) (append_assoc bytes inside rest) ∙ one ∙ ap (behind (value ∷ []) n) there
    ∙ behind_twice (value ∷ []) means n m (literal quote s (a + n + m) 0 rest)
    ∙ ap (λ z. behind (value ∷ means) z (literal quote s (a + n + m) 0 rest)) (sym len)
    ∙ ap (λ z. behind (value ∷ means) (length (bytes ++ inside)) (literal quote s z 0 rest)) (sym place)

-- the elements in front of more are read, and then what is behind
pub elements_read : (quote s a : ℕ) (rest means inside : List ℕ) → quote ≢ 92 → AreElements quote means inside →
    literal quote s a 0 (inside ++ rest) ≡ behind means (length inside) (literal quote s (a + length inside) 0 rest)
elements_read quote s a rest means inside n none = let e : a + 0 ≡ a = omega arith in behind_none (literal quote s a 0 rest)
    ∙ ap (λ z. behind [] 0 (literal quote s z 0 rest)) (sym e)
elements_read quote s a rest means inside n (one_more {bytes = bytes} {means = others} {others = after} value e more) =
    one_read quote s a value rest bytes others after (element_read quote value (after ++ rest) bytes n e) (element_some quote value bytes e)
    (elements_read quote s (a + length bytes) rest others after n more)

-- the closing quote
pub quote_read : (quote s a : ℕ) (rest : List ℕ) → literal quote s a 0 (quote ∷ rest) ≡ Ok ([], 1)
quote_read quote s a rest = rw (eq-eqb quote quote refl) refl

pub closed_read : (quote s a : ℕ) (rest means inside : List ℕ) → quote ≢ 92 → AreElements quote means inside
    → literal quote s a 0 (inside ++ quote ∷ rest) ≡ Ok (means, suc (length inside))
closed_read quote s a rest means inside n e =
    let len : length inside + 1 ≡ suc (length inside) = omega arith in
    elements_read quote s a (quote ∷ rest) means inside n e ∙ ap (behind means (length inside)) (quote_read quote s (a + length inside) rest)
    ∙ ap (λ z. Ok (z, length inside + 1)) (append-nil means) ∙ ap (λ z. Ok (means, z)) len

-- ---- what is read is elements

not_closes : (c : Bool) (x y : Element) → (x ≡ Closes → ⊥) → (y ≡ Closes → ⊥) → (if c then x else y) ≡ Closes → ⊥
not_closes true x y f g e = f e
not_closes false x y f g e = g e

hexadecimal_open : (text : List ℕ) → hexadecimal_escape text ≡ Closes → ⊥
hexadecimal_open [] e = cc
hexadecimal_open (x ∷ []) e = cc
hexadecimal_open (x ∷ y ∷ bs) e = not_closes (is_hexadecimal x && is_hexadecimal y) _ _ (λ z. (cc)) (λ z. (cc)) e

escape_open : (text : List ℕ) → r.escape text ≡ Closes → ⊥
escape_open [] e = cc
escape_open (b ∷ bs) e = not_closes (b == 110) _ _ (λ z.
    (cc)) (not_closes (b == 116) _ _ (λ z. (cc)) (not_closes (b == 114) _ _ (λ z. (cc)) (not_closes (b == 92 || b == 34 || b == 39) _ _ (λ z. (cc))
    (not_closes (b == 120) _ _ (hexadecimal_open bs) (λ z. (cc)))))) e

pub behind_open : (b : ℕ) (bs : List ℕ) → (if b == 10 then Ends else (if b == 92 then r.escape bs else (if is_control b then Control else Means b 1))) ≡ Closes
    → ⊥
behind_open b bs e = not_closes (b == 10) _ _ (λ z. (cc)) (not_closes (b == 92) _ _ (escape_open bs) (not_closes (is_control b) _ _ (λ z. (cc)) (λ z. (cc)))) e

quote_by : (v : Bool) (y : Element) → (y ≡ Closes → ⊥) → (if v then Closes else y) ≡ Closes → v ≡ true
quote_by true y n e = refl
quote_by false y n e = absurd (n e)

-- a literal is closed by its quote
pub closing : (quote b : ℕ) (bs : List ℕ) → element quote (b ∷ bs) ≡ Closes → (b == quote) ≡ true
closing quote b bs e = quote_by (b == quote) _ (behind_open b bs) e

-- the first bytes are an element
abbrev pub Taken : ℕ → ℕ → ℕ → List ℕ → Type 0
Taken quote v k text = IsElement quote v (take k text) × (0 < k) × (k ≤ length text)

-- by the answer of a test
pub by_test : (c : Bool) (x y r : Element) (G : Type 0) → (if c then x else y) ≡ r → (c ≡ true → x ≡ r → G) → (c ≡ false → y ≡ r → G) → G
by_test true x y r G e f g = f refl e
by_test false x y r G e f g = g refl e

-- what is taken is one
taken_by : (quote w j v k : ℕ) (text : List ℕ) → Means w j ≡ Means v k → Taken quote w j text → Taken quote v k text
taken_by quote w j v k text e h =
    let value : w ≡ v = cc in let count : j ≡ k = cc in
    subst (λ z. Taken quote z k text) value (subst (λ z. Taken quote w z text) count h)

-- a backslash and one byte
short_taken : (quote v k w b c : ℕ) (bs : List ℕ) → b ≡ 92 → IsEscape w (92 ∷ c ∷ []) → Means w 2 ≡ Means v k → Taken quote v k (b ∷ c ∷ bs)
short_taken quote v k w b c bs u i e =
    let there : IsElement quote w (b ∷ c ∷ []) = subst (λ z. IsElement quote w (z ∷ c ∷ [])) (sym u) (escape i) in
    taken_by quote w 2 v k (b ∷ c ∷ bs) e (there, omega arith, omega arith)

hexadecimal_taken : (quote v k b c : ℕ) (bs : List ℕ) → b ≡ 92 → c ≡ 120 → hexadecimal_escape bs ≡ Means v k → Taken quote v k (b ∷ c ∷ bs)
hexadecimal_taken quote v k b c [] u w e = cc
hexadecimal_taken quote v k b c (h ∷ []) u w e = cc
hexadecimal_taken quote v k b c (h ∷ l ∷ bs) u w e =
    by_test (is_hexadecimal h && is_hexadecimal l) _ _ (Means v k) (Taken quote v k (b ∷ c ∷ h ∷ l ∷ bs)) e (λ t f.
    (let digits = both (is_hexadecimal h) (is_hexadecimal l) t in
    let value = 16 * digit_value h + digit_value l in
    let there : IsElement quote value (b ∷ c ∷ h ∷ l ∷ []) = rw (u, w) (escape (hexadecimal h l digits.0 digits.1)) in
    taken_by quote value 4 v k (b ∷ c ∷ h ∷ l ∷ bs) f (there, omega arith, omega arith))) (λ t f. (cc))

quote_escape : (c : ℕ) → (c == 92 || c == 34 || c == 39) ≡ true → IsEscape c (92 ∷ c ∷ [])
quote_escape c h = elim (either (c == 92 || c == 34) (c == 39) h) as (λ _. IsEscape c (92 ∷ c ∷ [])) [
  | inl x ↦ elim (either (c == 92) (c == 34) x) as (λ _. IsEscape c (92 ∷ c ∷ [])) [
    | inl y ↦ subst (λ z. IsEscape z (92 ∷ z ∷ [])) (sym (equal_of c 92 y)) backslash
    | inr y ↦ subst (λ z. IsEscape z (92 ∷ z ∷ [])) (sym (equal_of c 34 y)) double_quote
  ]
  | inr x ↦ subst (λ z. IsEscape z (92 ∷ z ∷ [])) (sym (equal_of c 39 x)) single_quote
]

escape_taken : (quote v k b : ℕ) (bs : List ℕ) → b ≡ 92 → r.escape bs ≡ Means v k → Taken quote v k (b ∷ bs)
escape_taken quote v k b [] u e = cc
escape_taken quote v k b (c ∷ bs) u e =
    let G = Taken quote v k (b ∷ c ∷ bs) in let w = Means v k in
    by_test (c == 110) _ _ w G e (λ t f. short_taken quote v k 10 b c bs u (subst (λ z. IsEscape 10 (92 ∷ z ∷ [])) (sym (equal_of c 110 t)) newline) f) (λ t e1.
    by_test (c == 116) _ _ w G e1 (λ t f. short_taken quote v k 9 b c bs u (subst (λ z. IsEscape 9 (92 ∷ z ∷ [])) (sym (equal_of c 116 t)) tab) f) (λ t e2.
    by_test (c == 114) _ _ w G e2 (λ t f. short_taken quote v k 13 b c bs u (subst (λ z. IsEscape 13 (92 ∷ z ∷ [])) (sym (equal_of c 114 t)) return) f) (λ t e3.
    by_test (c == 92 || c == 34 || c == 39) _ _ w G e3 (λ t f. short_taken quote v k c b c bs u (quote_escape c t) f) (λ t e4.
    by_test (c == 120) _ _ w G e4 (λ t f. hexadecimal_taken quote v k b c bs u (equal_of c 120 t) f) (λ t f. (cc))))))

-- an element that is read is one
pub element_taken : (quote v k : ℕ) (text : List ℕ) → element quote text ≡ Means v k → Taken quote v k text
element_taken quote v k [] e = cc
element_taken quote v k (b ∷ bs) e =
    let G = Taken quote v k (b ∷ bs) in let w = Means v k in
    by_test (b == quote) _ _ w G e (λ t f. (cc)) (λ q e1.
    by_test (b == 10) _ _ w G e1 (λ t f. (cc)) (λ t e2.
    by_test (b == 92) _ _ w G e2 (λ t f. escape_taken quote v k b bs (equal_of b 92 t) f) (λ s e3.
    by_test (is_control b) _ _ w G e3 (λ t f. (cc)) (λ c f.
    taken_by quote b 1 v k (b ∷ bs) f (plain b (not_equal b quote q) (not_equal b 92 s) c, omega arith, omega arith)))))

behind_inside : (v k n : ℕ) (means : List ℕ) (x : Read) → behind (v ∷ []) k x ≡ Ok (means, n) → (others : List ℕ) × (m : ℕ) × (x ≡ Ok (others, m))
    × (means ≡ v ∷ others) × (n ≡ k + m)
behind_inside v k n means (Err e) h = cc
behind_inside v k n means (Ok z) h =
    let pair : List ℕ × ℕ = (v ∷ z.0, k + z.1) in let want : List ℕ × ℕ = (means, n) in let same : pair ≡ want = cc in
    (z.0, z.1, refl, sym (ap (λ y. y.0) same), sym (ap (λ y. y.1) same))

-- elements up to a quote
abbrev pub Closed : ℕ → List ℕ → ℕ → List ℕ → Type 0
Closed quote means n text = (inside : List ℕ) × (rest : List ℕ) × (text ≡ inside ++ quote ∷ rest) × AreElements quote means inside × (n ≡ suc (length inside))

one_closed : (quote v k n m : ℕ) (means others text : List ℕ) → Taken quote v k text → means ≡ v ∷ others → n ≡ k + m → Closed quote others m (drop k text)
    → Closed quote means n text
one_closed quote v k n m means others text t e f c =
    let front = take k text in
    let same : text ≡ (front ++ c.0) ++ quote ∷ c.1 = sym (take-append-drop k text) ∙ ap (λ z. front ++ z) c.2 ∙ sym (append_assoc front c.0 (quote ∷ c.1)) in
    let count : n ≡ suc (length (front ++ c.0)) = omega (arith, f, c.4, length-append front c.0, taken text k t.2) in
    (front ++ c.0, c.1, same, subst (λ z. AreElements quote z (front ++ c.0)) (sym e) (one_more v t.0 c.3), count)

closed_by : (quote s a b : ℕ) (bs means : List ℕ) (n : ℕ) (e : Element) → element quote (b ∷ bs) ≡ e
    → read s a e (literal quote s (a + 1) (bytes_behind e) bs) ≡ Ok (means, n) →
    ((text others : List ℕ) (m a' : ℕ) → length text ≤ length bs → literal quote s a' 0 text ≡ Ok (others, m) → Closed quote others m text)
    → Closed quote means n (b ∷ bs)
closed_by quote s a b bs means n (Means v k) el h on =
    let text = b ∷ bs in
    let t = element_taken quote v k text el in
    let one = one_element quote s a v k text el t.1 t.2 in
    let whole : literal quote s a 0 text ≡ Ok (means, n) = subst (λ z. read s a z (literal quote s (a + 1) (bytes_behind z) bs) ≡ Ok (means, n)) (sym el) h in
    let x = behind_inside v k n means (literal quote s (a + k) 0 (drop k text)) (sym one ∙ whole) in
    one_closed quote v k n x.1 means x.0 text t x.3 x.4 (on (drop k text) x.0 x.1 (a + k) (omega (arith, length-drop k text, t.1)) x.2)
closed_by quote s a b bs means n Closes el h on =
    let pair : List ℕ × ℕ = ([], 1) in let want : List ℕ × ℕ = (means, n) in let same : pair ≡ want = cc in
    let q : b ≡ quote = equal_of b quote (closing quote b bs el) in
    ([], bs, ap (λ z. z ∷ bs) q, subst (λ z. AreElements quote z []) (ap (λ z. z.0) same) none, sym (ap (λ z. z.1) same))
closed_by quote s a b bs means n Ends el h on = cc
closed_by quote s a b bs means n Control el h on = cc
closed_by quote s a b bs means n NoEscape el h on = cc

closed_from : (fuel quote s a : ℕ) (text means : List ℕ) (n : ℕ) → length text ≤ fuel → literal quote s a 0 text ≡ Ok (means, n) → Closed quote means n text
closed_from fuel quote s a [] means n f h = cc
closed_from zero quote s a (b ∷ bs) means n f h = absurd (omega arith)
closed_from (suc fuel) quote s a (b ∷ bs) means n f h =
    closed_by quote s a b bs means n (element quote (b ∷ bs)) refl h (λ text others m a' l g. closed_from fuel quote s a' text others m (omega arith) g)

-- what is read is elements up to a quote
pub read_closed : (quote s a : ℕ) (text means : List ℕ) (n : ℕ) → literal quote s a 0 text ≡ Ok (means, n) → Closed quote means n text
read_closed quote s a text means n h = closed_from (length text) quote s a text means n (omega arith) h

-- ---- literals

-- a literal is read whole
pub literal_read : (quote b : ℕ) (bs means : List ℕ) → quote ≢ 92 → IsLiteral quote means (b ∷ bs)
    → (b ≡ quote) × (literal quote 0 1 0 bs ≡ Ok (means, length bs))
literal_read quote b bs means n l =
    let first : b ≡ quote = ap (λ z. get_or z 0 0) l.1 in
    let rest : bs ≡ l.0 ++ quote ∷ [] = ap (drop 1) l.1 in
    let len : suc (length l.0) ≡ length bs = omega (arith, ap length rest, length-append l.0 (quote ∷ [])) in
    (first, ap (literal quote 0 1 0) rest ∙ closed_read quote 0 1 [] means l.0 n l.2 ∙ ap (λ z. Ok (means, z)) len)

no_rest : (rest : List ℕ) → length rest ≡ 0 → rest ≡ []
no_rest [] e = refl
no_rest (b ∷ bs) e = absurd (omega arith)

-- what is read whole is a literal
pub read_literal : (quote b : ℕ) (bs means : List ℕ) → b ≡ quote → literal quote 0 1 0 bs ≡ Ok (means, length bs) → IsLiteral quote means (b ∷ bs)
read_literal quote b bs means u h =
    let c = read_closed quote 0 1 bs means (length bs) h in
    let none : c.1 ≡ [] = no_rest c.1 (omega (arith, ap length c.2, c.4, length-append c.0 (quote ∷ c.1))) in
    (c.0, ap (λ z. z ∷ bs) u ∙ ap (λ z. quote ∷ z) (c.2 ∙ ap (λ z. c.0 ++ quote ∷ z) none), c.3)
