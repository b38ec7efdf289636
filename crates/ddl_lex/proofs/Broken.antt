-- What is wrong inside a literal, as it is read.
use Rattle.std.proofs.Common.{◌≡◌, ◌≢◌, ◌<◌, ◌≤◌, ℕ, zero, suc, ◌+◌, ◌==◌, ◌&&◌, ◌||◌, Bool, true, false, List, [], ◌∷◌, ◌++◌, length, take, drop, get_or, Some}
use Rattle.std.proofs.Common.{Result, Ok, Err, refl, ap, sym, subst, ◌∙◌, append_assoc, length-append, length-drop, arith, if◌then◌else◌}
use Rattle.std.proofs.lemmas.List.{take-append-drop}
use Rattle.ddl_token.specs.declared.token.Tok.TheVariants as t
use Rattle.ddl_lex.specs.declared.error.LexError.{LexError}
use Rattle.ddl_lex.specs.declared.error.LexError.TheVariants.{BadByte, OpenText, BadEscape}
use Rattle.ddl_lex.specs.declared.literal.Element.{Element}
use Rattle.ddl_lex.specs.declared.literal.Element.TheVariants.{Means, Closes, Ends, Control, NoEscape}
use Rattle.ddl_lex.specs.Letters.{is_control, is_hexadecimal}
use Rattle.ddl_lex.specs.Literals as r
use Rattle.ddl_lex.specs.Literals.{literal, element, hexadecimal_escape, read, bytes_behind, character, character_of}
use Rattle.ddl_lex.specs.Elements.{IsEscape, IsElement, escape, plain, AreElements, none, one_more}
use Rattle.ddl_lex.specs.Wrong.{LineEnds, AtControl, AtNoEscape, IsBroken, line_ends, at_control, at_no_escape, NoQuote, IsWrong, broken_character, no_byte}
use Rattle.ddl_lex.specs.Wrong.{open_character}
use Rattle.ddl_lex.proofs.Contents.{Taken, by_test, closing, element_taken, element_read, escape_read, elements_read}
use Rattle.ddl_lex.proofs.Elements.{one_element, behind}
use Rattle.ddl_lex.proofs.Longest.{Found, by_test as found_test}
use Rattle.ddl_lex.proofs.Lengths.{taken}
use Rattle.ddl_lex.proofs.Decided.{equal_of, not_equal, no_equal}

abbrev Read : Type 0
Read = Result (List ℕ × ℕ) LexError

-- a byte that may be a quote
abbrev pub IsQuote : ℕ → Type 0
IsQuote quote = (is_control quote ≡ false) × (quote ≢ 92)

-- ---- what the elements are that mean nothing

-- an escape, or none
abbrev Escaped : Element → Type 0
Escaped (Means v n) = Unit {0}
Escaped Closes = ⊥
Escaped Ends = ⊥
Escaped Control = ⊥
Escaped NoEscape = Unit {0}

by : (c : Bool) (x y : Element) → Escaped x → Escaped y → Escaped (if c then x else y)
by true x y e f = e
by false x y e f = f

hexadecimal_kind : (text : List ℕ) → Escaped (hexadecimal_escape text)
hexadecimal_kind [] = tt
hexadecimal_kind (h ∷ []) = tt
hexadecimal_kind (h ∷ l ∷ bs) = by (is_hexadecimal h && is_hexadecimal l) _ _ tt tt

escape_kind : (text : List ℕ) → Escaped (r.escape text)
escape_kind [] = tt
escape_kind (b ∷ bs) = by (b == 110) _ _ tt (by (b == 116) _ _ tt
    (by (b == 114) _ _ tt (by (b == 92 || b == 34 || b == 39) _ _ tt (by (b == 120) _ _ (hexadecimal_kind bs) tt))))

no_kind : (text : List ℕ) (x : Element) → (Escaped x → ⊥) → r.escape text ≡ x → ⊥
no_kind text x n e = n (subst Escaped e (escape_kind text))

ends_byte : (quote b : ℕ) (bs : List ℕ) → element quote (b ∷ bs) ≡ Ends → b ≡ 10
ends_byte quote b bs e =
    let G = b ≡ 10 in
    by_test (b == quote) _ _ Ends G e (λ t f. (cc)) (λ t e1.
    by_test (b == 10) _ _ Ends G e1 (λ t f. equal_of b 10 t) (λ t e2.
    by_test (b == 92) _ _ Ends G e2 (λ t f. absurd (no_kind bs Ends (λ z. z) f)) (λ t e3.
    by_test (is_control b) _ _ Ends G e3 (λ t f. (cc)) (λ t f. (cc)))))

control_byte : (quote b : ℕ) (bs : List ℕ) → element quote (b ∷ bs) ≡ Control → (is_control b ≡ true) × (b ≢ 10)
control_byte quote b bs e =
    let G = (is_control b ≡ true) × (b ≢ 10) in
    by_test (b == quote) _ _ Control G e (λ t f. (cc)) (λ t e1.
    by_test (b == 10) _ _ Control G e1 (λ t f. (cc)) (λ n e2.
    by_test (b == 92) _ _ Control G e2 (λ t f. absurd (no_kind bs Control (λ z. z) f)) (λ t e3.
    by_test (is_control b) _ _ Control G e3 (λ t f. (t, not_equal b 10 n)) (λ t f. (cc)))))

backslash_byte : (quote b : ℕ) (bs : List ℕ) → element quote (b ∷ bs) ≡ NoEscape → b ≡ 92
backslash_byte quote b bs e =
    let G = b ≡ 92 in
    by_test (b == quote) _ _ NoEscape G e (λ t f. (cc)) (λ t e1.
    by_test (b == 10) _ _ NoEscape G e1 (λ t f. (cc)) (λ t e2.
    by_test (b == 92) _ _ NoEscape G e2 (λ t f. equal_of b 92 t) (λ t e3.
    by_test (is_control b) _ _ NoEscape G e3 (λ t f. (cc)) (λ t f. (cc)))))

pub ends_there : (quote : ℕ) (text : List ℕ) → element quote text ≡ Ends → LineEnds text
ends_there quote [] e = tt
ends_there quote (b ∷ bs) e = ends_byte quote b bs e

pub control_there : (quote : ℕ) (text : List ℕ) → element quote text ≡ Control → AtControl text
control_there quote [] e = cc
control_there quote (b ∷ bs) e = control_byte quote b bs e

no_escape_by : (quote value n : ℕ) (text : List ℕ) → quote ≢ 92 → element quote text ≡ NoEscape → IsEscape value (take n text) → ⊥
no_escape_by quote value n text q e i =
    let there : element quote text ≡ Means value (length (take n text)) = ap (element quote) (sym (take-append-drop n text))
    ∙ escape_read quote value (drop n text) (take n text) q i in
    let wrong : NoEscape ≡ Means value (length (take n text)) = sym e ∙ there in cc

pub no_escape_there : (quote : ℕ) (text : List ℕ) → quote ≢ 92 → element quote text ≡ NoEscape → AtNoEscape text
no_escape_there quote [] q e = cc
no_escape_there quote (b ∷ bs) q e = (backslash_byte quote b bs e, λ value n i. no_escape_by quote value n (b ∷ bs) q e i)

-- ---- and the other way

pub line_end_read : (quote : ℕ) (text : List ℕ) → IsQuote quote → LineEnds text → element quote text ≡ Ends
line_end_read quote [] q h = refl
line_end_read quote (b ∷ bs) q h =
    let other : b ≢ quote = λ e. (let x : is_control b ≡ false = subst (λ z. is_control z ≡ false) (sym e) q.0 in let y : is_control b ≡ true =
    ap is_control h in cc) in
    let newline : (b == 10) ≡ true = ap (λ z. z == 10) h in
    rw (no_equal b quote other, newline) refl

pub control_read : (quote : ℕ) (text : List ℕ) → IsQuote quote → AtControl text → element quote text ≡ Control
control_read quote [] q h = absurd h
control_read quote (b ∷ bs) q h =
    let other : b ≢ quote = λ e. (let x : is_control b ≡ false = subst (λ z. is_control z ≡ false) (sym e) q.0 in cc) in
    let plain : b ≢ 92 = λ e. (let x : is_control b ≡ false = ap is_control e in cc) in
    rw (no_equal b quote other, no_equal b 10 h.1, no_equal b 92 plain, h.0) refl

is_escape : (quote value : ℕ) (bytes : List ℕ) → IsElement quote value bytes → get_or bytes 0 0 ≡ 92 → IsEscape value bytes
is_escape quote value bytes (escape e) h = e
is_escape quote value bytes (plain b q s c) h = absurd (s h)

first_taken : (b k : ℕ) (bs : List ℕ) → 0 < k → get_or (take k (b ∷ bs)) 0 0 ≡ b
first_taken b zero bs h = absurd (omega arith)
first_taken b (suc k) bs h = refl

no_escape_at : (quote b : ℕ) (bs : List ℕ) (x : Element) → element quote (b ∷ bs) ≡ x → IsQuote quote → AtNoEscape (b ∷ bs) → x ≡ NoEscape
no_escape_at quote b bs (Means v k) e q h = let t = element_taken quote v k (b ∷ bs) e
    in absurd (h.1 v k (is_escape quote v (take k (b ∷ bs)) t.0 (first_taken b k bs t.1 ∙ h.0)))
no_escape_at quote b bs Closes e q h = absurd (q.1 (sym (equal_of b quote (closing quote b bs e)) ∙ h.0))
no_escape_at quote b bs Ends e q h = absurd (let x = ends_byte quote b bs e in omega (arith, h.0))
no_escape_at quote b bs Control e q h = absurd (let x = (control_byte quote b bs e).0 in let y : is_control b ≡ false = ap is_control h.0 in cc)
no_escape_at quote b bs NoEscape e q h = refl

pub no_escape_read : (quote : ℕ) (text : List ℕ) → IsQuote quote → AtNoEscape text → element quote text ≡ NoEscape
no_escape_read quote [] q h = absurd h
no_escape_read quote (b ∷ bs) q h = no_escape_at quote b bs (element quote (b ∷ bs)) refl q h

-- ---- a text

-- some elements, and what is wrong behind them
abbrev pub BrokenBehind : ℕ → ℕ → ℕ → List ℕ → LexError → Type 0
BrokenBehind quote start at text e =
    (means : List ℕ) × (inside : List ℕ) × (behind : List ℕ) × (text ≡ inside ++ behind) × AreElements quote means inside
    × IsBroken start (at + length inside) behind e

broken_here : (quote start at : ℕ) (text : List ℕ) (e f : LexError) → e ≡ f → IsBroken start at text e → BrokenBehind quote start at text f
broken_here quote start at text e f same b =
    let place : at ≡ at + 0 = omega arith in
    ([], [], text, refl, none, subst (λ z. IsBroken start z text f) place (subst (IsBroken start at text) same b))

one_before : (quote start at v k : ℕ) (text : List ℕ) (e : LexError) → Taken quote v k text → BrokenBehind quote start (at + k) (drop k text) e
    → BrokenBehind quote start at text e
one_before quote start at v k text e t b =
    let front = take k text in
    let same : text ≡ (front ++ b.1) ++ b.2 = sym (take-append-drop k text) ∙ ap (λ z. front ++ z) b.3 ∙ sym (append_assoc front b.1 b.2) in
    let place : at + k + length b.1 ≡ at + length (front ++ b.1) = omega (arith, length-append front b.1, taken text k t.2) in
    (v ∷ b.0, front ++ b.1, b.2, same, one_more v t.0 b.4, subst (λ z. IsBroken start z b.2 e) place b.5)

behind_error : (means : List ℕ) (n : ℕ) (x : Read) (e : LexError) → behind means n x ≡ Err e → x ≡ Err e
behind_error means n (Err f) e h = h
behind_error means n (Ok z) e h = cc

broken_by : (quote s a b : ℕ) (bs : List ℕ) (e : LexError) (x : Element) → quote ≢ 92 → element quote (b ∷ bs) ≡ x
    → read s a x (literal quote s (a + 1) (bytes_behind x) bs) ≡ Err e →
    ((text : List ℕ) (a' : ℕ) → length text ≤ length bs → literal quote s a' 0 text ≡ Err e → BrokenBehind quote s a' text e)
    → BrokenBehind quote s a (b ∷ bs) e
broken_by quote s a b bs e (Means v k) q el h on =
    let text = b ∷ bs in
    let t = element_taken quote v k text el in
    let one = one_element quote s a v k text el t.1 t.2 in
    let whole : literal quote s a 0 text ≡ Err e = subst (λ z. read s a z (literal quote s (a + 1) (bytes_behind z) bs) ≡ Err e) (sym el) h in
    let rest = behind_error (v ∷ []) k (literal quote s (a + k) 0 (drop k text)) e (sym one ∙ whole) in
    one_before quote s a v k text e t (on (drop k text) (a + k) (omega (arith, length-drop k text, t.1)) rest)
broken_by quote s a b bs e Closes q el h on = cc
broken_by quote s a b bs e Ends q el h on = broken_here quote s a (b ∷ bs) (OpenText s) e (cc) (line_ends (ends_there quote (b ∷ bs) el))
broken_by quote s a b bs e Control q el h on = broken_here quote s a (b ∷ bs) (BadByte a) e (cc) (at_control (control_there quote (b ∷ bs) el))
broken_by quote s a b bs e NoEscape q el h on = broken_here quote s a (b ∷ bs) (BadEscape a) e (cc) (at_no_escape (no_escape_there quote (b ∷ bs) q el))

broken_from : (fuel quote s a : ℕ) (text : List ℕ) (e : LexError) → quote ≢ 92 → length text ≤ fuel → literal quote s a 0 text ≡ Err e
    → BrokenBehind quote s a text e
broken_from fuel quote s a [] e q f h = broken_here quote s a [] (OpenText s) e (cc) (line_ends tt)
broken_from zero quote s a (b ∷ bs) e q f h = absurd (omega arith)
broken_from (suc fuel) quote s a (b ∷ bs) e q f h =
    broken_by quote s a b bs e (element quote (b ∷ bs)) q refl h (λ text a' l g. broken_from fuel quote s a' text e q (omega arith) g)

-- what cannot be read is broken behind some elements
pub text_broken : (quote s a : ℕ) (text : List ℕ) (e : LexError) → quote ≢ 92 → literal quote s a 0 text ≡ Err e → BrokenBehind quote s a text e
text_broken quote s a text e q h = broken_from (length text) quote s a text e q (omega arith) h

read_wrong : (quote s a : ℕ) (text : List ℕ) (x : Element) (e : LexError) → element quote text ≡ x → ((r : Read) → read s a x r ≡ Err e)
    → (text ≡ [] → e ≡ OpenText s) → literal quote s a 0 text ≡ Err e
read_wrong quote s a [] x e el h n = ap Err (sym (n refl))
read_wrong quote s a (b ∷ bs) x e el h n = subst (λ z. read s a z (literal quote s (a + 1) (bytes_behind z) bs) ≡ Err e) (sym el)
    (h (literal quote s (a + 1) (bytes_behind x) bs))

broken_read : (quote s a : ℕ) (text : List ℕ) (e : LexError) → IsQuote quote → IsBroken s a text e → literal quote s a 0 text ≡ Err e
broken_read quote s a text e q (line_ends h) = read_wrong quote s a text Ends (OpenText s) (line_end_read quote text q h) (λ x. refl) (λ n. refl)
broken_read quote s a text e q (at_control h) = read_wrong quote s a text Control (BadByte a) (control_read quote text q h) (λ x. refl) (λ n.
    absurd (subst AtControl n h))
broken_read quote s a text e q (at_no_escape h) = read_wrong quote s a text NoEscape (BadEscape a) (no_escape_read quote text q h) (λ x. refl) (λ n.
    absurd (subst AtNoEscape n h))

-- what is broken behind some elements cannot be read
pub broken_behind_read : (quote s a : ℕ) (means inside rest : List ℕ) (e : LexError) → IsQuote quote → AreElements quote means inside
    → IsBroken s (a + length inside) rest e → literal quote s a 0 (inside ++ rest) ≡ Err e
broken_behind_read quote s a means inside rest e q m b =
    elements_read quote s a rest means inside q.1 m ∙ ap (behind means (length inside)) (broken_read quote s (a + length inside) rest e q b)

-- ---- a character

no_quote : (bs : List ℕ) (n : ℕ) → (get_or bs n 0 == 39) ≡ false → NoQuote (drop n bs)
no_quote [] zero e = tt
no_quote [] (suc n) e = tt
no_quote (b ∷ bs) zero e = not_equal b 39 e
no_quote (b ∷ bs) (suc n) e = no_quote bs n e

pub wrong_as : (at : ℕ) (text : List ℕ) (e f : LexError) → e ≡ f → IsWrong at text e → IsWrong at text f
wrong_as at text e f same w = subst (IsWrong at text) same w

closing_there : (at b : ℕ) (bs : List ℕ) → b ≡ 39 → element 39 bs ≡ Closes → IsWrong at (b ∷ bs) (OpenText at)
closing_there at b [] u el = cc
closing_there at b (c ∷ cs) u el = let q = equal_of c 39 (closing 39 c cs el) in no_byte cs (ap (λ z. z ∷ c ∷ cs) u ∙ ap (λ z. 39 ∷ z ∷ cs) q)

-- what is no character is wrong
character_by : (at b : ℕ) (bs : List ℕ) (e : LexError) (x : Element) → b ≡ 39 → element 39 bs ≡ x → character_of at bs x ≡ Err e → IsWrong at (b ∷ bs) e
character_by at b bs e (Means v n) u el h =
    let r : Found = Err e in
    let good : Found = Ok (Some (t.Char v), n + 2) in
    let bad : Found = Err (OpenText at) in
    found_test (get_or bs n 0 == 39) good bad r (IsWrong at (b ∷ bs) e) h (λ c f. (cc)) (λ c f.
    (let k = element_taken 39 v n bs el in
    let same : b ∷ bs ≡ 39 ∷ take n bs ++ drop n bs = ap (λ z. z ∷ bs) u ∙ ap (λ z. 39 ∷ z) (sym (take-append-drop n bs)) in
    wrong_as at (b ∷ bs) (OpenText at) e (cc) (open_character v (take n bs) (drop n bs) same k.0 (no_quote bs n c))))
character_by at b bs e Closes u el h = wrong_as at (b ∷ bs) (OpenText at) e (cc) (closing_there at b bs u el)
character_by at b bs e Ends u el h = wrong_as at (b ∷ bs) (OpenText at) e (cc) (broken_character bs (ap (λ z. z ∷ bs) u) (line_ends (ends_there 39 bs el)))
character_by at b bs e Control u el h = wrong_as at (b ∷ bs) (BadByte (at + 1)) e (cc)
    (broken_character bs (ap (λ z. z ∷ bs) u) (at_control (control_there 39 bs el)))
character_by at b bs e NoEscape u el h = wrong_as at (b ∷ bs) (BadEscape (at + 1)) e (cc)
    (broken_character bs (ap (λ z. z ∷ bs) u) (at_no_escape (no_escape_there 39 bs (λ z. (omega arith)) el)))

pub character_broken : (at b : ℕ) (bs : List ℕ) (e : LexError) → b ≡ 39 → character at bs ≡ Err e → IsWrong at (b ∷ bs) e
character_broken at b bs e u h = character_by at b bs e (element 39 bs) u refl h

is_quote : IsQuote 39
is_quote = (refl, λ z. (omega arith))

pub broken_character_read : (at : ℕ) (text : List ℕ) (e : LexError) → IsBroken at (at + 1) text e → character at text ≡ Err e
broken_character_read at text e (line_ends h) = ap (character_of at text) (line_end_read 39 text is_quote h)
broken_character_read at text e (at_control h) = ap (character_of at text) (control_read 39 text is_quote h)
broken_character_read at text e (at_no_escape h) = ap (character_of at text) (no_escape_read 39 text is_quote h)

behind_there : (xs ys : List ℕ) → NoQuote ys → (get_or (xs ++ ys) (length xs) 0 == 39) ≡ false
behind_there [] [] h = refl
behind_there [] (y ∷ ys) h = no_equal y 39 h
behind_there (x ∷ xs) ys h = behind_there xs ys h

pub open_character_read : (at value : ℕ) (inside rest : List ℕ) → IsElement 39 value inside → NoQuote rest → character at (inside ++ rest) ≡ Err (OpenText at)
open_character_read at value inside rest e n =
    let el = element_read 39 value rest inside (λ z. (omega arith)) e in
    ap (character_of at (inside ++ rest)) el ∙ (rw (behind_there inside rest n) refl)
