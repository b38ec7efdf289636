-- Each token that a text has is of a form of the language.
use Rattle.std.proofs.Common.{◌≡◌, ◌⊎◌, ◌<◌, ◌≤◌, ◌^◌, ℕ, zero, suc, ◌+◌, ◌*◌, ◌==◌, ◌&&◌, ◌||◌, Bool, true, false, List, [], ◌∷◌, ◌++◌, length, take, drop}
use Rattle.std.proofs.Common.{Some, None, Result, Ok, Err, refl, ap, sym, subst, ◌∙◌, arith, if◌then◌else◌}
use Rattle.std.proofs.lemmas.Bool.Decides.{nat_tests}
use Rattle.std.proofs.lemmas.List.{map-append}
use Rattle.std.proofs.Math.Nat.{pow-suc, pow-zero, mul-le-mul_right, mul_assoc, mul_comm}
use Rattle.ddl_token.specs.declared.token.Base.{Base}
use Rattle.ddl_token.specs.declared.token.Base.TheVariants.{Decimal, Hexadecimal, Binary}
use Rattle.ddl_token.specs.declared.token.Tok.{Tok}
use Rattle.ddl_token.specs.declared.token.Tok.TheVariants as t
use Rattle.ddl_token.specs.declared.token.Token.{Token}
use Rattle.ddl_lex.specs.declared.error.LexError.{LexError}
use Rattle.ddl_lex.specs.declared.literal.Element.{Element}
use Rattle.ddl_lex.specs.declared.literal.Element.TheVariants.{Means, Closes, Ends, Control, NoEscape}
use Rattle.ddl_lex.specs.Letters.{is_capital, is_small, is_control}
use Rattle.ddl_lex.specs.Literals.{element, escape, hexadecimal_escape, literal, later, meaning, read, bytes_behind}
use Rattle.ddl_lex.specs.Numbers.{radix, is_digit_of, value_behind}
use Rattle.ddl_lex.specs.Forms.{AllPass, IsForm, IsName, IsHidden, IsNoWord, IsClass, Fits}
use Rattle.ddl_lex.specs.Tokens.{Cut, begin, more, place_at}
use Rattle.ddl_lex.specs.Letters.{is_hexadecimal, digit_value}
use Rattle.ddl_lex.proofs.Contents as contents
use Rattle.ddl_lex.proofs.Decided.{both}
use Rattle.ddl_show.specs.ReadBack.{AreBytes, IsTokenForm, AreTokenForms, kinds}

-- ---- literals

hexadecimal_small : (d : ℕ) → is_hexadecimal d ≡ true → digit_value d < 16
hexadecimal_small d h = grind (arith, nat_tests)

-- what an element means is a byte
IsByteOf : Element → Type 0
IsByteOf (Means v n) = v < 256
IsByteOf Closes = Unit {0}
IsByteOf Ends = Unit {0}
IsByteOf Control = Unit {0}
IsByteOf NoEscape = Unit {0}

if_byte : (v : Bool) (x y : Element) → (v ≡ true → IsByteOf x) → IsByteOf y → IsByteOf (if v then x else y)
if_byte true x y f g = f refl
if_byte false x y f g = g

two_digits : (h l : ℕ) → (is_hexadecimal h && is_hexadecimal l) ≡ true → 16 * digit_value h + digit_value l < 256
two_digits h l e =
    let z = both (is_hexadecimal h) (is_hexadecimal l) e in
    omega (arith, hexadecimal_small h z.0, hexadecimal_small l z.1)

hexadecimal_byte : (bs : List ℕ) → IsByteOf (hexadecimal_escape bs)
unfolding IsByteOf
hexadecimal_byte [] = tt
hexadecimal_byte (h ∷ []) = tt
hexadecimal_byte (h ∷ l ∷ bs) = if_byte (is_hexadecimal h && is_hexadecimal l) (Means (16 * digit_value h + digit_value l) 4) NoEscape (two_digits h l) tt

escape_byte : (bs : List ℕ) → AreBytes bs → IsByteOf (escape bs)
unfolding IsByteOf
escape_byte [] h = tt
escape_byte (b ∷ bs) h =
    if_byte (b == 110) (Means 10 2) _ (λ _. omega arith)
    (if_byte (b == 116) (Means 9 2) _ (λ _. omega arith)
    (if_byte (b == 114) (Means 13 2) _ (λ _. omega arith)
    (if_byte (b == 92 || b == 34 || b == 39) (Means b 2) _ (λ _. h.0)
    (if_byte (b == 120) (hexadecimal_escape bs) NoEscape (λ _. hexadecimal_byte bs) tt))))

element_byte : (q : ℕ) (bs : List ℕ) → AreBytes bs → IsByteOf (element q bs)
unfolding IsByteOf
element_byte q [] h = tt
element_byte q (b ∷ bs) h =
    if_byte (b == q) Closes _ (λ _. tt)
    (if_byte (b == 10) Ends _ (λ _. tt)
    (if_byte (b == 92) (escape bs) _ (λ _. escape_byte bs h.1)
    (if_byte (is_control b) Control (Means b 1) (λ _. tt) h.0)))

-- what is read are bytes
AreRead : Result (List ℕ × ℕ) LexError → Type 0
AreRead (Ok r) = AreBytes r.0
AreRead (Err e) = Unit {0}

later_read : (r : Result (List ℕ × ℕ) LexError) → AreRead r → AreRead (later r)
unfolding AreRead
later_read (Ok r) h = h
later_read (Err e) h = tt

meaning_read : (v : ℕ) (r : Result (List ℕ × ℕ) LexError) → v < 256 → AreRead r → AreRead (meaning v r)
unfolding AreRead
meaning_read v (Ok r) b h = (b, h)
meaning_read v (Err e) b h = tt

element_read : (s a : ℕ) (e : Element) (r : Result (List ℕ × ℕ) LexError) → IsByteOf e → AreRead r → AreRead (read s a e r)
unfolding AreRead IsByteOf
element_read s a (Means v n) r b h = meaning_read v r b h
element_read s a Closes r b h = tt
element_read s a Ends r b h = tt
element_read s a Control r b h = tt
element_read s a NoEscape r b h = tt

literal_read : (q s a skip : ℕ) (text : List ℕ) → AreBytes text → AreRead (literal q s a skip text)
unfolding AreRead
literal_read q s a skip [] h = tt
literal_read q s a (suc skip) (b ∷ bs) h = later_read (literal q s (a + 1) skip bs) (literal_read q s (a + 1) skip bs h.1)
literal_read q s a zero (b ∷ bs) h =
    let e = element q (b ∷ bs) in
    element_read s a e (literal q s (a + 1) (bytes_behind e) bs) (element_byte q (b ∷ bs) h) (literal_read q s (a + 1) (bytes_behind e) bs h.1)

literal_bytes : (q : ℕ) (text means : List ℕ) (n : ℕ) → AreBytes text → literal q 0 1 0 text ≡ Ok (means, n) → AreBytes means
unfolding AreRead
literal_bytes q text means n h e = subst AreRead e (literal_read q 0 1 0 text h)

-- ---- numbers

digit_small : (base : Base) (d : ℕ) → is_digit_of base d ≡ true → digit_value d < radix base
digit_small Decimal d h = grind (arith, nat_tests)
digit_small Hexadecimal d h = grind (arith, nat_tests)
digit_small Binary d h = grind (arith, nat_tests)

next_below : (v r p d x : ℕ) → d < r → x < (v * r + d + 1) * p → x < (v + 1) * (p * r)
next_below v r p d x small h =
    let spread : (v + 1) * r ≡ v * r + r = grind arith in
    let more : v * r + d + 1 ≤ (v + 1) * r = omega (arith, spread, small) in
    let grown : (v * r + d + 1) * p ≤ (v + 1) * r * p = mul-le-mul_right p more in
    let turned : (v + 1) * r * p ≡ (v + 1) * (p * r) = mul_assoc (v + 1) r p ∙ ap (λ z. (v + 1) * z) (mul_comm r p) in
    omega (arith, h, grown, turned)

value_below : (base : Base) (v : ℕ) (ds : List ℕ) → AllPass (is_digit_of base) ds → value_behind (radix base) v ds < (v + 1) * radix base ^ length ds
value_below base v [] h = rw (pow-zero (radix base)) (omega arith)
value_below base v (d ∷ ds) h =
    let r = radix base in
    rw (pow-suc r (length ds)) (next_below v r (r ^ length ds) (digit_value d) (value_behind r (v * r + digit_value d) ds) (digit_small base d h.0)
    (value_below base (v * r + digit_value d) ds h.1))

number_below : (base : Base) (ds : List ℕ) → AllPass (is_digit_of base) ds → value_behind (radix base) 0 ds < radix base ^ length ds
number_below base ds h = let one : (0 + 1) * radix base ^ length ds ≡ radix base ^ length ds =
    grind arith in subst (λ z. value_behind (radix base) 0 ds < z) one (value_below base 0 ds h)

-- ---- tokens

form_of : (x : Tok) (bytes : List ℕ) → AreBytes bytes → IsForm (Some x) bytes → Fits (Some x) → IsTokenForm x
form_of (t.Word w) bytes a h f = tt
form_of (t.Mark m) bytes a h f = tt
form_of (t.Upper x) bytes a h f = (subst (IsName is_capital) (sym h.0) h.1, subst IsNoWord (sym h.0) h.2)
form_of (t.Lower x) bytes a h f = (subst (λ z. IsName is_small z ⊎ IsHidden z) (sym h.0) h.1, subst IsNoWord (sym h.0) h.2)
form_of (t.Class x) bytes a h f = subst IsClass (sym h.0) h.1
form_of (t.Number value base n) bytes a h f =
    let below = number_below base h.0 h.2 in
    let some : value_behind (radix base) 0 h.0 < radix base ^ n = subst (λ z. value_behind (radix base) 0 h.0 < radix base ^ z) (sym h.3) below in
    (h.4, subst (λ z. z < radix base ^ n) (sym h.5) some, f)
form_of (t.Char b) [] a h f = let none = h.1 in absurd (cc)
form_of (t.Char b) (q ∷ bs) a h f =
    let read = contents.literal_read 39 q bs (b ∷ []) (λ e. grind arith) h in
    let all = literal_bytes 39 bs (b ∷ []) (length bs) a.1 read.1 in
    all.0
form_of (t.Text means) [] a h f = let none = h.1 in absurd (cc)
form_of (t.Text means) (q ∷ bs) a h f =
    let read = contents.literal_read 34 q bs means (λ e. grind arith) h in
    literal_bytes 34 bs means (length bs) a.1 read.1

bytes_left : (n : ℕ) (text : List ℕ) → AreBytes text → AreBytes (drop n text)
bytes_left zero text h = h
bytes_left (suc n) [] h = tt
bytes_left (suc n) (b ∷ bs) h = bytes_left n bs h.1

bytes_at_front : (n : ℕ) (text : List ℕ) → AreBytes text → AreBytes (take n text)
bytes_at_front zero text h = tt
bytes_at_front (suc n) [] h = tt
bytes_at_front (suc n) (b ∷ bs) h = (h.0, bytes_at_front n bs h.1)

forms_and : (xs : List Tok) (x : Tok) → AreTokenForms xs → IsTokenForm x → AreTokenForms (xs ++ x ∷ [])
forms_and [] x h k = (k, tt)
forms_and (y ∷ xs) x h k = (h.0, forms_and xs x h.1 k)

-- what a text of bytes is cut into
pub cut_forms : {text : List ℕ} {tokens : List Token} {at : ℕ} → Cut text tokens at → AreBytes text → AreTokenForms (kinds tokens)
cut_forms begin a = tt
cut_forms (more {text = text} {tokens = tokens} {at = at} None n cut within piece) a = cut_forms cut a
cut_forms (more {text = text} {tokens = tokens} {at = at} (Some x) n cut within piece) a =
    let next : Token = record { kind = x; line = (place_at text at).line; col = (place_at text at).column; «from» = at; to = at + n } in
    let is : kinds (tokens ++ next ∷ []) ≡ kinds tokens ++ x ∷ [] = map-append (λ token. token.kind) tokens (next ∷ []) in
    let longest = piece.0 in
    let form = form_of x (take n (drop at text)) (bytes_at_front n (drop at text) (bytes_left at text a)) longest.2 piece.2 in
    subst AreTokenForms (sym is) (forms_and (kinds tokens) x (cut_forms cut a) form)
