-- Texts and characters: those that are found are the longest forms.
use Rattle.std.proofs.Common.{◌≡◌, ◌<◌, ◌≤◌, ℕ, zero, suc, ◌+◌, ◌-◌, ◌*◌, ◌==◌, ◌&&◌, ◌||◌, Bool, true, false, List, [], ◌∷◌, length, take, drop, get_or}
use Rattle.std.proofs.Common.{Option, Some, None, Result, Ok, Err, inl, inr, refl, ap, sym, subst, ◌∙◌, arith, if◌then◌else◌}
use Rattle.ddl_token.specs.declared.token.Tok.{Tok}
use Rattle.ddl_token.specs.declared.token.Tok.TheVariants as t
use Rattle.ddl_lex.specs.declared.error.LexError.{LexError}
use Rattle.ddl_lex.specs.declared.error.LexError.TheVariants.{OpenText}
use Rattle.ddl_lex.specs.declared.literal.Element.{Element}
use Rattle.ddl_lex.specs.declared.literal.Element.TheVariants.{Means, Closes, Ends, Control, NoEscape}
use Rattle.ddl_lex.specs.Letters.{is_control, is_hexadecimal, digit_value}
use Rattle.ddl_lex.specs.Literals.{literal, character, element, escape, hexadecimal_escape, later, meaning, read, bytes_behind, character_of}
use Rattle.ddl_lex.specs.Elements.{IsLiteral}
use Rattle.ddl_lex.specs.Forms.{IsForm, NoLonger, IsLongest}
use Rattle.std.proofs.Math.Seq.{drop-cons}
use Rattle.ddl_lex.proofs.Contents.{behind_open, literal_read, read_literal}
use Rattle.ddl_lex.proofs.Elements.{one_element, behind}
use Rattle.ddl_lex.proofs.Decided.{equal_of}
use Rattle.ddl_lex.proofs.Lengths.{taken}
use Rattle.ddl_lex.proofs.Firsts.{class_of, Begins, begins}

abbrev Read : Type 0
Read = Result (List ℕ × ℕ) LexError

-- an element that means a byte, or the closing quote
abbrev Good : Element → Type 0
Good (Means v n) = Unit {0}
Good Closes = Unit {0}
Good Ends = ⊥
Good Control = ⊥
Good NoEscape = ⊥

same_by : {A : Type 0} (v : Bool) (x y z w : A) → x ≡ z → y ≡ w → (if v then x else y) ≡ (if v then z else w)
same_by true x y z w e f = e
same_by false x y z w e f = f

-- ---- more text does not change an element

hexadecimal_more : (text : List ℕ) (k : ℕ) → Good (hexadecimal_escape (take k text)) → hexadecimal_escape text ≡ hexadecimal_escape (take k text)
hexadecimal_more [] zero g = absurd g
hexadecimal_more [] (suc k) g = absurd g
hexadecimal_more (h ∷ bs) zero g = absurd g
hexadecimal_more (h ∷ []) (suc zero) g = absurd g
hexadecimal_more (h ∷ []) (suc (suc k)) g = absurd g
hexadecimal_more (h ∷ l ∷ bs) (suc zero) g = absurd g
hexadecimal_more (h ∷ l ∷ bs) (suc (suc k)) g = refl

good_by : (v : Bool) (x y z : Element) → (Good y → z ≡ y) → Good (if v then x else y) → (if v then x else z) ≡ (if v then x else y)
good_by true x y z h g = refl
good_by false x y z h g = h g

last_by : (v : Bool) (x y z : Element) → (Good x → y ≡ x) → Good (if v then x else z) → (if v then y else z) ≡ (if v then x else z)
last_by true x y z h g = h g
last_by false x y z h g = refl

escape_more : (text : List ℕ) (k : ℕ) → Good (escape (take k text)) → escape text ≡ escape (take k text)
escape_more [] zero g = absurd g
escape_more [] (suc k) g = absurd g
escape_more (b ∷ bs) zero g = absurd g
escape_more (b ∷ bs) (suc k) g =
    good_by (b == 110) _ _ _ (good_by (b == 116) _ _ _ (good_by (b == 114) _ _ _
    (good_by (b == 92 || b == 34 || b == 39) _ _ _ (λ g'. last_by (b == 120) _ _ NoEscape (hexadecimal_more bs k) g')))) g

element_more : (quote b : ℕ) (bs : List ℕ) (k : ℕ) → Good (element quote (b ∷ take k bs)) → element quote (b ∷ bs) ≡ element quote (b ∷ take k bs)
element_more quote b bs k g = good_by (b == quote) _ _ _
    (good_by (b == 10) _ _ _ (λ g'. last_by (b == 92) _ _ (if is_control b then Control else Means b 1) (escape_more bs k) g')) g

-- ---- more text does not change what is read

meaning_more : (v n : ℕ) (bytes : List ℕ) (x y : Read) → ((bs : List ℕ) (m : ℕ) → x ≡ Ok (bs, m) → y ≡ Ok (bs, m)) → meaning v x ≡ Ok (bytes, n)
    → meaning v y ≡ Ok (bytes, n)
meaning_more v n bytes (Err e) y h f = cc
meaning_more v n bytes (Ok r) y h f = let g : y ≡ Ok r = h r.0 r.1 refl in ap (meaning v) g ∙ f

later_more : (n : ℕ) (bytes : List ℕ) (x y : Read) → ((bs : List ℕ) (m : ℕ) → x ≡ Ok (bs, m) → y ≡ Ok (bs, m)) → later x ≡ Ok (bytes, n)
    → later y ≡ Ok (bytes, n)
later_more n bytes (Err e) y h f = cc
later_more n bytes (Ok r) y h f = let g : y ≡ Ok r = h r.0 r.1 refl in ap later g ∙ f

read_more : (s a s' a' : ℕ) (e : Element) (n : ℕ) (bytes : List ℕ) (x y : Read) → ((bs : List ℕ) (m : ℕ) → x ≡ Ok (bs, m) → y ≡ Ok (bs, m))
    → read s a e x ≡ Ok (bytes, n) → Good e × (read s' a' e y ≡ Ok (bytes, n))
read_more s a s' a' (Means v k) n bytes x y h f = (tt, meaning_more v n bytes x y h f)
read_more s a s' a' Closes n bytes x y h f = (tt, f)
read_more s a s' a' Ends n bytes x y h f = cc
read_more s a s' a' Control n bytes x y h f = cc
read_more s a s' a' NoEscape n bytes x y h f = cc

pub literal_more : (quote s a s' a' skip : ℕ) (text : List ℕ) (k n : ℕ) (bytes : List ℕ) → literal quote s a skip (take k text) ≡ Ok (bytes, n)
    → literal quote s' a' skip text ≡ Ok (bytes, n)
literal_more quote s a s' a' skip [] zero n bytes e = cc
literal_more quote s a s' a' skip [] (suc k) n bytes e = cc
literal_more quote s a s' a' skip (b ∷ bs) zero n bytes e = cc
literal_more quote s a s' a' (suc skip) (b ∷ bs) (suc k) n bytes e =
    later_more n bytes _ _ (λ c m f. literal_more quote s (a + 1) s' (a' + 1) skip bs k m c f) e
literal_more quote s a s' a' zero (b ∷ bs) (suc k) n bytes e =
    let el = element quote (b ∷ take k bs) in
    let r = read_more s a s' a' el n bytes (literal quote s (a + 1) (bytes_behind el) (take k bs)) (literal quote s' (a' + 1) (bytes_behind el) bs)
    (λ c m f. literal_more quote s (a + 1) s' (a' + 1) (bytes_behind el) bs k m c f) e in
    let same = element_more quote b bs k r.0 in
    subst (λ z. read s' a' z (literal quote s' (a' + 1) (bytes_behind z) bs) ≡ Ok (bytes, n)) (sym same) r.1

-- ---- what is behind a literal does not matter

four : (c : Bool) (w v j : ℕ) → (if c then Means w 4 else NoEscape) ≡ Means v j → 4 ≡ j
four true w v j e = cc
four false w v j e = cc

hexadecimal_short : (text : List ℕ) (k v j : ℕ) → hexadecimal_escape text ≡ Means v j → j ≤ suc (suc k) → hexadecimal_escape (take k text) ≡ Means v j
hexadecimal_short [] k v j e h = cc
hexadecimal_short (x ∷ []) k v j e h = cc
hexadecimal_short (x ∷ y ∷ bs) zero v j e h = let l = four (is_hexadecimal x && is_hexadecimal y) (16 * digit_value x + digit_value y) v j e
    in absurd (omega arith)
hexadecimal_short (x ∷ y ∷ bs) (suc zero) v j e h = let l = four (is_hexadecimal x && is_hexadecimal y) (16 * digit_value x + digit_value y) v j e
    in absurd (omega arith)
hexadecimal_short (x ∷ y ∷ bs) (suc (suc k)) v j e h = e

short_by : (c : Bool) (x y z : Element) (v j : ℕ) → (y ≡ Means v j → z ≡ Means v j) → (if c then x else y) ≡ Means v j → (if c then x else z) ≡ Means v j
short_by true x y z v j h e = e
short_by false x y z v j h e = h e

-- each escape has two bytes at least
two_by : (c : Bool) (w : ℕ) (y : Element) (v j : ℕ) → (y ≡ Means v j → 2 ≤ j) → (if c then Means w 2 else y) ≡ Means v j → 2 ≤ j
two_by true w y v j h e = let x : 2 ≡ j = cc in omega arith
two_by false w y v j h e = h e

last_two : (c : Bool) (x : Element) (v j : ℕ) → (x ≡ Means v j → 2 ≤ j) → (if c then x else NoEscape) ≡ Means v j → 2 ≤ j
last_two true x v j h e = h e
last_two false x v j h e = cc

then_by : (c : Bool) (x y z : Element) (v j : ℕ) → (x ≡ Means v j → y ≡ Means v j) → (if c then x else z) ≡ Means v j → (if c then y else z) ≡ Means v j
then_by true x y z v j h e = h e
then_by false x y z v j h e = e

hexadecimal_two : (text : List ℕ) (v j : ℕ) → hexadecimal_escape text ≡ Means v j → 2 ≤ j
hexadecimal_two [] v j e = cc
hexadecimal_two (x ∷ []) v j e = cc
hexadecimal_two (x ∷ y ∷ bs) v j e = let l = four (is_hexadecimal x && is_hexadecimal y) (16 * digit_value x + digit_value y) v j e in omega arith

escape_two : (b : ℕ) (bs : List ℕ) (v j : ℕ) → escape (b ∷ bs) ≡ Means v j → 2 ≤ j
escape_two b bs v j e = two_by (b == 110) 10 _ v j (two_by (b == 116) 9 _ v j
    (two_by (b == 114) 13 _ v j (two_by (b == 92 || b == 34 || b == 39) b _ v j (last_two (b == 120) (hexadecimal_escape bs) v j (hexadecimal_two bs v j))))) e

escape_short : (text : List ℕ) (k v j : ℕ) → escape text ≡ Means v j → j ≤ suc k → escape (take k text) ≡ Means v j
escape_short [] k v j e h = cc
escape_short (b ∷ bs) zero v j e h = absurd (let x = escape_two b bs v j e in omega arith)
escape_short (b ∷ bs) (suc k) v j e h =
    short_by (b == 110) _ _ _ v j (short_by (b == 116) _ _ _ v j (short_by (b == 114) _ _ _ v j (short_by (b == 92 || b == 34 || b == 39) _ _ _ v j
    (λ e'. then_by (b == 120) _ _ NoEscape v j (λ e''. hexadecimal_short bs k v j e'' h) e')))) e

element_short : (quote b : ℕ) (bs : List ℕ) (k v j : ℕ) → element quote (b ∷ bs) ≡ Means v j → j ≤ suc k → element quote (b ∷ take k bs) ≡ Means v j
element_short quote b bs k v j e h = short_by (b == quote) _ _ _ v j
    (short_by (b == 10) _ _ _ v j (λ e'. then_by (b == 92) _ _ (if is_control b then Control else Means b 1) v j (λ e''. escape_short bs k v j e'' h) e')) e

-- a closing quote is told by its byte
closes_by : (c : Bool) (y z : Element) → (y ≡ Closes → ⊥) → (if c then Closes else y) ≡ Closes → (if c then Closes else z) ≡ Closes
closes_by true y z h e = refl
closes_by false y z h e = absurd (h e)

-- a literal ends within its bytes, which alone decide it
abbrev pub Whole : ℕ → ℕ → List ℕ → List ℕ → ℕ → Type 0
Whole quote skip text bytes n = (n ≤ length text) × (skip < n) × ((s a : ℕ) → literal quote s a skip (take n text) ≡ Ok (bytes, n))

later_inside : (x : Read) (bytes : List ℕ) (n : ℕ) → later x ≡ Ok (bytes, n) → (m : ℕ) × (n ≡ suc m) × (x ≡ Ok (bytes, m))
later_inside (Err e) bytes n h = cc
later_inside (Ok r) bytes n h =
    let pair : List ℕ × ℕ = (r.0, suc r.1) in let want : List ℕ × ℕ = (bytes, n) in let same : pair ≡ want = cc in
    (r.1, sym (ap (λ z. z.1) same), ap (λ z. Ok (z, r.1)) (ap (λ z. z.0) same))

meaning_inside : (v : ℕ) (x : Read) (bytes : List ℕ) (n : ℕ) → meaning v x ≡ Ok (bytes, n) → (m : ℕ) × (bs : List ℕ) × (n ≡ suc m) × (bytes ≡ v ∷ bs)
    × (x ≡ Ok (bs, m))
meaning_inside v (Err e) bytes n h = cc
meaning_inside v (Ok r) bytes n h =
    let pair : List ℕ × ℕ = (v ∷ r.0, suc r.1) in let want : List ℕ × ℕ = (bytes, n) in let same : pair ≡ want = cc in
    (r.1, r.0, sym (ap (λ z. z.1) same), sym (ap (λ z. z.0) same), refl)

element_closes : (quote b : ℕ) (bs : List ℕ) → element quote (b ∷ bs) ≡ Closes → element quote (b ∷ []) ≡ Closes
element_closes quote b bs e = closes_by (b == quote) _ _ (behind_open b bs) e

-- what is read behind an element at the front, wherever it stands
abbrev Behind : ℕ → Element → List ℕ → Type 0
Behind quote e bs = (bytes : List ℕ) (n s a : ℕ) → literal quote s a (bytes_behind e) bs ≡ Ok (bytes, n) → Whole quote (bytes_behind e) bs bytes n

whole_of : (quote skip : ℕ) (text bytes bytes' : List ℕ) (n n' : ℕ) → n ≡ n' → bytes ≡ bytes' → n' ≤ length text → skip < n'
    → ((s a : ℕ) → literal quote s a skip (take n' text) ≡ Ok (bytes', n')) → Whole quote skip text bytes n
whole_of quote skip text bytes bytes' n n' e f h k all = (omega arith, omega arith, λ s a. (rw (e, f) (all s a)))

whole_at : (quote s a b : ℕ) (bs bytes : List ℕ) (n : ℕ) (e : Element) → element quote (b ∷ bs) ≡ e → Behind quote e bs
    → read s a e (literal quote s (a + 1) (bytes_behind e) bs) ≡ Ok (bytes, n) → Whole quote 0 (b ∷ bs) bytes n
whole_at quote s a b bs bytes n (Means v j) el rest h =
    let x = meaning_inside v (literal quote s (a + 1) (j - 1) bs) bytes n h in
    let w = rest x.1 x.0 s (a + 1) x.4 in
    let short = element_short quote b bs x.0 v j el (omega (arith, w.1)) in
    let all : (s' a' : ℕ) → literal quote s' a' 0 (b ∷ take x.0 bs) ≡ Ok (v ∷ x.1, suc x.0) = λ s' a'.
    (subst (λ z. read s' a' z (literal quote s' (a' + 1) (bytes_behind z) (take x.0 bs)) ≡ Ok (v ∷ x.1, suc x.0)) (sym short)
    (ap (meaning v) (w.2 s' (a' + 1)))) in
    whole_of quote 0 (b ∷ bs) bytes (v ∷ x.1) n (suc x.0) x.2 x.3 (omega (arith, w.0)) (omega arith) all
whole_at quote s a b bs bytes n Closes el rest h =
    let pair : List ℕ × ℕ = ([], 1) in let want : List ℕ × ℕ = (bytes, n) in let same : pair ≡ want = cc in
    let one = element_closes quote b bs el in
    let all : (s' a' : ℕ) → literal quote s' a' 0 (b ∷ []) ≡ Ok ([], 1) = λ s' a'.
    (subst (λ z. read s' a' z (literal quote s' (a' + 1) (bytes_behind z) []) ≡ Ok ([], 1)) (sym one) refl) in
    whole_of quote 0 (b ∷ bs) bytes [] n 1 (sym (ap (λ z. z.1) same)) (sym (ap (λ z. z.0) same)) (omega arith) (omega arith) all
whole_at quote s a b bs bytes n Ends el rest h = cc
whole_at quote s a b bs bytes n Control el rest h = cc
whole_at quote s a b bs bytes n NoEscape el rest h = cc

pub literal_whole : (quote s a skip : ℕ) (text bytes : List ℕ) (n : ℕ) → literal quote s a skip text ≡ Ok (bytes, n) → Whole quote skip text bytes n
literal_whole quote s a skip [] bytes n h = cc
literal_whole quote s a (suc skip) (b ∷ bs) bytes n h =
    let x = later_inside (literal quote s (a + 1) skip bs) bytes n h in
    let w = literal_whole quote s (a + 1) skip bs bytes x.0 x.2 in
    let all : (s' a' : ℕ) → literal quote s' a' (suc skip) (b ∷ take x.0 bs) ≡ Ok (bytes, suc x.0) = λ s' a'. (ap later (w.2 s' (a' + 1))) in
    whole_of quote (suc skip) (b ∷ bs) bytes bytes n (suc x.0) x.1 refl (omega (arith, w.0)) (omega (arith, w.1)) all
literal_whole quote s a zero (b ∷ bs) bytes n h =
    whole_at quote s a b bs bytes n (element quote (b ∷ bs)) refl (λ c m s' a' f. literal_whole quote s' a' (bytes_behind (element quote (b ∷ bs))) bs c m f) h

-- ---- a text

pub at_quote : (b : ℕ) (bs : List ℕ) (c : ℕ) → class_of b ≡ c → c ≡ 3 → (q : Option Tok) (k : ℕ) → IsForm q (b ∷ take k bs) → Begins q c
    → (means : List ℕ) × (literal 34 0 1 0 (take k bs) ≡ Ok (means, length (take k bs)))
at_quote b bs c s e None k f (inl g) = absurd (omega arith)
at_quote b bs c s e None k f (inr g) = absurd (omega arith)
at_quote b bs c s e (Some (t.Word w)) k f g = absurd (omega arith)
at_quote b bs c s e (Some (t.Mark m)) k f g = absurd (omega arith)
at_quote b bs c s e (Some (t.Upper name)) k f g = absurd (omega arith)
at_quote b bs c s e (Some (t.Lower name)) k f (inl g) = absurd (omega arith)
at_quote b bs c s e (Some (t.Lower name)) k f (inr g) = absurd (omega arith)
at_quote b bs c s e (Some (t.Class name)) k f g = absurd (omega arith)
at_quote b bs c s e (Some (t.Number v base n)) k f g = absurd (omega arith)
at_quote b bs c s e (Some (t.Char x)) k f g = absurd (omega arith)
at_quote b bs c s e (Some (t.Text means)) k f g = (means, (literal_read 34 b (take k bs) means (λ z. (omega arith)) f).1)

same_length : (x : Read) (bytes bytes' : List ℕ) (n n' : ℕ) → x ≡ Ok (bytes, n) → x ≡ Ok (bytes', n') → n ≡ n'
same_length x bytes bytes' n n' e f =
    let pair : List ℕ × ℕ = (bytes, n) in let want : List ℕ × ℕ = (bytes', n') in let same : pair ≡ want = cc in ap (λ z. z.1) same

text_no_longer : (s a b : ℕ) (bs means : List ℕ) (n : ℕ) → b ≡ 34 → literal 34 s a 0 bs ≡ Ok (means, n) → NoLonger (suc n) (b ∷ bs)
text_no_longer s a b bs means n u e q zero h f = omega arith
text_no_longer s a b bs means n u e q (suc k) h f =
    let x = at_quote b bs (class_of b) refl (ap class_of u) q k f (begins q b (take k bs) f) in
    let m = same_length (literal 34 s a 0 bs) means x.0 n (length (take k bs)) e (literal_more 34 0 1 s a 0 bs k (length (take k bs)) x.0 x.1) in
    omega (arith, m, taken bs k (omega arith))

quoted : (quote b : ℕ) (bs means : List ℕ) (n : ℕ) → b ≡ quote → Whole quote 0 bs means n → IsLiteral quote means (b ∷ take n bs)
quoted quote b bs means n u w = read_literal quote b (take n bs) means u (w.2 0 1 ∙ ap (λ z. Ok (means, z)) (sym (taken bs n w.0)))

-- the text that is found is the longest form
pub text_longest : (s a b : ℕ) (bs means : List ℕ) (n : ℕ) → b ≡ 34 → literal 34 s a 0 bs ≡ Ok (means, n) → IsLongest (Some (t.Text means)) (suc n) (b ∷ bs)
text_longest s a b bs means n u e =
    let w = literal_whole 34 s a 0 bs means n e in
    (omega (arith, w.0), omega arith, quoted 34 b bs means n u w, text_no_longer s a b bs means n u e)

-- ---- a character

at_mark : (b : ℕ) (bs : List ℕ) (c : ℕ) → class_of b ≡ c → c ≡ 4 → (q : Option Tok) (k : ℕ) → IsForm q (b ∷ take k bs) → Begins q c
    → (means : List ℕ) × (literal 39 0 1 0 (take k bs) ≡ Ok (means, length (take k bs)))
at_mark b bs c s e None k f (inl g) = absurd (omega arith)
at_mark b bs c s e None k f (inr g) = absurd (omega arith)
at_mark b bs c s e (Some (t.Word w)) k f g = absurd (omega arith)
at_mark b bs c s e (Some (t.Mark m)) k f g = absurd (omega arith)
at_mark b bs c s e (Some (t.Upper name)) k f g = absurd (omega arith)
at_mark b bs c s e (Some (t.Lower name)) k f (inl g) = absurd (omega arith)
at_mark b bs c s e (Some (t.Lower name)) k f (inr g) = absurd (omega arith)
at_mark b bs c s e (Some (t.Class name)) k f g = absurd (omega arith)
at_mark b bs c s e (Some (t.Number v base n)) k f g = absurd (omega arith)
at_mark b bs c s e (Some (t.Char x)) k f g = (x ∷ [], (literal_read 39 b (take k bs) (x ∷ []) (λ z. (omega arith)) f).1)
at_mark b bs c s e (Some (t.Text means)) k f g = absurd (omega arith)

character_no_longer : (b : ℕ) (bs means : List ℕ) (n : ℕ) → b ≡ 39 → literal 39 0 1 0 bs ≡ Ok (means, n) → NoLonger (suc n) (b ∷ bs)
character_no_longer b bs means n u e q zero h f = omega arith
character_no_longer b bs means n u e q (suc k) h f =
    let x = at_mark b bs (class_of b) refl (ap class_of u) q k f (begins q b (take k bs) f) in
    let m = same_length (literal 39 0 1 0 bs) means x.0 n (length (take k bs)) e (literal_more 39 0 1 0 1 0 bs k (length (take k bs)) x.0 x.1) in
    omega (arith, m, taken bs k (omega arith))

some_by : (c : Bool) (x y : Element) (v j : ℕ) → (x ≡ Means v j → 1 ≤ j) → (y ≡ Means v j → 1 ≤ j) → (if c then x else y) ≡ Means v j → 1 ≤ j
some_by true x y v j f g e = f e
some_by false x y v j f g e = g e

escape_some : (text : List ℕ) (v j : ℕ) → escape text ≡ Means v j → 1 ≤ j
escape_some [] v j e = cc
escape_some (b ∷ bs) v j e = let x = escape_two b bs v j e in omega arith

one : (b v j : ℕ) → Means b 1 ≡ Means v j → 1 ≤ j
one b v j e = let x : 1 ≡ j = cc in omega arith

pub element_some : (quote : ℕ) (text : List ℕ) (v j : ℕ) → element quote text ≡ Means v j → 1 ≤ j
element_some quote [] v j e = cc
element_some quote (b ∷ bs) v j e = some_by (b == quote) _ _ v j (λ z.
    (cc)) (some_by (b == 10) _ _ v j (λ z. (cc)) (some_by (b == 92) _ _ v j (escape_some bs v j) (some_by (is_control b) _ _ v j (λ z. (cc)) (one b v j)))) e

if_found : (c : Bool) (x : Option Tok) (n : ℕ) (good bad : Result (Option Tok × ℕ) LexError) (e : LexError) (found : Option Tok) (m : ℕ) → good ≡ Ok (x, n)
    → bad ≡ Err e → (if c then good else bad) ≡ Ok (found, m) → (c ≡ true) × (found ≡ x) × (m ≡ n)
if_found true x n good bad e found m g f h = let pair : Option Tok × ℕ = (found, m) in let want : Option Tok × ℕ = (x, n) in let same : pair ≡ want =
    cc in (refl, ap (λ z. z.0) same, ap (λ z. z.1) same)
if_found false x n good bad e found m g f h = absurd (cc)

pub character_by : (start : ℕ) (inside : List ℕ) (e : Element) (found : Option Tok) (m : ℕ) → character_of start inside e ≡ Ok (found, m) →
    (v : ℕ) × (n : ℕ) × (e ≡ Means v n) × ((get_or inside n 0 == 39) ≡ true) × (found ≡ Some (t.Char v)) × (m ≡ n + 2)
character_by start inside (Means v n) found m h =
    let good : Result (Option Tok × ℕ) LexError = Ok (Some (t.Char v), n + 2) in
    let bad : Result (Option Tok × ℕ) LexError = Err (OpenText start) in
    let x = if_found (get_or inside n 0 == 39) (Some (t.Char v)) (n + 2) good bad (OpenText start) found m refl refl h in
    (v, n, refl, x.0, x.1, x.2)
character_by start inside Closes found m h = cc
character_by start inside Ends found m h = cc
character_by start inside Control found m h = cc
character_by start inside NoEscape found m h = cc

present : (text : List ℕ) (n : ℕ) → get_or text n 0 ≡ 39 → n < length text
present [] zero e = cc
present [] (suc n) e = cc
present (b ∷ bs) zero e = omega arith
present (b ∷ bs) (suc n) e = let x = present bs n e in omega arith

closed : (s a : ℕ) (text : List ℕ) (n : ℕ) → get_or text n 0 ≡ 39 → literal 39 s a 0 (drop n text) ≡ Ok ([], 1)
closed s a text n e = rw (drop-cons text n 0 (present text n e), e) refl

character_read : (inside : List ℕ) (v n : ℕ) → element 39 inside ≡ Means v n → get_or inside n 0 ≡ 39 → literal 39 0 1 0 inside ≡ Ok (v ∷ [], n + 1)
character_read inside v n e h =
    one_element 39 0 1 v n inside e (omega (arith, element_some 39 inside v n e)) (omega (arith, present inside n h))
    ∙ ap (behind (v ∷ []) n) (closed 0 (1 + n) inside n h)

-- the character that is found is the longest form
pub character_longest : (start b : ℕ) (bs : List ℕ) (found : Option Tok) (m : ℕ) → b ≡ 39 → character start bs ≡ Ok (found, m) → IsLongest found m (b ∷ bs)
character_longest start b bs found m u h =
    let x = character_by start bs (element 39 bs) found m h in
    let quote = equal_of (get_or bs x.1 0) 39 x.3 in
    let e = character_read bs x.0 x.1 x.2 quote in
    let w = literal_whole 39 0 1 0 bs (x.0 ∷ []) (x.1 + 1) e in
    let longest : IsLongest (Some (t.Char x.0)) (suc (x.1 + 1)) (b ∷ bs) =
    (omega (arith, w.0), omega arith, quoted 39 b bs (x.0 ∷ []) (x.1 + 1) u w, character_no_longer b bs (x.0 ∷ []) (x.1 + 1) u e) in
    let len : suc (x.1 + 1) ≡ m = omega (arith, x.5) in
    subst (λ z. IsLongest z m (b ∷ bs)) (sym x.4) (subst (λ z. IsLongest (Some (t.Char x.0)) z (b ∷ bs)) len longest)
