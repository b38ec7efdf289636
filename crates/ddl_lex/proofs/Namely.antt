-- Words, names, classes and marks: those that are found are the longest forms.
use Rattle.std.proofs.Common.{◌≡◌, ◌⊎◌, ◌<◌, ◌≤◌, ℕ, zero, suc, ◌+◌, ◌==◌, ◌&&◌, ◌||◌, nat_lt, Bool, true, false, List, [], ◌∷◌, length, take, get_or, Option}
use Rattle.std.proofs.Common.{Some, None, inl, inr, refl, ap, sym, subst, ◌∙◌, arith, if◌then◌else◌}
use Rattle.std.proofs.lemmas.Bool.{ltb-true, lt-ltb}
use Rattle.ddl_token.specs.declared.word.Word.{Word}
use Rattle.ddl_token.specs.declared.mark.Mark.{Mark}
use Rattle.ddl_token.specs.declared.token.Tok.{Tok}
use Rattle.ddl_token.specs.declared.token.Tok.TheVariants as t
use Rattle.ddl_token.specs.Spelling.{word_spelling, mark_spelling}
use Rattle.ddl_lex.specs.Letters.{is_capital, is_small, is_name, is_white, run, begins_with}
use Rattle.ddl_lex.specs.Names.{begins_name, begins_class, named, signed_word, longer_word, word_of, word_or_name}
use Rattle.ddl_lex.specs.Marks.{mark_of}
use Rattle.ddl_lex.specs.Forms.{IsForm, IsHidden, IsClass, IsNoWord, IsWhite, IsLineComment, AllPass, NoLonger, IsLongest}
use Rattle.ddl_lex.specs.Nesting.{IsComment}
use Rattle.ddl_lex.proofs.Runs.{run_passes, run_within}
use Rattle.ddl_lex.proofs.Spelled.{word_found, no_word_found}
use Rattle.ddl_lex.proofs.Marked.{mark_most, mark_begins, no_mark_begins, mark_some}
use Rattle.ddl_lex.proofs.Lengths.{taken, small_name, IsRunOrWord, letter_length, hidden_length, class_no_longer}
use Rattle.ddl_lex.proofs.Firsts.{is_letter, letter_class, class_of, Begins, begins, small_class, white_class}
use Rattle.ddl_lex.proofs.Decided.{either, both, equal_of}

-- with what a name begins
abbrev pub Starts : ℕ → List ℕ → Type 0
Starts b bs = (is_letter b ≡ true) ⊎ ((b ≡ 95) × (is_name (get_or bs 0 0) ≡ true))

starts : (b : ℕ) (bs : List ℕ) → begins_name (b ∷ bs) ≡ true → Starts b bs
starts b bs h = elim (either (is_letter b) (b == 95 && is_name (get_or bs 0 0)) h) as (λ _. Starts b bs) [
  | inl l ↦ inl l
  | inr u ↦ (let x = both (b == 95) (is_name (get_or bs 0 0)) u in inr (equal_of b 95 x.0, x.1))
]

letter_name : (b : ℕ) → is_letter b ≡ true → is_name b ≡ true
letter_name b h = rw h refl

first_name : (b : ℕ) (bs : List ℕ) → Starts b bs → is_name b ≡ true
first_name b bs (inl l) = letter_name b l
first_name b bs (inr u) = ap is_name u.0

run_first : (b : ℕ) (bs : List ℕ) → is_name b ≡ true → run is_name (b ∷ bs) ≡ suc (run is_name bs)
run_first b bs h = rw h refl

hidden_run : (b : ℕ) (bs : List ℕ) → b ≡ 95 → is_name (get_or bs 0 0) ≡ true → 2 ≤ run is_name (b ∷ bs)
hidden_run b [] e h = cc
hidden_run b (c ∷ cs) e h = let x = run_first b (c ∷ cs) (ap is_name e) in let y = run_first c cs h in omega (arith, x, y)

form_length : (b : ℕ) (bs : List ℕ) → Starts b bs → (q : Option Tok) (k : ℕ) → k ≤ suc (length bs) → IsForm q (take k (b ∷ bs)) → IsRunOrWord (b ∷ bs) k
form_length b bs (inl l) q k h f = letter_length b bs (letter_class b l) q k h f
form_length b bs (inr u) q k h f = inl (hidden_length b bs u.0 (hidden_run b bs u.0 u.1) q k h f)

signed_some : (v : Bool) (x : Option Word) (w : Word) → (if v then x else None) ≡ Some w → (v ≡ true) × (x ≡ Some w)
signed_some true x w e = (refl, e)
signed_some false x w e = cc

signed_none : (v : Bool) (x : Option Word) → (if v then x else None) ≡ None → v ≡ true → x ≡ None
signed_none true x e h = e
signed_none false x e h = cc

split : (k n : ℕ) → k ≤ suc n → (k ≤ n) ⊎ (k ≡ n + 1)
split zero n h = inl (omega arith)
split (suc k) zero h = inr (omega arith)
split (suc k) (suc n) h = elim (split k n (omega arith)) as (λ _. (suc k ≤ suc n)
    ⊎ (suc k ≡ suc n + 1)) [ inl x ↦ inl (omega arith) | inr x ↦ inr (omega arith) ]

no_longer_by : (text : List ℕ) (k : ℕ) → k ≤ length text → signed_word (run is_name text) text ≡ None → IsRunOrWord text k → k ≤ run is_name text
no_longer_by text k h e (inl x) = x
no_longer_by text k h e (inr (w, s, l)) = elim (split k (run is_name text) l) as (λ _. k ≤ run is_name text) [
  | inl x ↦ x
  | inr x ↦ (
      let room : nat_lt (run is_name text) (length text) ≡ true = lt-ltb (run is_name text) (length text) (omega arith) in
      let none = signed_none (nat_lt (run is_name text) (length text)) (word_of (take (run is_name text + 1) text)) e room in
      let there : word_spelling w ≡ take (run is_name text + 1) text = sym s ∙ ap (λ z. take z text) x in
      absurd (no_word_found (take (run is_name text + 1) text) none w there))
]

-- a name that is no word
small_of : (b : ℕ) → is_capital b ≡ false → is_letter b ≡ true → is_small b ≡ true
small_of b e l = elim (either (is_capital b) (is_small b) l) as (λ _. is_small b ≡ true) [ inl x ↦ (cc) | inr x ↦ x ]

hidden_by : (b : ℕ) (bs : List ℕ) (m : ℕ) → b ≡ 95 → is_name (get_or bs 0 0) ≡ true → (1 ≤ m) ⊎ (is_letter b ≡ true) → AllPass is_name (take m bs)
    → IsHidden (b ∷ take m bs)
hidden_by b [] m u n p a = cc
hidden_by b (c ∷ cs) zero u n (inl p) a = absurd (omega arith)
hidden_by b (c ∷ cs) zero u n (inr p) a = let x : is_letter b ≡ false = ap is_letter u in cc
hidden_by b (c ∷ cs) (suc m) u n p a = (u, n, a.1)

long_enough : (b : ℕ) (bs : List ℕ) (m : ℕ) → run is_name (b ∷ bs) ≡ suc m → Starts b bs → (1 ≤ m) ⊎ (is_letter b ≡ true)
long_enough b bs m r (inl l) = inr l
long_enough b bs m r (inr u) = inl (omega (arith, r, hidden_run b bs u.0 u.1))

no_word_by : (b : ℕ) (bs : List ℕ) (m : ℕ) (v : Bool) → is_capital b ≡ v → Starts b bs → (Starts b bs → (1 ≤ m) ⊎ (is_letter b ≡ true))
    → AllPass is_name (take m bs) → IsNoWord (b ∷ take m bs) →
    IsForm (Some (if v then t.Upper (b ∷ take m bs) else t.Lower (b ∷ take m bs))) (b ∷ take m bs)
no_word_by b bs m true e s p a n = (refl, (e, a), n)
no_word_by b bs m false e (inl l) p a n = (refl, inl (small_of b e l, a), n)
no_word_by b bs m false e (inr u) p a n = (refl, inr (hidden_by b bs m u.0 u.1 (p (inr u)) a), n)

named_by : (b : ℕ) (bs : List ℕ) (m : ℕ) (o : Option Word) → run is_name (b ∷ bs) ≡ suc m → Starts b bs → AllPass is_name (take m bs)
    → word_of (b ∷ take m bs) ≡ o → IsForm (Some (word_or_name o (b ∷ take m bs))) (b ∷ take m bs)
named_by b bs m (Some w) r s a e = sym (word_found (b ∷ take m bs) w e)
named_by b bs m None r s a e = no_word_by b bs m (is_capital b) refl s (long_enough b bs m r) a (no_word_found (b ∷ take m bs) e)

run_or_word_le : (text : List ℕ) (k n : ℕ) → n ≡ run is_name text → IsRunOrWord text k → k ≤ n + 1
run_or_word_le text k n e (inl x) = omega arith
run_or_word_le text k n e (inr x) = omega (arith, x.2)

named_at : (b : ℕ) (bs : List ℕ) (o : Option Word) → Starts b bs → signed_word (run is_name (b ∷ bs)) (b ∷ bs) ≡ o →
    let n = run is_name (b ∷ bs) in let found = longer_word o n (take n (b ∷ bs)) in IsLongest found.0 found.1 (b ∷ bs)
named_at b bs (Some w) s e =
    let text = b ∷ bs in
    let n = run is_name text in
    let x = signed_some (nat_lt n (length text)) (word_of (take (n + 1) text)) w e in
    let room : n < length text = ltb-true n (length text) x.0 in
    (omega arith, omega arith, sym (word_found (take (n + 1) text) w x.1), λ q k h f. run_or_word_le text k n refl (form_length b bs s q k h f))
named_at b bs None s e =
    let text = b ∷ bs in
    let n = run is_name text in
    let first = run_first b bs (first_name b bs s) in
    let form = named_by b bs (run is_name bs) (word_of (b ∷ take (run is_name bs) bs)) first s (run_passes is_name bs) refl in
    let front : b ∷ take (run is_name bs) bs ≡ take n text = ap (λ z. take z text) (sym first) in
    let form' : IsForm (Some (word_or_name (word_of (take n text)) (take n text))) (take n text) =
    subst (λ z. IsForm (Some (word_or_name (word_of z) z)) z) front form in
    (run_within is_name text, omega (arith, first), form', λ q k h f. no_longer_by text k h e (form_length b bs s q k h f))

-- the word or name that is found is the longest form
pub named_longest : (b : ℕ) (bs : List ℕ) → begins_name (b ∷ bs) ≡ true → let n =
    run is_name (b ∷ bs) in IsLongest (named n (b ∷ bs)).0 (named n (b ∷ bs)).1 (b ∷ bs)
named_longest b bs h = named_at b bs (signed_word (run is_name (b ∷ bs)) (b ∷ bs)) (starts b bs h) refl

-- the class that is found is the longest form
pub class_longest : (b : ℕ) (bs : List ℕ) → begins_class (b ∷ bs) ≡ true → let n =
    suc (run is_name bs) in IsLongest (Some (t.Class (take n (b ∷ bs)))) n (b ∷ bs)
class_longest b [] h = cc
class_longest b (d ∷ ds) h =
    let x = both (b == 36) (is_small d) h in
    let dollar = equal_of b 36 x.0 in
    let first = run_first d ds (small_name d x.1) in
    let form : IsClass (b ∷ take (suc (run is_name ds)) (d ∷ ds)) = (dollar, (x.1, run_passes is_name ds)) in
    let form' : IsClass (b ∷ take (run is_name (d ∷ ds)) (d ∷ ds)) = subst (λ z. IsClass (b ∷ take z (d ∷ ds))) (sym first) form in
    (omega (arith, run_within is_name (d ∷ ds)), omega arith, (refl, form'), class_no_longer b (d ∷ ds) dollar (omega (arith, first)))

-- ---- marks

pub white_byte : (b : ℕ) (bs : List ℕ) → IsWhite (b ∷ bs) → is_white b ≡ true
white_byte b [] w = w
white_byte b (c ∷ bs) w = absurd w

-- where nothing else begins
abbrev pub IsSign : ℕ → List ℕ → Type 0
IsSign b bs = (class_of b ≡ 5) × (begins_with 45 45 (b ∷ bs) ≡ false) × (begins_with 123 45 (b ∷ bs) ≡ false) × (begins_name (b ∷ bs) ≡ false)
    × (begins_class (b ∷ bs) ≡ false)

no_line : (b : ℕ) (bs : List ℕ) (k : ℕ) → begins_with 45 45 (b ∷ bs) ≡ false → IsLineComment (b ∷ take k bs) → ⊥
no_line b [] zero n l = l
no_line b [] (suc k) n l = l
no_line b (c ∷ bs) zero n l = l
no_line b (c ∷ bs) (suc k) n l = let x : begins_with 45 45 (b ∷ c ∷ bs) ≡ true = rw (l.0, l.1) refl in cc

no_comment : (b : ℕ) (bs : List ℕ) (k : ℕ) → begins_with 123 45 (b ∷ bs) ≡ false → IsComment (b ∷ take k bs) → ⊥
no_comment b [] zero n l = l
no_comment b [] (suc k) n l = l
no_comment b (c ∷ bs) zero n l = l
no_comment b (c ∷ bs) (suc k) n l = let x : begins_with 123 45 (b ∷ c ∷ bs) ≡ true = rw (l.0, l.1) refl in cc

or_right : (a b : Bool) → b ≡ true → (a || b) ≡ true
or_right true b h = refl
or_right false b h = h

no_hidden : (b : ℕ) (bs : List ℕ) (k : ℕ) → begins_name (b ∷ bs) ≡ false → IsHidden (b ∷ take k bs) → ⊥
no_hidden b [] zero n l = l
no_hidden b [] (suc k) n l = l
no_hidden b (c ∷ bs) zero n l = l
no_hidden b (c ∷ bs) (suc k) n l = let y : (b == 95 && is_name c) ≡ true = rw (l.0, l.1) refl in let x : begins_name (b ∷ c ∷ bs) ≡ true =
    or_right (is_letter b) (b == 95 && is_name c) y in cc

no_class : (b : ℕ) (bs : List ℕ) (k : ℕ) → begins_class (b ∷ bs) ≡ false → IsClass (b ∷ take k bs) → ⊥
no_class b [] zero n l = l.1
no_class b [] (suc k) n l = l.1
no_class b (c ∷ bs) zero n l = l.1
no_class b (c ∷ bs) (suc k) n l = let x : begins_class (b ∷ c ∷ bs) ≡ true = rw (l.0, l.1.0) refl in cc

-- only a mark begins there
only_mark : (b : ℕ) (bs : List ℕ) (c : ℕ) → class_of b ≡ c → IsSign b bs → (q : Option Tok) (k : ℕ) → IsForm q (b ∷ take k bs) → Begins q c
    → (m : Mark) × (take (suc k) (b ∷ bs) ≡ mark_spelling m)
only_mark b bs c s i None k (inl w) g = absurd (omega (arith, i.0, white_class b (white_byte b (take k bs) w)))
only_mark b bs c s i None k (inr (inl l)) g = absurd (no_line b bs k i.1 l)
only_mark b bs c s i None k (inr (inr l)) g = absurd (no_comment b bs k i.2 l)
only_mark b bs c s i (Some (t.Word w)) k f g = absurd (omega (arith, s, i.0))
only_mark b bs c s i (Some (t.Mark m)) k f g = (m, f)
only_mark b bs c s i (Some (t.Upper name)) k f g = absurd (omega (arith, s, i.0))
only_mark b bs c s i (Some (t.Lower name)) k (x, inl l, y) g = absurd (omega (arith, i.0, small_class b l.0))
only_mark b bs c s i (Some (t.Lower name)) k (x, inr l, y) g = absurd (no_hidden b bs k i.3 l)
only_mark b bs c s i (Some (t.Class name)) k f g = absurd (no_class b bs k i.4 f.1)
only_mark b bs c s i (Some (t.Number v base n)) k f g = absurd (omega (arith, s, i.0))
only_mark b bs c s i (Some (t.Char x)) k f g = absurd (omega (arith, s, i.0))
only_mark b bs c s i (Some (t.Text x)) k f g = absurd (omega (arith, s, i.0))

take_short : (text : List ℕ) (k : ℕ) → length (take k text) ≤ length text
take_short [] zero = omega arith
take_short [] (suc k) = omega arith
take_short (b ∷ bs) zero = omega arith
take_short (b ∷ bs) (suc k) = omega (arith, take_short bs k)

-- the length of a mark that begins the text is the number of bytes that it takes
mark_bytes : (text : List ℕ) (k : ℕ) (m : Mark) → k ≤ length text → take k text ≡ mark_spelling m
    → (k ≡ length (mark_spelling m)) × (mark_spelling m ≡ take (length (mark_spelling m)) text)
mark_bytes text k m h e =
    let n : k ≡ length (mark_spelling m) = sym (taken text k h) ∙ ap length e in
    (n, sym e ∙ ap (λ z. take z text) n)

sign_length : (b : ℕ) (bs : List ℕ) (m : Mark) → IsSign b bs → mark_of (b ∷ bs) ≡ Some m → NoLonger (length (mark_spelling m)) (b ∷ bs)
sign_length b bs m i e q zero h f = omega arith
sign_length b bs m i e q (suc k) h f =
    let other = only_mark b bs (class_of b) refl i q k f (begins q b (take k bs) f) in
    let x = mark_bytes (b ∷ bs) (suc k) other.0 h other.1 in
    omega (arith, x.0, mark_most (b ∷ bs) m other.0 e x.1)

-- the mark that is found is the longest form
pub mark_longest : (b : ℕ) (bs : List ℕ) (m : Mark) → IsSign b bs → mark_of (b ∷ bs) ≡ Some m → IsLongest (Some (t.Mark m)) (length (mark_spelling m)) (b ∷ bs)
mark_longest b bs m i e =
    let there = mark_begins (b ∷ bs) m e in
    (omega (arith, ap length there, take_short (b ∷ bs) (length (mark_spelling m))), mark_some m, sym there, sign_length b bs m i e)

-- where no mark is found no form begins
pub no_form : (b : ℕ) (bs : List ℕ) → IsSign b bs → mark_of (b ∷ bs) ≡ None → (q : Option Tok) (k : ℕ) → k ≤ length bs → IsForm q (b ∷ take k bs) → ⊥
no_form b bs i e q k h f =
    let other = only_mark b bs (class_of b) refl i q k f (begins q b (take k bs) f) in
    let x = mark_bytes (b ∷ bs) (suc k) other.0 (omega arith) other.1 in
    no_mark_begins (b ∷ bs) other.0 e x.1
