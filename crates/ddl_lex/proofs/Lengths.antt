-- How long the forms are that begin with a byte of a class.
use Rattle.std.proofs.Common.{◌≡◌, ◌≢◌, ◌⊎◌, ◌≤◌, ℕ, zero, suc, ◌||◌, nat_le, Bool, true, false, List, [], ◌∷◌, length, take, get_or, Option, Some, None, inl}
use Rattle.std.proofs.Common.{inr, refl, ap, sym, subst, ◌∙◌, arith, if◌then◌else◌}
use Rattle.std.proofs.lemmas.Bool.Decides.{nat_tests}
use Rattle.ddl_token.specs.declared.word.Word.{Word}
use Rattle.ddl_token.specs.declared.mark.Mark.{Mark}
use Rattle.ddl_token.specs.declared.token.Tok.{Tok}
use Rattle.ddl_token.specs.declared.token.Tok.TheVariants as t
use Rattle.ddl_token.specs.Spelling.{word_spelling, mark_spelling}
use Rattle.ddl_lex.specs.Letters.{is_capital, is_small, is_name, run}
use Rattle.ddl_lex.specs.Forms.{IsForm, IsName, IsHidden, IsWhite, IsLineComment, AllPass, NoLonger}
use Rattle.ddl_lex.specs.Nesting.{IsComment}
use Rattle.ddl_lex.proofs.Runs.{run_most}
use Rattle.ddl_lex.proofs.Spelled.{word_front}
use Rattle.ddl_lex.proofs.Marked.{mark_short}
use Rattle.ddl_lex.proofs.Firsts.{class_of, Begins, begins, small_class}

pub taken : (text : List ℕ) (k : ℕ) → k ≤ length text → length (take k text) ≡ k
taken [] zero h = refl
taken [] (suc k) h = absurd (omega arith)
taken (b ∷ bs) zero h = refl
taken (b ∷ bs) (suc k) h = ap suc (taken bs k (omega arith))

pub or_true : (a : Bool) → (a || true) ≡ true
or_true true = refl
or_true false = refl

pub capital_name : (b : ℕ) → is_capital b ≡ true → is_name b ≡ true
capital_name b h = rw h refl

pub small_name : (b : ℕ) → is_small b ≡ true → is_name b ≡ true
small_name b h = grind (arith, nat_tests)

pub line_byte : (b : ℕ) (bs : List ℕ) → IsLineComment (b ∷ bs) → b ≡ 45
line_byte b [] l = absurd l
line_byte b (c ∷ bs) l = l.0

pub comment_byte : (b : ℕ) (bs : List ℕ) → IsComment (b ∷ bs) → b ≡ 123
comment_byte b [] l = absurd l
comment_byte b (c ∷ bs) l = l.0

pub hidden_byte : (b : ℕ) (bs : List ℕ) → IsHidden (b ∷ bs) → b ≡ 95
hidden_byte b [] l = absurd l
hidden_byte b (c ∷ bs) l = l.0

pub white_length : (b : ℕ) (bs : List ℕ) (k : ℕ) → k ≤ length bs → IsWhite (b ∷ take k bs) → k ≡ 0
white_length b bs zero h w = refl
white_length b [] (suc k) h w = absurd (omega arith)
white_length b (c ∷ bs) (suc k) h w = absurd w

-- a hidden name is a run of bytes of names
pub hidden_all : (bytes : List ℕ) → IsHidden bytes → AllPass is_name bytes
hidden_all [] h = absurd h
hidden_all (b ∷ []) h = absurd h
hidden_all (b ∷ c ∷ bs) h = (rw h.0 refl, (h.1, h.2))

pub capital_all : (bytes : List ℕ) → IsName is_capital bytes → AllPass is_name bytes
capital_all [] n = tt
capital_all (b ∷ bs) n = (capital_name b n.0, n.1)

pub small_all : (bytes : List ℕ) → IsName is_small bytes → AllPass is_name bytes
small_all [] n = tt
small_all (b ∷ bs) n = (small_name b n.0, n.1)

run_take_at : (v : Bool) (m n : ℕ) → m ≤ n → (if v then suc m else 0) ≤ (if v then suc n else 0)
run_take_at true m n h = omega arith
run_take_at false m n h = omega arith

pub run_take : (p : ℕ → Bool) (text : List ℕ) (k : ℕ) → run p (take k text) ≤ run p text
run_take p [] zero = omega arith
run_take p [] (suc k) = omega arith
run_take p (b ∷ bs) zero = omega arith
run_take p (b ∷ bs) (suc k) = run_take_at (p b) (run p (take k bs)) (run p bs) (run_take p bs k)

le_of_test : (a b : ℕ) → nat_le a b ≡ true → a ≤ b
le_of_test a b h = grind (arith, nat_tests)

-- a word has one byte at most behind the run of bytes of names
pub word_length : (text : List ℕ) (k : ℕ) (w : Word) → k ≤ length text → take k text ≡ word_spelling w → k ≤ suc (run is_name text)
word_length text k w h e =
    let front = le_of_test (length (word_spelling w)) (suc (run is_name (word_spelling w))) (word_front w) in
    let front' : length (take k text) ≤ suc (run is_name (take k text)) = subst (λ z. length z ≤ suc (run is_name z)) (sym e) front in
    omega (arith, front', taken text k h, run_take is_name text k)

mark_length_at : (b : ℕ) (bs : List ℕ) (k : ℕ) (m : Mark) → suc k ≤ suc (length bs) → b ≢ 46 → take (suc k) (b ∷ bs) ≡ mark_spelling m →
    (get_or (mark_spelling m) 0 0 ≡ 46) ⊎ (length (mark_spelling m) ≤ 2) → suc k ≤ 2
mark_length_at b bs k m h n e (inl x) = absurd (n (ap (λ z. get_or z 0 0) e ∙ x))
mark_length_at b bs k m h n e (inr x) = omega (arith, x, ap length e, taken bs k (omega arith))

-- a mark that begins with another byte than a point has two bytes at most
pub mark_length : (b : ℕ) (bs : List ℕ) (k : ℕ) (m : Mark) → suc k ≤ suc (length bs) → b ≢ 46 → take (suc k) (b ∷ bs) ≡ mark_spelling m → suc k ≤ 2
mark_length b bs k m h n e = mark_length_at b bs k m h n e (mark_short m)

-- one white byte
at_white : (b : ℕ) (bs : List ℕ) (c : ℕ) → class_of b ≡ c → c ≡ 2 → (q : Option Tok) (k : ℕ) → k ≤ length bs → IsForm q (b ∷ take k bs) → Begins q c → suc k ≤ 1
at_white b bs c s e None k h (inl w) g = omega (arith, white_length b bs k h w)
at_white b bs c s e None k h (inr (inl l)) g = absurd (let x : c ≡ 5 = sym s ∙ ap class_of (line_byte b (take k bs) l) in omega arith)
at_white b bs c s e None k h (inr (inr l)) g = absurd (let x : c ≡ 5 = sym s ∙ ap class_of (comment_byte b (take k bs) l) in omega arith)
at_white b bs c s e (Some (t.Word w)) k h f g = absurd (omega arith)
at_white b bs c s e (Some (t.Mark m)) k h f g = absurd (omega arith)
at_white b bs c s e (Some (t.Upper name)) k h f g = absurd (omega arith)
at_white b bs c s e (Some (t.Lower name)) k h f (inl g) = absurd (omega arith)
at_white b bs c s e (Some (t.Lower name)) k h f (inr g) = absurd (omega arith)
at_white b bs c s e (Some (t.Class name)) k h f g = absurd (omega arith)
at_white b bs c s e (Some (t.Number v base n)) k h f g = absurd (omega arith)
at_white b bs c s e (Some (t.Char x)) k h f g = absurd (omega arith)
at_white b bs c s e (Some (t.Text x)) k h f g = absurd (omega arith)

pub white_no_longer : (b : ℕ) (bs : List ℕ) → class_of b ≡ 2 → NoLonger 1 (b ∷ bs)
white_no_longer b bs e q zero h f = omega arith
white_no_longer b bs e q (suc k) h f = at_white b bs (class_of b) refl e q k (omega arith) f (begins q b (take k bs) f)

-- A letter: a run of bytes of names, or a word with one byte more.
abbrev pub IsRunOrWord : List ℕ → ℕ → Type 0
IsRunOrWord text k = (k ≤ run is_name text) ⊎ ((w : Word) × (take k text ≡ word_spelling w) × (k ≤ suc (run is_name text)))

at_letter : (b : ℕ) (bs : List ℕ) (c : ℕ) → class_of b ≡ c → c ≡ 0 → (q : Option Tok) (k : ℕ) → k ≤ length bs → IsForm q (b ∷ take k bs) → Begins q c
    → IsRunOrWord (b ∷ bs) (suc k)
at_letter b bs c s e None k h f (inl g) = absurd (omega arith)
at_letter b bs c s e None k h f (inr g) = absurd (omega arith)
at_letter b bs c s e (Some (t.Word w)) k h f g = inr (w, f, word_length (b ∷ bs) (suc k) w (omega arith) f)
at_letter b bs c s e (Some (t.Mark m)) k h f g = absurd (omega arith)
at_letter b bs c s e (Some (t.Upper name)) k h f g = inl (run_most is_name (b ∷ bs) (suc k) (omega arith) (capital_all (b ∷ take k bs) f.1))
at_letter b bs c s e (Some (t.Lower name)) k h (n, inl l, x) g = inl (run_most is_name (b ∷ bs) (suc k) (omega arith) (small_all (b ∷ take k bs) l))
at_letter b bs c s e (Some (t.Lower name)) k h (n, inr l, x) g = inl (run_most is_name (b ∷ bs) (suc k) (omega arith) (hidden_all (b ∷ take k bs) l))
at_letter b bs c s e (Some (t.Class name)) k h f g = absurd (omega arith)
at_letter b bs c s e (Some (t.Number v base n)) k h f g = absurd (omega arith)
at_letter b bs c s e (Some (t.Char x)) k h f g = absurd (omega arith)
at_letter b bs c s e (Some (t.Text x)) k h f g = absurd (omega arith)

pub letter_length : (b : ℕ) (bs : List ℕ) → class_of b ≡ 0 → (q : Option Tok) (k : ℕ) → k ≤ suc (length bs) → IsForm q (take k (b ∷ bs))
    → IsRunOrWord (b ∷ bs) k
letter_length b bs e q zero h f = inl (omega arith)
letter_length b bs e q (suc k) h f = at_letter b bs (class_of b) refl e q k (omega arith) f (begins q b (take k bs) f)

-- `_` and a byte of names
at_hidden : (b : ℕ) (bs : List ℕ) (c : ℕ) → class_of b ≡ c → c ≡ 5 → b ≡ 95 → 2 ≤ run is_name (b ∷ bs) → (q : Option Tok) (k : ℕ) → k ≤ length bs
    → IsForm q (b ∷ take k bs) → Begins q c → suc k ≤ run is_name (b ∷ bs)
at_hidden b bs c s e u r None k h (inl w) (inl g) = absurd (omega arith)
at_hidden b bs c s e u r None k h (inl w) (inr g) = omega (arith, white_length b bs k h w)
at_hidden b bs c s e u r None k h (inr (inl l)) g = absurd (omega (arith, line_byte b (take k bs) l))
at_hidden b bs c s e u r None k h (inr (inr l)) g = absurd (omega (arith, comment_byte b (take k bs) l))
at_hidden b bs c s e u r (Some (t.Word w)) k h f g = absurd (omega arith)
at_hidden b bs c s e u r (Some (t.Mark m)) k h f g = let x = mark_length b bs k m (omega arith) (λ z. (omega arith)) f in omega arith
at_hidden b bs c s e u r (Some (t.Upper name)) k h f g = absurd (omega arith)
at_hidden b bs c s e u r (Some (t.Lower name)) k h (n, inl l, x) g = run_most is_name (b ∷ bs) (suc k) (omega arith) (small_all (b ∷ take k bs) l)
at_hidden b bs c s e u r (Some (t.Lower name)) k h (n, inr l, x) g = run_most is_name (b ∷ bs) (suc k) (omega arith) (hidden_all (b ∷ take k bs) l)
at_hidden b bs c s e u r (Some (t.Class name)) k h f g = absurd (omega (arith, f.1.0))
at_hidden b bs c s e u r (Some (t.Number v base n)) k h f g = absurd (omega arith)
at_hidden b bs c s e u r (Some (t.Char x)) k h f g = absurd (omega arith)
at_hidden b bs c s e u r (Some (t.Text x)) k h f g = absurd (omega arith)

pub hidden_length : (b : ℕ) (bs : List ℕ) → b ≡ 95 → 2 ≤ run is_name (b ∷ bs) → (q : Option Tok) (k : ℕ) → k ≤ suc (length bs) → IsForm q (take k (b ∷ bs))
    → k ≤ run is_name (b ∷ bs)
hidden_length b bs u r q zero h f = omega arith
hidden_length b bs u r q (suc k) h f = at_hidden b bs (class_of b) refl (ap class_of u) u r q k (omega arith) f (begins q b (take k bs) f)

-- a class
at_class : (b : ℕ) (bs : List ℕ) (c : ℕ) → class_of b ≡ c → c ≡ 5 → b ≡ 36 → 1 ≤ run is_name bs → (q : Option Tok) (k : ℕ) → k ≤ length bs
    → IsForm q (b ∷ take k bs) → Begins q c → suc k ≤ suc (run is_name bs)
at_class b bs c s e u r None k h (inl w) g = omega (arith, white_length b bs k h w)
at_class b bs c s e u r None k h (inr (inl l)) g = absurd (omega (arith, line_byte b (take k bs) l))
at_class b bs c s e u r None k h (inr (inr l)) g = absurd (omega (arith, comment_byte b (take k bs) l))
at_class b bs c s e u r (Some (t.Word w)) k h f g = absurd (omega arith)
at_class b bs c s e u r (Some (t.Mark m)) k h f g = let x = mark_length b bs k m (omega arith) (λ z. (omega arith)) f in omega arith
at_class b bs c s e u r (Some (t.Upper name)) k h f g = absurd (omega arith)
at_class b bs c s e u r (Some (t.Lower name)) k h (n, inl l, x) g = absurd (let y : c ≡ 0 = sym s ∙ small_class b l.0 in omega arith)
at_class b bs c s e u r (Some (t.Lower name)) k h (n, inr l, x) g = absurd (omega (arith, hidden_byte b (take k bs) l))
at_class b bs c s e u r (Some (t.Class name)) k h f g = omega (arith, run_most is_name bs k h (small_all (take k bs) f.1.1))
at_class b bs c s e u r (Some (t.Number v base n)) k h f g = absurd (omega arith)
at_class b bs c s e u r (Some (t.Char x)) k h f g = absurd (omega arith)
at_class b bs c s e u r (Some (t.Text x)) k h f g = absurd (omega arith)

pub class_no_longer : (b : ℕ) (bs : List ℕ) → b ≡ 36 → 1 ≤ run is_name bs → NoLonger (suc (run is_name bs)) (b ∷ bs)
class_no_longer b bs u r q zero h f = omega arith
class_no_longer b bs u r q (suc k) h f = at_class b bs (class_of b) refl (ap class_of u) u r q k (omega arith) f (begins q b (take k bs) f)
