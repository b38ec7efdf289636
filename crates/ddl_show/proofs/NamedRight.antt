-- A word or a name with a blank behind it begins with that word or name.
use Rattle.std.proofs.Common.{◌≡◌, ◌≢◌, ◌⊎◌, ◌<◌, ◌≤◌, ℕ, suc, ◌+◌, ◌||◌, Bool, true, false, List, [], ◌∷◌, ◌++◌, length, take, Option, Some, None, inl, inr}
use Rattle.std.proofs.Common.{refl, ap, sym, subst, ◌∙◌, arith, length-append, if◌then◌else◌}
use Rattle.std.proofs.lemmas.Bool.Decides.{nat_tests}
use Rattle.ddl_token.specs.declared.word.Word.{Word}
use Rattle.ddl_token.specs.declared.word.Word.TheVariants as w
use Rattle.ddl_token.specs.declared.token.Tok.{Tok}
use Rattle.ddl_token.specs.declared.token.Tok.TheVariants as t
use Rattle.ddl_token.specs.Spelling.{word_spelling}
use Rattle.ddl_lex.specs.Letters.{is_capital, is_small, is_white, is_name, run}
use Rattle.ddl_lex.specs.Names.{begins_name, begins_class, named, longer_word, word_of, signed_word, word_or_name}
use Rattle.ddl_lex.specs.Letters.{begins_with}
use Rattle.ddl_lex.specs.Forms.{AllPass, IsName, IsHidden, IsClass, IsNoWord, IsLongest, Fits}
use Rattle.ddl_lex.proofs.Longest.{IsRight, two_bytes}
use Rattle.ddl_lex.proofs.Namely.{named_longest, class_longest}
use Rattle.ddl_lex.proofs.Lengths.{hidden_all, capital_all, small_all}
use Rattle.ddl_lex.proofs.Spelled.{word_found}
use Rattle.ddl_show.proofs.Inked.{IsBlank}

-- ---- runs

one_longer : (v : Bool) (n m : ℕ) → n ≤ m → (if v then suc n else 0) ≤ suc m
one_longer true n m h = omega arith
one_longer false n m h = omega arith

-- a run ends before a byte that does not pass
pub run_ends : (p : ℕ → Bool) (front : List ℕ) (c : ℕ) (rest : List ℕ) → p c ≡ false → run p (front ++ c ∷ rest) ≤ length front
run_ends p [] c rest h = rw h (omega arith)
run_ends p (b ∷ bs) c rest h = one_longer (p b) (run p (bs ++ c ∷ rest)) (length bs) (run_ends p bs c rest h)

-- it has all bytes before that, if they pass
pub run_is : (p : ℕ → Bool) (front : List ℕ) (c : ℕ) (rest : List ℕ) → AllPass p front → p c ≡ false → run p (front ++ c ∷ rest) ≡ length front
run_is p [] c rest a h = rw h refl
run_is p (b ∷ bs) c rest a h = rw a.0 (ap suc (run_is p bs c rest a.1 h))

pub blank_no_name : (c : ℕ) → IsBlank c → is_name c ≡ false
blank_no_name c (inl e) = rw e refl
blank_no_name c (inr e) = rw e refl

-- ---- what is named

-- a name is not how a comment begins
no_comment : (text : List ℕ) (found : Option Tok) → begins_name text ≡ true → begins_with 123 45 text ≡ true → found ≡ None
no_comment [] found h c = absurd (cc)
no_comment (b ∷ bs) found h c = let z = two_bytes 123 45 b bs c in let no : begins_name (123 ∷ bs) ≡ true = subst (λ x. begins_name (x ∷ bs) ≡ true) z.3 h
    in absurd (cc)

-- what is named at n bytes, where a byte stands behind them
abbrev named_so : ℕ → List ℕ → Option Tok × ℕ
named_so n text = longer_word (word_of (take (n + 1) text)) n (take n text)

signed : (v : Bool) (o : Option Word) → v ≡ true → (if v then o else None) ≡ o
signed true o h = refl
signed false o h = cc

found_right : (text : List ℕ) (x : Tok) (n m : ℕ) → Fits (Some x) → begins_name text ≡ true → m ≡ run is_name text → m < length text
    → named_so m text ≡ (Some x, n) → IsRight (Some x) n text
found_right [] x n m f h e l s = absurd (cc)
found_right (b ∷ bs) x n m f h e l s =
    let text = b ∷ bs in
    let more : signed_word m text ≡ word_of (take (m + 1) text) = grind (arith, nat_tests) in
    let is : named (run is_name text) text ≡ (Some x, n) = ap (λ k. named k text) (sym e) ∙ ap (λ o. longer_word o m (take m text)) more ∙ s in
    let longest = named_longest b bs h in
    (subst (λ z. IsLongest z.0 z.1 text) is longest, no_comment text (Some x) h, f)

-- ---- words

-- behind a space, and behind a newline
abbrev WordFound : Word → ℕ → List ℕ → Type 0
WordFound x c rest = let text = word_spelling x ++ c ∷ rest in named_so (run is_name text) text ≡ (Some (t.Word x), length (word_spelling x))

word_found_so : (x : Word) (rest : List ℕ) → WordFound x 32 rest × WordFound x 10 rest × ((c : ℕ) → begins_name (word_spelling x ++ c ∷ rest) ≡ true)
word_found_so w.Def rest = (refl, refl, λ c. refl)
word_found_so w.Import rest = (refl, refl, λ c. refl)
word_found_so w.Bitdata rest = (refl, refl, λ c. refl)
word_found_so w.Where rest = (refl, refl, λ c. refl)
word_found_so w.Block rest = (refl, refl, λ c. refl)
word_found_so w.Let rest = (refl, refl, λ c. refl)
word_found_so w.Case rest = (refl, refl, λ c. refl)
word_found_so w.Of rest = (refl, refl, λ c. refl)
word_found_so w.If rest = (refl, refl, λ c. refl)
word_found_so w.Then rest = (refl, refl, λ c. refl)
word_found_so w.Else rest = (refl, refl, λ c. refl)
word_found_so w.For rest = (refl, refl, λ c. refl)
word_found_so w.Map rest = (refl, refl, λ c. refl)
word_found_so w.In rest = (refl, refl, λ c. refl)
word_found_so w.Is rest = (refl, refl, λ c. refl)
word_found_so w.As rest = (refl, refl, λ c. refl)
word_found_so w.AsCut rest = (refl, refl, λ c. refl)
word_found_so w.AsFit rest = (refl, refl, λ c. refl)
word_found_so w.True rest = (refl, refl, λ c. refl)
word_found_so w.False rest = (refl, refl, λ c. refl)
word_found_so w.Just rest = (refl, refl, λ c. refl)
word_found_so w.Nothing rest = (refl, refl, λ c. refl)
word_found_so w.First rest = (refl, refl, λ c. refl)
word_found_so w.Choose rest = (refl, refl, λ c. refl)
word_found_so w.Many rest = (refl, refl, λ c. refl)
word_found_so w.ManyAll rest = (refl, refl, λ c. refl)
word_found_so w.Optional rest = (refl, refl, λ c. refl)
word_found_so w.OptionalAll rest = (refl, refl, λ c. refl)

within : (front : List ℕ) (c : ℕ) (rest : List ℕ) → IsBlank c → run is_name (front ++ c ∷ rest) < length (front ++ c ∷ rest)
within front c rest blank = omega (arith, run_ends is_name front c rest (blank_no_name c blank), length-append front (c ∷ rest))

word_by : (x : Word) (c : ℕ) (rest : List ℕ) → IsBlank c → WordFound x c rest
word_by x c rest (inl e) = subst (λ z. WordFound x z rest) (sym e) (word_found_so x rest).0
word_by x c rest (inr e) = subst (λ z. WordFound x z rest) (sym e) (word_found_so x rest).1

pub word_right : (x : Word) (c : ℕ) (rest : List ℕ) → IsBlank c → IsRight (Some (t.Word x)) (length (word_spelling x)) (word_spelling x ++ c ∷ rest)
word_right x c rest blank =
    let text = word_spelling x ++ c ∷ rest in
    found_right text (t.Word x) (length (word_spelling x)) (run is_name text) tt ((word_found_so x rest).2 c) refl (within (word_spelling x) c rest blank)
    (word_by x c rest blank)

-- ---- names

-- some byte is white
abbrev has_white : List ℕ → Bool
has_white [] = false
has_white (b ∷ bs) = is_white b || has_white bs

no_white_in : (x : Word) → has_white (word_spelling x) ≡ false
no_white_in w.Def = refl
no_white_in w.Import = refl
no_white_in w.Bitdata = refl
no_white_in w.Where = refl
no_white_in w.Block = refl
no_white_in w.Let = refl
no_white_in w.Case = refl
no_white_in w.Of = refl
no_white_in w.If = refl
no_white_in w.Then = refl
no_white_in w.Else = refl
no_white_in w.For = refl
no_white_in w.Map = refl
no_white_in w.In = refl
no_white_in w.Is = refl
no_white_in w.As = refl
no_white_in w.AsCut = refl
no_white_in w.AsFit = refl
no_white_in w.True = refl
no_white_in w.False = refl
no_white_in w.Just = refl
no_white_in w.Nothing = refl
no_white_in w.First = refl
no_white_in w.Choose = refl
no_white_in w.Many = refl
no_white_in w.ManyAll = refl
no_white_in w.Optional = refl
no_white_in w.OptionalAll = refl

or_true : (a : Bool) → (a || true) ≡ true
or_true true = refl
or_true false = refl

blank_white : (c : ℕ) → IsBlank c → is_white c ≡ true
blank_white c (inl e) = rw e refl
blank_white c (inr e) = rw e refl

white_at_end : (front : List ℕ) (c : ℕ) → IsBlank c → has_white (front ++ c ∷ []) ≡ true
white_at_end [] c blank = rw (blank_white c blank) refl
white_at_end (b ∷ bs) c blank = rw (white_at_end bs c blank) (or_true (is_white b))

no_word_by : (bytes : List ℕ) (o : Option Word) → word_of bytes ≡ o → ((x : Word) → word_spelling x ≢ bytes) → word_of bytes ≡ None
no_word_by bytes None e h = e
no_word_by bytes (Some x) e h = absurd (h x (word_found bytes x e))

no_word_ends_white : (front : List ℕ) (c : ℕ) → IsBlank c → word_of (front ++ c ∷ []) ≡ None
no_word_ends_white front c blank =
    no_word_by (front ++ c ∷ []) (word_of (front ++ c ∷ [])) refl (λ x e.
    (let f : has_white (word_spelling x) ≡ true = ap has_white e ∙ white_at_end front c blank in let g = no_white_in x in cc))

pub take_front : (front : List ℕ) (back : List ℕ) → take (length front) (front ++ back) ≡ front
take_front [] back = refl
take_front (b ∷ bs) back = ap (λ z. b ∷ z) (take_front bs back)

take_one_more : (front : List ℕ) (c : ℕ) (rest : List ℕ) → take (length front + 1) (front ++ c ∷ rest) ≡ front ++ c ∷ []
take_one_more [] c rest = refl
take_one_more (b ∷ bs) c rest = let e : suc (length bs) + 1 ≡ suc (length bs + 1) = omega arith in rw e (ap (λ z. b ∷ z) (take_one_more bs c rest))

name_found : (name : List ℕ) (c : ℕ) (rest : List ℕ) → IsBlank c → IsNoWord name
    → named_so (length name) (name ++ c ∷ rest) ≡ (Some (word_or_name None name), length name)
name_found name c rest blank free =
    ap (λ z. longer_word (word_of z) (length name) (take (length name) (name ++ c ∷ rest))) (take_one_more name c rest)
    ∙ ap (λ o. longer_word o (length name) (take (length name) (name ++ c ∷ rest))) (no_word_ends_white name c blank)
    ∙ ap (λ z. (Some (word_or_name (word_of z) z), length name)) (take_front name (c ∷ rest))
    ∙ ap (λ o. (Some (word_or_name o name), length name)) (no_word_by name (word_of name) refl free)

name_right : (name : List ℕ) (x : Tok) (c : ℕ) (rest : List ℕ) → Fits (Some x) → IsBlank c → IsNoWord name → AllPass is_name name
    → begins_name (name ++ c ∷ rest) ≡ true → word_or_name None name ≡ x →
    IsRight (Some x) (length name) (name ++ c ∷ rest)
name_right name x c rest f blank free all begins is =
    let len = run_is is_name name c rest all (blank_no_name c blank) in
    let small = subst (λ z. z < length (name ++ c ∷ rest)) len (within name c rest blank) in
    found_right (name ++ c ∷ rest) x (length name) (length name) f begins (sym len) small (name_found name c rest blank free
    ∙ ap (λ z. (Some z, length name)) is)

pub upper_right : (name : List ℕ) (c : ℕ) (rest : List ℕ) → IsBlank c → IsName is_capital name → IsNoWord name
    → IsRight (Some (t.Upper name)) (length name) (name ++ c ∷ rest)
upper_right [] c rest blank is free = absurd is
upper_right (b ∷ bs) c rest blank is free =
    name_right (b ∷ bs) (t.Upper (b ∷ bs)) c rest tt blank free (capital_all (b ∷ bs) is) (rw is.0 refl) (rw is.0 refl)

small_not_capital : (b : ℕ) → is_small b ≡ true → is_capital b ≡ false
small_not_capital b h = grind (arith, nat_tests)

pub lower_right : (name : List ℕ) (c : ℕ) (rest : List ℕ) → IsBlank c → IsName is_small name ⊎ IsHidden name → IsNoWord name
    → IsRight (Some (t.Lower name)) (length name) (name ++ c ∷ rest)
lower_right [] c rest blank (inl is) free = absurd is
lower_right [] c rest blank (inr is) free = absurd is
lower_right (b ∷ bs) c rest blank (inl is) free =
    let no_capital = small_not_capital b is.0 in
    name_right (b ∷ bs) (t.Lower (b ∷ bs)) c rest tt blank free (small_all (b ∷ bs) is) (rw (no_capital, is.0) refl) (rw no_capital refl)
lower_right (a ∷ []) c rest blank (inr is) free = absurd is
lower_right (a ∷ b ∷ bs) c rest blank (inr is) free =
    name_right (a ∷ b ∷ bs) (t.Lower (a ∷ b ∷ bs)) c rest tt blank free (hidden_all (a ∷ b ∷ bs) is) (rw (is.0, is.1) refl) (rw is.0 refl)

-- ---- classes

pub class_right : (name : List ℕ) (c : ℕ) (rest : List ℕ) → IsBlank c → IsClass name → IsRight (Some (t.Class name)) (length name) (name ++ c ∷ rest)
class_right [] c rest blank is = absurd is
class_right (a ∷ []) c rest blank is = absurd is.1
class_right (a ∷ b ∷ bs) c rest blank is =
    let name = b ∷ bs in
    let n = run_is is_name name c rest (small_all name is.1) (blank_no_name c blank) in
    let begins : begins_class (a ∷ name ++ c ∷ rest) ≡ true = rw (is.0, is.1.0) refl in
    let longest = class_longest a (name ++ c ∷ rest) begins in
    let found : IsLongest (Some (t.Class (take (suc (length name)) (a ∷ name ++ c ∷ rest)))) (suc (length name)) (a ∷ name ++ c ∷ rest) =
    subst (λ z. IsLongest (Some (t.Class (take (suc z) (a ∷ name ++ c ∷ rest)))) (suc z) (a ∷ name ++ c ∷ rest)) n longest in (
      subst (λ z. IsLongest (Some (t.Class z)) (suc (length name)) (a ∷ name ++ c ∷ rest)) (take_front (a ∷ name) (c ∷ rest)) found,
      (λ h. (let z = two_bytes 123 45 a (name ++ c ∷ rest) h in let e : a ≡ 36 = is.0 in absurd (omega (arith, z.3, e)))),
      tt,
    )
