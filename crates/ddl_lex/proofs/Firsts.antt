-- With which bytes the forms begin.
use Rattle.std.proofs.Common.{◌≡◌, ℕ, ◌==◌, ◌||◌, if◌then◌else◌, Bool, true, false, List, [], ◌∷◌, get_or, Option, Some, None, ◌⊎◌, inl, inr, refl, ap, sym}
use Rattle.std.proofs.Common.{subst, ◌∙◌, arith}
use Rattle.std.proofs.lemmas.Bool.Decides.{nat_tests}
use Rattle.ddl_token.specs.declared.word.Word.{Word}
use Rattle.ddl_token.specs.declared.word.Word.TheVariants as w
use Rattle.ddl_token.specs.declared.mark.Mark.{Mark}
use Rattle.ddl_token.specs.declared.mark.Mark.TheVariants as m
use Rattle.ddl_token.specs.declared.token.Tok.{Tok}
use Rattle.ddl_token.specs.declared.token.Tok.TheVariants as t
use Rattle.ddl_token.specs.declared.token.Base.{Base}
use Rattle.ddl_token.specs.declared.token.Base.TheVariants.{Decimal, Hexadecimal, Binary}
use Rattle.ddl_token.specs.Spelling.{word_spelling, mark_spelling}
use Rattle.ddl_lex.specs.Letters.{is_capital, is_small, is_decimal, is_white}
use Rattle.ddl_lex.specs.Forms.{IsForm, IsNumber, IsName, IsHidden, AllPass}

-- a letter
abbrev pub is_letter : ℕ → Bool
is_letter b = is_capital b || is_small b

-- the class of a byte: 0 a letter, 1 a digit, 2 white, 3 and 4 the quotes, 5 any other
abbrev pub class_of : ℕ → ℕ
class_of b = if is_letter b then 0 else (if is_decimal b then 1 else (if is_white b then 2 else (if b == 34 then 3 else (if b == 39 then 4 else 5))))

-- the class of the bytes with which a form begins
abbrev pub Begins : Option Tok → ℕ → Type 0
Begins None c = (c ≡ 2) ⊎ (c ≡ 5)
Begins (Some (t.Word w)) c = c ≡ 0
Begins (Some (t.Mark m)) c = c ≡ 5
Begins (Some (t.Upper name)) c = c ≡ 0
Begins (Some (t.Lower name)) c = (c ≡ 0) ⊎ (c ≡ 5)
Begins (Some (t.Class name)) c = c ≡ 5
Begins (Some (t.Number v base n)) c = c ≡ 1
Begins (Some (t.Char b)) c = c ≡ 4
Begins (Some (t.Text bs)) c = c ≡ 3

pub letter_class : (b : ℕ) → is_letter b ≡ true → class_of b ≡ 0
letter_class b h = rw h refl

pub capital_class : (b : ℕ) → is_capital b ≡ true → class_of b ≡ 0
capital_class b h = rw h refl

or_true : (a : Bool) → (a || true) ≡ true
or_true true = refl
or_true false = refl

pub small_class : (b : ℕ) → is_small b ≡ true → class_of b ≡ 0
small_class b h = letter_class b (rw h (or_true (is_capital b)))

pub decimal_no_letter : (b : ℕ) → is_decimal b ≡ true → is_letter b ≡ false
decimal_no_letter b h = grind (arith, nat_tests)

pub decimal_class : (b : ℕ) → is_decimal b ≡ true → class_of b ≡ 1
decimal_class b h = rw (decimal_no_letter b h, h) refl

white_no_letter : (b : ℕ) → is_white b ≡ true → (is_letter b ≡ false) × (is_decimal b ≡ false)
white_no_letter b h = (grind (arith, nat_tests), grind (arith, nat_tests))

pub white_class : (b : ℕ) → is_white b ≡ true → class_of b ≡ 2
white_class b h = let n = white_no_letter b h in rw (n.0, n.1, h) refl

pub word_first : (w : Word) → class_of (get_or (word_spelling w) 0 0) ≡ 0
word_first w.Def = refl
word_first w.Import = refl
word_first w.Bitdata = refl
word_first w.Where = refl
word_first w.Block = refl
word_first w.Let = refl
word_first w.Case = refl
word_first w.Of = refl
word_first w.If = refl
word_first w.Then = refl
word_first w.Else = refl
word_first w.For = refl
word_first w.Map = refl
word_first w.In = refl
word_first w.Is = refl
word_first w.As = refl
word_first w.AsCut = refl
word_first w.AsFit = refl
word_first w.True = refl
word_first w.False = refl
word_first w.Just = refl
word_first w.Nothing = refl
word_first w.First = refl
word_first w.Choose = refl
word_first w.Many = refl
word_first w.ManyAll = refl
word_first w.Optional = refl
word_first w.OptionalAll = refl

pub mark_first : (m : Mark) → class_of (get_or (mark_spelling m) 0 0) ≡ 5
mark_first m.OrElse = refl
mark_first m.Bar = refl
mark_first m.OrOr = refl
mark_first m.DollarDollar = refl
mark_first m.DollarBracket = refl
mark_first m.Caret = refl
mark_first m.DotDot = refl
mark_first m.Dot = refl
mark_first m.BitAnd = refl
mark_first m.BitOr = refl
mark_first m.BitXor = refl
mark_first m.Arrow = refl
mark_first m.Equals = refl
mark_first m.EqualEqual = refl
mark_first m.NotEqual = refl
mark_first m.Bang = refl
mark_first m.Less = refl
mark_first m.LessEqual = refl
mark_first m.ShiftLeft = refl
mark_first m.LessHash = refl
mark_first m.Hash = refl
mark_first m.Greater = refl
mark_first m.ShiftRight = refl
mark_first m.GreaterEqual = refl
mark_first m.Plus = refl
mark_first m.Minus = refl
mark_first m.Star = refl
mark_first m.Slash = refl
mark_first m.Percent = refl
mark_first m.Tilde = refl
mark_first m.AndAnd = refl
mark_first m.OpenParen = refl
mark_first m.CloseParen = refl
mark_first m.OpenBracket = refl
mark_first m.CloseBracket = refl
mark_first m.OpenBrace = refl
mark_first m.CloseBrace = refl
mark_first m.OpenUnion = refl
mark_first m.CloseUnion = refl
mark_first m.Comma = refl
mark_first m.Semicolon = refl
mark_first m.Colon = refl
mark_first m.Underscore = refl

same_first : (b : ℕ) (bs spelling : List ℕ) (c : ℕ) → b ∷ bs ≡ spelling → class_of (get_or spelling 0 0) ≡ c → class_of b ≡ c
same_first b bs spelling c e h = subst (λ z. class_of (get_or z 0 0) ≡ c) (sym e) h

at_byte : (b n c : ℕ) → b ≡ n → class_of n ≡ c → class_of b ≡ c
at_byte b n c e h = ap class_of e ∙ h

number_digit : (b : ℕ) (bs digits : List ℕ) → b ∷ bs ≡ digits → AllPass is_decimal digits → class_of b ≡ 1
number_digit b bs digits e a = let c : AllPass is_decimal (b ∷ bs) = subst (AllPass is_decimal) (sym e) a in decimal_class b c.0

number_first : (base : Base) (b : ℕ) (bs : List ℕ) (value count : ℕ) → IsNumber value base count (b ∷ bs) → class_of b ≡ 1
number_first Decimal b bs value count n = number_digit b bs n.0 n.1 n.2
number_first Hexadecimal b bs value count n = at_byte b 48 1 (ap (λ z. get_or z 0 0) n.1) refl
number_first Binary b bs value count n = at_byte b 48 1 (ap (λ z. get_or z 0 0) n.1) refl

lower_first : (b : ℕ) (bs : List ℕ) → (IsName is_small (b ∷ bs) ⊎ IsHidden (b ∷ bs)) → (class_of b ≡ 0) ⊎ (class_of b ≡ 5)
lower_first b bs (inl n) = inl (small_class b n.0)
lower_first b [] (inr h) = absurd h
lower_first b (c ∷ bs) (inr h) = inr (at_byte b 95 5 h.0 refl)

-- the class of the byte with which a form begins
pub begins : (q : Option Tok) (b : ℕ) (bs : List ℕ) → IsForm q (b ∷ bs) → Begins q (class_of b)
begins None b [] (inl w) = inl (white_class b w)
begins None b (c ∷ bs) (inl w) = absurd w
begins None b [] (inr (inl l)) = absurd l
begins None b (c ∷ bs) (inr (inl l)) = inr (at_byte b 45 5 l.0 refl)
begins None b [] (inr (inr l)) = absurd l
begins None b (c ∷ bs) (inr (inr l)) = inr (at_byte b 123 5 l.0 refl)
begins (Some (t.Word w)) b bs f = same_first b bs (word_spelling w) 0 f (word_first w)
begins (Some (t.Mark m)) b bs f = same_first b bs (mark_spelling m) 5 f (mark_first m)
begins (Some (t.Upper name)) b bs f = capital_class b f.1.0
begins (Some (t.Lower name)) b bs f = lower_first b bs f.1
begins (Some (t.Class name)) b bs f = at_byte b 36 5 f.1.0 refl
begins (Some (t.Number v base n)) b bs f = number_first base b bs v n f
begins (Some (t.Char c)) b bs f = at_byte b 39 4 (ap (λ z. get_or z 0 0) f.1) refl
begins (Some (t.Text means)) b bs f = at_byte b 34 3 (ap (λ z. get_or z 0 0) f.1) refl
