-- The same bytes are one form, and the longest form at a place is one.
use Rattle.std.proofs.Common.{◌≡◌, ◌≤◌, ◌<◌, ℕ, zero, suc, true, false, List, [], ◌∷◌, length, take, get_or, Option, Some, None, Result, Ok, refl, ap, sym}
use Rattle.std.proofs.Common.{subst, ◌∙◌, arith}
use Rattle.ddl_token.specs.declared.word.Word.{Word}
use Rattle.ddl_token.specs.declared.word.Word.TheVariants as w
use Rattle.ddl_token.specs.declared.mark.Mark.{Mark}
use Rattle.ddl_token.specs.declared.mark.Mark.TheVariants as m
use Rattle.ddl_token.specs.declared.token.Tok.{Tok}
use Rattle.ddl_token.specs.declared.token.Tok.TheVariants as t
use Rattle.ddl_token.specs.declared.token.Base.{Base}
use Rattle.ddl_token.specs.declared.token.Base.TheVariants.{Decimal, Hexadecimal, Binary}
use Rattle.ddl_token.specs.Spelling.{word_spelling, mark_spelling}
use Rattle.ddl_lex.specs.declared.error.LexError.{LexError}
use Rattle.ddl_lex.specs.Letters.{is_decimal}
use Rattle.ddl_lex.specs.Names.{word_of}
use Rattle.ddl_lex.specs.Marks.{mark_of}
use Rattle.ddl_lex.specs.Numbers.{radix, value_behind}
use Rattle.ddl_lex.specs.Literals.{literal}
use Rattle.ddl_lex.specs.Forms.{IsForm, IsNumber, IsLongest, AllPass}
use Rattle.ddl_lex.proofs.Contents.{literal_read}
use Rattle.ddl_lex.proofs.Sorts.{sort, form_sort}

word_read : (w : Word) → word_of (word_spelling w) ≡ Some w
word_read w.Def = refl
word_read w.Import = refl
word_read w.Bitdata = refl
word_read w.Where = refl
word_read w.Block = refl
word_read w.Let = refl
word_read w.Case = refl
word_read w.Of = refl
word_read w.If = refl
word_read w.Then = refl
word_read w.Else = refl
word_read w.For = refl
word_read w.Map = refl
word_read w.In = refl
word_read w.Is = refl
word_read w.As = refl
word_read w.AsCut = refl
word_read w.AsFit = refl
word_read w.True = refl
word_read w.False = refl
word_read w.Just = refl
word_read w.Nothing = refl
word_read w.First = refl
word_read w.Choose = refl
word_read w.Many = refl
word_read w.ManyAll = refl
word_read w.Optional = refl
word_read w.OptionalAll = refl

mark_read : (m : Mark) → mark_of (mark_spelling m) ≡ Some m
mark_read m.OrElse = refl
mark_read m.Bar = refl
mark_read m.OrOr = refl
mark_read m.DollarDollar = refl
mark_read m.DollarBracket = refl
mark_read m.Caret = refl
mark_read m.DotDot = refl
mark_read m.Dot = refl
mark_read m.BitAnd = refl
mark_read m.BitOr = refl
mark_read m.BitXor = refl
mark_read m.Arrow = refl
mark_read m.Equals = refl
mark_read m.EqualEqual = refl
mark_read m.NotEqual = refl
mark_read m.Bang = refl
mark_read m.Less = refl
mark_read m.LessEqual = refl
mark_read m.ShiftLeft = refl
mark_read m.LessHash = refl
mark_read m.Hash = refl
mark_read m.Greater = refl
mark_read m.ShiftRight = refl
mark_read m.GreaterEqual = refl
mark_read m.Plus = refl
mark_read m.Minus = refl
mark_read m.Star = refl
mark_read m.Slash = refl
mark_read m.Percent = refl
mark_read m.Tilde = refl
mark_read m.AndAnd = refl
mark_read m.OpenParen = refl
mark_read m.CloseParen = refl
mark_read m.OpenBracket = refl
mark_read m.CloseBracket = refl
mark_read m.OpenBrace = refl
mark_read m.CloseBrace = refl
mark_read m.OpenUnion = refl
mark_read m.CloseUnion = refl
mark_read m.Comma = refl
mark_read m.Semicolon = refl
mark_read m.Colon = refl
mark_read m.Underscore = refl

same_word : (a b : Word) (bytes : List ℕ) → bytes ≡ word_spelling a → bytes ≡ word_spelling b → a ≡ b
same_word a b bytes e f = let x : Some a ≡ Some b = sym (word_read a) ∙ ap word_of (sym e ∙ f) ∙ word_read b in cc

same_mark : (a b : Mark) (bytes : List ℕ) → bytes ≡ mark_spelling a → bytes ≡ mark_spelling b → a ≡ b
same_mark a b bytes e f = let x : Some a ≡ Some b = sym (mark_read a) ∙ ap mark_of (sym e ∙ f) ∙ mark_read b in cc

-- a number of a base with a mark is no decimal one
no_decimal : (x : ℕ) (digits ds : List ℕ) → is_decimal x ≡ false → AllPass is_decimal digits → digits ≡ 48 ∷ x ∷ ds → ⊥
no_decimal x digits ds n a e = let b : AllPass is_decimal (48 ∷ x ∷ ds) = subst (AllPass is_decimal) e a in let c : true ≡ false = sym b.1.0 ∙ n in cc

second : (x y : ℕ) (ds es : List ℕ) → 48 ∷ x ∷ ds ≡ 48 ∷ y ∷ es → x ≡ y
second x y ds es e = ap (λ z. get_or z 1 0) e

-- a number of one base is told by its digits
same_digits : (base : Base) (v w m n : ℕ) (ds es : List ℕ) → ds ≡ es → m ≡ length ds → n ≡ length es → v ≡ value_behind (radix base) 0 ds
    → w ≡ value_behind (radix base) 0 es →
    Some (t.Number v base m) ≡ Some (t.Number w base n)
same_digits base v w m n ds es e f g h k =
    let values : v ≡ w = h ∙ ap (value_behind (radix base) 0) e ∙ sym k in
    let counts : m ≡ n = f ∙ ap length e ∙ sym g in
    ap (λ z. Some (t.Number z base m)) values ∙ ap (λ z. Some (t.Number w base z)) counts

tails : (a b x y : ℕ) (ds es : List ℕ) → a ∷ x ∷ ds ≡ b ∷ y ∷ es → ds ≡ es
tails a b x y ds es e = cc

same_number : (a b : Base) (v w m n : ℕ) (bytes : List ℕ) → IsNumber v a m bytes → IsNumber w b n bytes → Some (t.Number v a m) ≡ Some (t.Number w b n)
same_number Decimal Decimal v w m n bytes x y = same_digits Decimal v w m n x.0 y.0 (sym x.1 ∙ y.1) x.3 y.3 x.5 y.5
same_number Decimal Hexadecimal v w m n bytes x y = absurd (no_decimal 120 x.0 y.0 refl x.2 (sym x.1 ∙ y.1))
same_number Decimal Binary v w m n bytes x y = absurd (no_decimal 98 x.0 y.0 refl x.2 (sym x.1 ∙ y.1))
same_number Hexadecimal Decimal v w m n bytes x y = absurd (no_decimal 120 y.0 x.0 refl y.2 (sym y.1 ∙ x.1))
same_number Hexadecimal Hexadecimal v w m n bytes x y = same_digits Hexadecimal v w m n x.0 y.0 (tails 48 48 120 120 x.0 y.0 (sym x.1 ∙ y.1)) x.3 y.3 x.5 y.5
same_number Hexadecimal Binary v w m n bytes x y = absurd (let z : 120 ≡ 98 = second 120 98 x.0 y.0 (sym x.1 ∙ y.1) in omega arith)
same_number Binary Decimal v w m n bytes x y = absurd (no_decimal 98 y.0 x.0 refl y.2 (sym y.1 ∙ x.1))
same_number Binary Hexadecimal v w m n bytes x y = absurd (let z : 98 ≡ 120 = second 98 120 x.0 y.0 (sym x.1 ∙ y.1) in omega arith)
same_number Binary Binary v w m n bytes x y = same_digits Binary v w m n x.0 y.0 (tails 48 48 98 98 x.0 y.0 (sym x.1 ∙ y.1)) x.3 y.3 x.5 y.5

-- what is read is one
same_read : (x : Result (List ℕ × ℕ) LexError) (bytes others : List ℕ) (n m : ℕ) → x ≡ Ok (bytes, n) → x ≡ Ok (others, m) → bytes ≡ others
same_read x bytes others n m e f = let pair : List ℕ × ℕ = (bytes, n) in let want : List ℕ × ℕ = (others, m) in let same : pair ≡ want =
    cc in ap (λ z. z.0) same

-- the same bytes are one form
same_by : (p q : Option Tok) (b : ℕ) (bs : List ℕ) → sort p ≡ sort q → IsForm p (b ∷ bs) → IsForm q (b ∷ bs) → p ≡ q
same_by None None b bs k f g = refl
same_by (Some (t.Word x)) (Some (t.Word y)) b bs k f g = ap (λ z. Some (t.Word z)) (same_word x y (b ∷ bs) f g)
same_by (Some (t.Mark x)) (Some (t.Mark y)) b bs k f g = ap (λ z. Some (t.Mark z)) (same_mark x y (b ∷ bs) f g)
same_by (Some (t.Upper x)) (Some (t.Upper y)) b bs k f g = ap (λ z. Some (t.Upper z)) (f.0 ∙ sym g.0)
same_by (Some (t.Lower x)) (Some (t.Lower y)) b bs k f g = ap (λ z. Some (t.Lower z)) (f.0 ∙ sym g.0)
same_by (Some (t.Class x)) (Some (t.Class y)) b bs k f g = ap (λ z. Some (t.Class z)) (f.0 ∙ sym g.0)
same_by (Some (t.Number v x m)) (Some (t.Number w y n)) b bs k f g = same_number x y v w m n (b ∷ bs) f g
same_by (Some (t.Char x)) (Some (t.Char y)) b bs k f g =
    ap (λ z. Some (t.Char (get_or z 0 0))) (same_read (literal 39 0 1 0 bs) (x ∷ []) (y ∷ []) (length bs) (length bs)
    (literal_read 39 b bs (x ∷ []) (λ z. (omega arith)) f).1 (literal_read 39 b bs (y ∷ []) (λ z. (omega arith)) g).1)
same_by (Some (t.Text x)) (Some (t.Text y)) b bs k f g =
    ap (λ z. Some (t.Text z)) (same_read (literal 34 0 1 0 bs) x y (length bs) (length bs) (literal_read 34 b bs x (λ z. (omega arith)) f).1
    (literal_read 34 b bs y (λ z. (omega arith)) g).1)
same_by p q b bs k f g = absurd (omega arith)

pub same_form : (p q : Option Tok) (b : ℕ) (bs : List ℕ) → IsForm p (b ∷ bs) → IsForm q (b ∷ bs) → p ≡ q
same_form p q b bs f g = same_by p q b bs (form_sort p b bs f ∙ sym (form_sort q b bs g)) f g

same_front : (p q : Option Tok) (n m b : ℕ) (bs : List ℕ) → n ≡ m → 0 < n → IsForm p (take n (b ∷ bs)) → IsForm q (take m (b ∷ bs)) → p ≡ q
same_front p q zero m b bs e s f g = absurd (omega arith)
same_front p q (suc n) m b bs e s f g = same_form p q b (take n bs) f (subst (λ z. IsForm q (take z (b ∷ bs))) (sym e) g)

-- the longest form that begins a text is one
pub one_longest : (p q : Option Tok) (n m b : ℕ) (bs : List ℕ) → IsLongest p n (b ∷ bs) → IsLongest q m (b ∷ bs) → (p ≡ q) × (n ≡ m)
one_longest p q n m b bs x y =
    let most : m ≤ n = x.3 q m y.0 y.2 in
    let least : n ≤ m = y.3 p n x.0 x.2 in
    let same : n ≡ m = omega arith in
    (same_front p q n m b bs same x.1 x.2 y.2, same)
