-- Of what sort the token is that some bytes are: bytes are of one sort.
use Rattle.std.proofs.Common.{◌≡◌, ◌==◌, ◌&&◌, ℕ, suc, Bool, true, false, List, [], ◌∷◌, Option, Some, None, inl, inr, refl, ap, sym, ◌∙◌, arith, if◌then◌else◌}
use Rattle.std.proofs.lemmas.Bool.Decides.{nat_tests}
use Rattle.ddl_token.specs.declared.word.Word.{Word}
use Rattle.ddl_token.specs.declared.word.Word.TheVariants as w
use Rattle.ddl_token.specs.declared.mark.Mark.{Mark}
use Rattle.ddl_token.specs.declared.mark.Mark.TheVariants as m
use Rattle.ddl_token.specs.declared.token.Tok.{Tok}
use Rattle.ddl_token.specs.declared.token.Tok.TheVariants as t
use Rattle.ddl_token.specs.Spelling.{word_spelling, mark_spelling}
use Rattle.ddl_lex.specs.Letters.{is_capital, is_small}
use Rattle.ddl_lex.specs.Names.{word_of}
use Rattle.ddl_lex.specs.Forms.{IsForm, IsName, IsHidden, IsClass, IsNoWord, IsLineComment}
use Rattle.ddl_lex.specs.Nesting.{IsComment}
use Rattle.ddl_lex.proofs.Spelled.{word_found}
use Rattle.ddl_lex.proofs.Firsts.{class_of, begins, white_class, capital_class, small_class}

-- the sorts of tokens
abbrev pub token_sort : Tok → ℕ
token_sort (t.Word w) = 0
token_sort (t.Mark m) = 1
token_sort (t.Upper name) = 2
token_sort (t.Lower name) = 3
token_sort (t.Class name) = 4
token_sort (t.Number v base n) = 5
token_sort (t.Char b) = 6
token_sort (t.Text bs) = 7

-- the sorts of forms: 0 is white space or a comment
abbrev pub sort : Option Tok → ℕ
sort None = 0
sort (Some tok) = suc (token_sort tok)

-- a word, or a name by its first letter
abbrev lettered : Option Word → Bool → ℕ
lettered (Some w) capital = 1
lettered None capital = if capital then 3 else 4

-- a sign and what is behind it: a comment, a hidden name, a class or a mark
abbrev signed : ℕ → List ℕ → ℕ
signed b [] = 2
signed b (c ∷ bs) =
    if b == 45 && c == 45 then 0
    else (if b == 123 && c == 45 then 0
    else (if b == 95 then 4
    else (if b == 36 && is_small c then 5
    else 2)))

-- the sort of bytes of which the first has this class
abbrev sort_at : ℕ → ℕ → List ℕ → ℕ
sort_at c b bs =
    if c == 0 then lettered (word_of (b ∷ bs)) (is_capital b)
    else (if c == 1 then 6
    else (if c == 2 then 0
    else (if c == 3 then 8
    else (if c == 4 then 7
    else signed b bs))))

-- the sort of bytes
abbrev pub sort_of : List ℕ → ℕ
sort_of [] = 0
sort_of (b ∷ bs) = sort_at (class_of b) b bs

word_sort : (w : Word) → sort_of (word_spelling w) ≡ 1
word_sort w.Def = refl
word_sort w.Import = refl
word_sort w.Bitdata = refl
word_sort w.Where = refl
word_sort w.Block = refl
word_sort w.Let = refl
word_sort w.Case = refl
word_sort w.Of = refl
word_sort w.If = refl
word_sort w.Then = refl
word_sort w.Else = refl
word_sort w.For = refl
word_sort w.Map = refl
word_sort w.In = refl
word_sort w.Is = refl
word_sort w.As = refl
word_sort w.AsCut = refl
word_sort w.AsFit = refl
word_sort w.True = refl
word_sort w.False = refl
word_sort w.Just = refl
word_sort w.Nothing = refl
word_sort w.First = refl
word_sort w.Choose = refl
word_sort w.Many = refl
word_sort w.ManyAll = refl
word_sort w.Optional = refl
word_sort w.OptionalAll = refl

mark_sort : (m : Mark) → sort_of (mark_spelling m) ≡ 2
mark_sort m.OrElse = refl
mark_sort m.Bar = refl
mark_sort m.OrOr = refl
mark_sort m.DollarDollar = refl
mark_sort m.DollarBracket = refl
mark_sort m.Caret = refl
mark_sort m.DotDot = refl
mark_sort m.Dot = refl
mark_sort m.BitAnd = refl
mark_sort m.BitOr = refl
mark_sort m.BitXor = refl
mark_sort m.Arrow = refl
mark_sort m.Equals = refl
mark_sort m.EqualEqual = refl
mark_sort m.NotEqual = refl
mark_sort m.Bang = refl
mark_sort m.Less = refl
mark_sort m.LessEqual = refl
mark_sort m.ShiftLeft = refl
mark_sort m.LessHash = refl
mark_sort m.Hash = refl
mark_sort m.Greater = refl
mark_sort m.ShiftRight = refl
mark_sort m.GreaterEqual = refl
mark_sort m.Plus = refl
mark_sort m.Minus = refl
mark_sort m.Star = refl
mark_sort m.Slash = refl
mark_sort m.Percent = refl
mark_sort m.Tilde = refl
mark_sort m.AndAnd = refl
mark_sort m.OpenParen = refl
mark_sort m.CloseParen = refl
mark_sort m.OpenBracket = refl
mark_sort m.CloseBracket = refl
mark_sort m.OpenBrace = refl
mark_sort m.CloseBrace = refl
mark_sort m.OpenUnion = refl
mark_sort m.CloseUnion = refl
mark_sort m.Comma = refl
mark_sort m.Semicolon = refl
mark_sort m.Colon = refl
mark_sort m.Underscore = refl

no_word_by : (bytes : List ℕ) (o : Option Word) → word_of bytes ≡ o → IsNoWord bytes → o ≡ None
no_word_by bytes (Some w) e n = absurd (n w (word_found bytes w e))
no_word_by bytes None e n = refl

-- bytes that are no word
no_word : (bytes : List ℕ) → IsNoWord bytes → word_of bytes ≡ None
no_word bytes n = no_word_by bytes (word_of bytes) refl n

not_capital : (b : ℕ) → is_small b ≡ true → is_capital b ≡ false
not_capital b h = grind (arith, nat_tests)

of_class : (c b : ℕ) (bs : List ℕ) → class_of b ≡ c → sort_at c b bs ≡ sort_of (b ∷ bs)
of_class c b bs e = ap (λ z. sort_at z b bs) (sym e)

upper_sort : (b : ℕ) (bs : List ℕ) → IsName is_capital (b ∷ bs) → IsNoWord (b ∷ bs) → 3 ≡ sort_of (b ∷ bs)
upper_sort b bs i n = sym (rw (no_word (b ∷ bs) n, i.0) refl) ∙ of_class 0 b bs (capital_class b i.0)

lower_sort : (b : ℕ) (bs : List ℕ) → IsName is_small (b ∷ bs) → IsNoWord (b ∷ bs) → 4 ≡ sort_of (b ∷ bs)
lower_sort b bs i n = sym (rw (no_word (b ∷ bs) n, not_capital b i.0) refl) ∙ of_class 0 b bs (small_class b i.0)

hidden_sort : (b : ℕ) (bs : List ℕ) → IsHidden (b ∷ bs) → 4 ≡ sort_of (b ∷ bs)
hidden_sort b [] h = absurd h
hidden_sort b (c ∷ bs) h = rw h.0 refl

class_sort : (b : ℕ) (bs : List ℕ) → IsClass (b ∷ bs) → 5 ≡ sort_of (b ∷ bs)
class_sort b [] h = absurd h.1
class_sort b (c ∷ bs) h = rw (h.0, h.1.0) refl

line_sort : (b : ℕ) (bs : List ℕ) → IsLineComment (b ∷ bs) → 0 ≡ sort_of (b ∷ bs)
line_sort b [] h = absurd h
line_sort b (c ∷ bs) h = rw (h.0, h.1) refl

comment_sort : (b : ℕ) (bs : List ℕ) → IsComment (b ∷ bs) → 0 ≡ sort_of (b ∷ bs)
comment_sort b [] h = absurd h
comment_sort b (c ∷ bs) h = rw (h.0, h.1) refl

white_sort : (b : ℕ) (bs : List ℕ) → IsForm None (b ∷ bs) → 0 ≡ sort_of (b ∷ bs)
white_sort b [] (inl w) = of_class 2 b [] (white_class b w)
white_sort b (c ∷ bs) (inl w) = absurd w
white_sort b bs (inr (inl l)) = line_sort b bs l
white_sort b bs (inr (inr l)) = comment_sort b bs l

-- the sort of a form is that of its bytes
pub form_sort : (q : Option Tok) (b : ℕ) (bs : List ℕ) → IsForm q (b ∷ bs) → sort q ≡ sort_of (b ∷ bs)
form_sort None b bs f = white_sort b bs f
form_sort (Some (t.Word w)) b bs f = sym (ap sort_of f ∙ word_sort w)
form_sort (Some (t.Mark m)) b bs f = sym (ap sort_of f ∙ mark_sort m)
form_sort (Some (t.Upper name)) b bs f = upper_sort b bs f.1 f.2
form_sort (Some (t.Lower name)) b bs (e, inl i, n) = lower_sort b bs i n
form_sort (Some (t.Lower name)) b bs (e, inr h, n) = hidden_sort b bs h
form_sort (Some (t.Class name)) b bs f = class_sort b bs f.1
form_sort (Some (t.Number v base n)) b bs f = of_class 1 b bs (begins (Some (t.Number v base n)) b bs f)
form_sort (Some (t.Char c)) b bs f = of_class 4 b bs (begins (Some (t.Char c)) b bs f)
form_sort (Some (t.Text means)) b bs f = of_class 3 b bs (begins (Some (t.Text means)) b bs f)
