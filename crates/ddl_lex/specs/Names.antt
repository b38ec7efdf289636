-- Names, classes and the words among them.
use Rattle.std.specs.Prelude.{ℕ, ◌+◌, Bool, false, ◌&&◌, ◌||◌, ◌==◌, if◌then◌else◌, nat_lt, List, [], ◌∷◌, length, take, slice_index, Option, Some, None}
use Rattle.std.specs.Str.{bytes_eq}
use Rattle.ddl_token.specs.declared.word.Word.{Word}
use Rattle.ddl_token.specs.declared.word.Word.TheVariants as w
use Rattle.ddl_token.specs.declared.token.Tok.{Tok}
use Rattle.ddl_token.specs.declared.token.Tok.TheVariants as t
use Rattle.ddl_token.specs.Spelling.{word_spelling}
use Rattle.ddl_lex.specs.Letters.{is_capital, is_small, is_name}

-- every word
abbrev pub words : List Word
words =
    w.Def ∷ w.Import ∷ w.Bitdata ∷ w.Where ∷ w.Block ∷ w.Let ∷ w.Case ∷ w.Of ∷ w.If ∷ w.Then ∷ w.Else ∷ w.For ∷ w.Map ∷ w.In ∷ w.Is ∷ w.As ∷
    w.AsCut ∷ w.AsFit ∷ w.True ∷ w.False ∷ w.Just ∷ w.Nothing ∷ w.First ∷ w.Choose ∷ w.Many ∷ w.ManyAll ∷ w.Optional ∷ w.OptionalAll ∷ []

-- the first of these words that has this spelling
abbrev pub word_among : List Word → List ℕ → Option Word
word_among [] bytes = None
word_among (w ∷ ws) bytes = if bytes_eq (word_spelling w) bytes then Some w else word_among ws bytes

-- the word that has this spelling
abbrev pub word_of : List ℕ → Option Word
word_of bytes = word_among words bytes

-- a name that is no word: by its first letter
abbrev pub no_word : List ℕ → Tok
no_word name = if is_capital (slice_index name 0) then t.Upper name else t.Lower name

-- a word, or else the name
abbrev pub word_or_name : Option Word → List ℕ → Tok
word_or_name (Some w) name = t.Word w
word_or_name None name = no_word name

-- a word that ends in `!` or `?`, or else what the n bytes before that are
abbrev pub longer_word : Option Word → ℕ → List ℕ → Option Tok × ℕ
longer_word (Some w) n name = (Some (t.Word w), n + 1)
longer_word None n name = (Some (word_or_name (word_of name) name), n)

-- the word of n bytes and the sign behind them
abbrev pub signed_word : ℕ → List ℕ → Option Word
signed_word n text = if nat_lt n (length text) then word_of (take (n + 1) text) else None

-- what stands at a letter or `_`, with the name of n bytes there
abbrev pub named : ℕ → List ℕ → Option Tok × ℕ
named n text = longer_word (signed_word n text) n (take n text)

-- a name begins: a letter, or `_` and one byte more of a name
abbrev pub begins_name : List ℕ → Bool
begins_name [] = false
begins_name (b ∷ bs) = is_capital b || is_small b || (b == 95 && is_name (slice_index bs 0))

-- a class begins: `$` and a small letter
abbrev pub begins_class : List ℕ → Bool
begins_class (a ∷ b ∷ _) = a == 36 && is_small b
begins_class _ = false

-- the class of n bytes that a text begins with
abbrev pub class : ℕ → List ℕ → Option Tok × ℕ
class n text = (Some (t.Class (take n text)), n)
