-- The spellings of words and marks: which is found for given bytes.
use Rattle.std.proofs.Common.{◌≡◌, ◌≢◌, ◌⊎◌, ℕ, suc, Bool, true, false, nat_le, List, [], ◌∷◌, length, Some, None, inl, inr, refl, ap, sym, ◌∙◌, if◌then◌else◌}
use Rattle.std.specs.Str.{bytes_eq}
use Rattle.std.proofs.lemmas.Slice.Eq.{bytes_eq-Decides}
use Rattle.ddl_token.specs.declared.word.Word.{Word}
use Rattle.ddl_token.specs.declared.word.Word.TheVariants as w
use Rattle.ddl_token.specs.Spelling.{word_spelling}
use Rattle.ddl_lex.specs.Letters.{run, is_name}
use Rattle.ddl_lex.specs.Names.{word_among, word_of, words}

-- the word is among these
abbrev Among : Word → List Word → Type 0
Among word [] = ⊥
Among word (w ∷ ws) = (w ≡ word) ⊎ Among word ws

test_spelling : (w : Word) (ws : List Word) (bytes : List ℕ) (word : Word) (v : Bool) → (v ≡ true → word_spelling w ≡ bytes) →
    (if v then Some w else word_among ws bytes) ≡ Some word → (word_among ws bytes ≡ Some word → word_spelling word ≡ bytes) → word_spelling word ≡ bytes
test_spelling w ws bytes word true d e rest = let same : w ≡ word = cc in ap word_spelling (sym same) ∙ d refl
test_spelling w ws bytes word false d e rest = rest e

found_among : (ws : List Word) (bytes : List ℕ) (word : Word) → word_among ws bytes ≡ Some word → word_spelling word ≡ bytes
found_among [] bytes word e = cc
found_among (w ∷ ws) bytes word e = test_spelling w ws bytes word (bytes_eq (word_spelling w) bytes) (bytes_eq-Decides (word_spelling w) bytes).0 e
    (found_among ws bytes word)

test_none : (w : Word) (ws : List Word) (bytes : List ℕ) (word : Word) (v : Bool) → (word_spelling w ≡ bytes → v ≡ true) →
    (if v then Some w else word_among ws bytes) ≡ None → (w ≡ word) ⊎ Among word ws → (word_among ws bytes ≡ None → Among word ws → word_spelling word ≢ bytes)
    → word_spelling word ≢ bytes
test_none w ws bytes word true d e a rest = λ s. (cc)
test_none w ws bytes word false d e (inl same) rest = λ s. (let f : false ≡ true = d (ap word_spelling same ∙ s) in cc)
test_none w ws bytes word false d e (inr a) rest = rest e a

not_among : (ws : List Word) (bytes : List ℕ) (word : Word) → word_among ws bytes ≡ None → Among word ws → word_spelling word ≢ bytes
not_among [] bytes word e a = absurd a
not_among (w ∷ ws) bytes word e a = test_none w ws bytes word (bytes_eq (word_spelling w) bytes) (bytes_eq-Decides (word_spelling w) bytes).1 e a
    (not_among ws bytes word)

every_word : (word : Word) → Among word words
every_word w.Def = inl refl
every_word w.Import = inr (inl refl)
every_word w.Bitdata = inr (inr (inl refl))
every_word w.Where = inr (inr (inr (inl refl)))
every_word w.Block = inr (inr (inr (inr (inl refl))))
every_word w.Let = inr (inr (inr (inr (inr (inl refl)))))
every_word w.Case = inr (inr (inr (inr (inr (inr (inl refl))))))
every_word w.Of = inr (inr (inr (inr (inr (inr (inr (inl refl)))))))
every_word w.If = inr (inr (inr (inr (inr (inr (inr (inr (inl refl))))))))
every_word w.Then = inr (inr (inr (inr (inr (inr (inr (inr (inr (inl refl)))))))))
every_word w.Else = inr (inr (inr (inr (inr (inr (inr (inr (inr (inr (inl refl))))))))))
every_word w.For = inr (inr (inr (inr (inr (inr (inr (inr (inr (inr (inr (inl refl)))))))))))
every_word w.Map = inr (inr (inr (inr (inr (inr (inr (inr (inr (inr (inr (inr (inl refl))))))))))))
every_word w.In = inr (inr (inr (inr (inr (inr (inr (inr (inr (inr (inr (inr (inr (inl refl)))))))))))))
every_word w.Is = inr (inr (inr (inr (inr (inr (inr (inr (inr (inr (inr (inr (inr (inr (inl refl))))))))))))))
every_word w.As = inr (inr (inr (inr (inr (inr (inr (inr (inr (inr (inr (inr (inr (inr (inr (inl refl)))))))))))))))
every_word w.AsCut = inr (inr (inr (inr (inr (inr (inr (inr (inr (inr (inr (inr (inr (inr (inr (inr (inl refl))))))))))))))))
every_word w.AsFit = inr (inr (inr (inr (inr (inr (inr (inr (inr (inr (inr (inr (inr (inr (inr (inr (inr (inl refl)))))))))))))))))
every_word w.True = inr (inr (inr (inr (inr (inr (inr (inr (inr (inr (inr (inr (inr (inr (inr (inr (inr (inr (inl refl))))))))))))))))))
every_word w.False = inr (inr (inr (inr (inr (inr (inr (inr (inr (inr (inr (inr (inr (inr (inr (inr (inr (inr (inr (inl refl)))))))))))))))))))
every_word w.Just = inr (inr (inr (inr (inr (inr (inr (inr (inr (inr (inr (inr (inr (inr (inr (inr (inr (inr (inr (inr (inl refl))))))))))))))))))))
every_word w.Nothing = inr (inr (inr (inr (inr (inr (inr (inr (inr (inr (inr (inr (inr (inr (inr (inr (inr (inr (inr (inr (inr (inl refl)))))))))))))))))))))
every_word w.First =
    inr (inr (inr (inr (inr (inr (inr (inr (inr (inr (inr (inr (inr (inr (inr (inr (inr (inr (inr (inr (inr (inr (inl refl))))))))))))))))))))))
every_word w.Choose =
    inr (inr (inr (inr (inr (inr (inr (inr (inr (inr (inr (inr (inr (inr (inr (inr (inr (inr (inr (inr (inr (inr (inr (inl refl)))))))))))))))))))))))
every_word w.Many =
    inr (inr (inr (inr (inr (inr (inr (inr (inr (inr (inr (inr (inr (inr (inr (inr (inr (inr (inr (inr (inr (inr (inr (inr (inl refl))))))))))))))))))))))))
every_word w.ManyAll =
    inr
    (inr (inr (inr (inr (inr (inr (inr (inr (inr (inr (inr (inr (inr (inr (inr (inr (inr (inr (inr (inr (inr (inr (inr (inr (inl refl)))))))))))))))))))))))))
every_word w.Optional =
    inr
    (inr
    (inr (inr (inr (inr (inr (inr (inr (inr (inr (inr (inr (inr (inr (inr (inr (inr (inr (inr (inr (inr (inr (inr (inr (inr (inl refl))))))))))))))))))))))))))
every_word w.OptionalAll =
    inr
    (inr
    (inr
    (inr (inr (inr (inr (inr (inr (inr (inr (inr (inr (inr (inr (inr (inr (inr (inr (inr (inr (inr (inr (inr (inr (inr (inr (inl refl)))))))))))))))))))))))))))

-- what is found has these bytes
pub word_found : (bytes : List ℕ) (word : Word) → word_of bytes ≡ Some word → word_spelling word ≡ bytes
word_found bytes word e = found_among words bytes word e

-- where none is found no word has these bytes
pub no_word_found : (bytes : List ℕ) → word_of bytes ≡ None → (word : Word) → word_spelling word ≢ bytes
no_word_found bytes e word = not_among words bytes word e (every_word word)

-- all bytes of a word but the last are those of names
pub word_front : (word : Word) → nat_le (length (word_spelling word)) (suc (run is_name (word_spelling word))) ≡ true
word_front w.Def = refl
word_front w.Import = refl
word_front w.Bitdata = refl
word_front w.Where = refl
word_front w.Block = refl
word_front w.Let = refl
word_front w.Case = refl
word_front w.Of = refl
word_front w.If = refl
word_front w.Then = refl
word_front w.Else = refl
word_front w.For = refl
word_front w.Map = refl
word_front w.In = refl
word_front w.Is = refl
word_front w.As = refl
word_front w.AsCut = refl
word_front w.AsFit = refl
word_front w.True = refl
word_front w.False = refl
word_front w.Just = refl
word_front w.Nothing = refl
word_front w.First = refl
word_front w.Choose = refl
word_front w.Many = refl
word_front w.ManyAll = refl
word_front w.Optional = refl
word_front w.OptionalAll = refl
