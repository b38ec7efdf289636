-- Texts and characters, as bytes.
use Rattle.std.specs.Prelude.{◌≡◌, ◌≢◌, ℕ, ◌+◌, ◌*◌, true, false, List, [], ◌∷◌, ◌++◌}
use Rattle.ddl_lex.specs.Letters.{is_control, is_hexadecimal, digit_value}

-- `\n \t \r \\ \" \'`, or `\x` and two hexadecimal digits, and the byte that it means
pub data IsEscape : ℕ → List ℕ → Type 0 where
  newline : IsEscape 10 (92 ∷ 110 ∷ [])
  tab : IsEscape 9 (92 ∷ 116 ∷ [])
  return : IsEscape 13 (92 ∷ 114 ∷ [])
  backslash : IsEscape 92 (92 ∷ 92 ∷ [])
  double_quote : IsEscape 34 (92 ∷ 34 ∷ [])
  single_quote : IsEscape 39 (92 ∷ 39 ∷ [])
  hexadecimal : (high low : ℕ) → is_hexadecimal high ≡ true → is_hexadecimal low ≡ true →
      IsEscape (16 * digit_value high + digit_value low) (92 ∷ 120 ∷ high ∷ low ∷ [])

-- what means one byte inside of these quotes: an escape, or a byte for itself that is no quote, backslash or control byte
pub data IsElement (quote : ℕ) : ℕ → List ℕ → Type 0 where
  escape : {value : ℕ} {bytes : List ℕ} → IsEscape value bytes → IsElement quote value bytes
  plain : (b : ℕ) → b ≢ quote → b ≢ 92 → is_control b ≡ false → IsElement quote b (b ∷ [])

-- elements, one after the other, and the bytes that they mean
pub data AreElements (quote : ℕ) : List ℕ → List ℕ → Type 0 where
  none : AreElements quote [] []
  one_more : {bytes means others : List ℕ} (value : ℕ) → IsElement quote value bytes → AreElements quote means others →
      AreElements quote (value ∷ means) (bytes ++ others)

-- elements between two quotes, and the bytes that they mean
abbrev pub IsLiteral : ℕ → List ℕ → List ℕ → Type 0
IsLiteral quote means bytes = (inside : List ℕ) × (bytes ≡ quote ∷ inside ++ quote ∷ []) × AreElements quote means inside
