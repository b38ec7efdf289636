-- Bytes as text.
use Rattle.std.proofs.Common.{◌≡◌, ℕ, List, refl, Bool, true, false}
use Rattle.std.specs.Prelude.{if◌then◌else◌, encode_utf8_all}
use Rattle.std.specs.Str.{is_utf8, IsUtf8}
use Rattle.std.proofs.lemmas.Str.{IsUtf8-from_is_utf8, is_utf8-from_IsUtf8}
use Rattle.ddl_modules.specs.Files.{shown}

pub shown-text : (text : List ℕ) → IsUtf8 text → shown text ≡ text
shown-text text h = rw (is_utf8-from_IsUtf8 text h)

pub shown-bytes : (text : List ℕ) → ¬ IsUtf8 text → shown text ≡ encode_utf8_all text
shown-bytes text h = by_test (is_utf8 text) refl where
  by_test : (b : Bool) → is_utf8 text ≡ b → (if b then text else encode_utf8_all text) ≡ encode_utf8_all text
  by_test true e = absurd (h (IsUtf8-from_is_utf8 text e))
  by_test false e = refl
