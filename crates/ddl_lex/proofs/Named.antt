-- A name with no sign behind it that makes it a word.
use Rattle.std.proofs.Common.{◌≡◌, ℕ, List, take, Some, None, ap, ◌∙◌}
use Rattle.ddl_token.specs.declared.token.Tok.{Tok}
use Rattle.ddl_lex.specs.Letters.{run, is_name}
use Rattle.ddl_lex.specs.Names.{named, signed_word, word_or_name, word_of}

pub no_sign : (n : ℕ) (text name : List ℕ) (tok : Tok) → n ≡ run is_name text → None ≡ signed_word n text → name ≡ take n text
    → tok ≡ word_or_name (word_of name) name → (Some tok, n) ≡ named (run is_name text) text
no_sign n text name tok len e front t =
    rw (← len, ← e) (ap (λ z. (Some z, n)) (t ∙ ap (λ z. word_or_name (word_of z) z) front))
