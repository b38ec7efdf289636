-- Worked examples of the definitions.
use Rattle.std.proofs.Common.{◌≡◌, ℕ, List, [], ◌∷◌, ◌++◌, None, refl}
use Rattle.std.specs.Prelude.{codes}
use Rattle.ddl_token.specs.declared.token.Tok.TheVariants as k
use Rattle.ddl_token.specs.declared.token.Base.TheVariants.{Decimal, Hexadecimal, Binary}
use Rattle.ddl_tree.specs.declared.name.Name.{Name}
use Rattle.ddl_tree.specs.ExprTree as ex
use Rattle.ddl_tree.specs.ModuleTree as mo
use Rattle.ddl_tree.specs.Spans.{nowhere}
use Rattle.ddl_show.specs.Show.{spelled, spaced, show_text}

abbrev name : List ℕ → Name
name x = record { text = x; span = nowhere }

abbrev some_byte : ex.Item
some_byte = ex.Plain (ex.Upper (name (codes "UInt8")))

abbrev two_bytes : ex.Expr
two_bytes = ex.Paren (ex.Block (ex.an_item some_byte (ex.an_item some_byte ex.no_items)) nowhere) None nowhere

-- a block in parentheses, with its braces, on one line
block_line : show_text (record {
  imports = record { name = name (codes "A"); span = nowhere } ∷ [];
  decls =
      mo.Grammar (name (codes "Main")) [] None two_bytes nowhere ∷ [];
})
    ≡ codes "import A" ++ 10 ∷ codes "def Main = ( block { UInt8 ; UInt8 } )" ++ 10 ∷ []
unfolding spelled spaced
block_line = refl

-- leading zeros are kept, and letters are small
three_digits : spelled (k.Number 7 Decimal 3) ≡ codes "007"
unfolding spelled
three_digits = refl

four_hexadecimal_digits : spelled (k.Number 171 Hexadecimal 4) ≡ codes "0x00ab"
unfolding spelled
four_hexadecimal_digits = refl

four_binary_digits : spelled (k.Number 5 Binary 4) ≡ codes "0b0101"
unfolding spelled
four_binary_digits = refl

-- a text of `"`, `'`, a newline, a backslash, 0x7F and 0xFF: "\"'\x0a\\\x7f\xff"
escaped_text : spelled (k.Text (34 ∷ 39 ∷ 10 ∷ 92 ∷ 127 ∷ 255 ∷ []))
    ≡ 34 ∷ 92 ∷ 34 ∷ 39 ∷ 92 ∷ 120 ∷ 48 ∷ 97 ∷ 92 ∷ 92 ∷ 92 ∷ 120 ∷ 55 ∷ 102 ∷ 92 ∷ 120 ∷ 102 ∷ 102 ∷ 34 ∷ []
unfolding spelled
escaped_text = refl

-- the character `'` is '\'', and the character `"` is '"'
escaped_quote : spelled (k.Char 39) ≡ 39 ∷ 92 ∷ 39 ∷ 39 ∷ []
unfolding spelled
escaped_quote = refl

other_quote : spelled (k.Char 34) ≡ 39 ∷ 34 ∷ 39 ∷ []
unfolding spelled
other_quote = refl
