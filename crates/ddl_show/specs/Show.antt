-- The text that a module is shown as.
use Rattle.std.specs.Prelude.{ℕ, List, [], ◌∷◌, ◌++◌}
use Rattle.ddl_token.specs.declared.token.Tok.{Tok}
use Rattle.ddl_token.specs.declared.token.Tok.TheVariants as k
use Rattle.ddl_token.specs.Spelling.{word_spelling, mark_spelling}
use Rattle.ddl_tree.specs.declared.module.Import.{Import}
use Rattle.ddl_tree.specs.ModuleTree as mo
use Rattle.ddl_tree.specs.PrintModule.{print_imports, print_decl}
use Rattle.ddl_lex.specs.Forms.{base_spelling}
use Rattle.ddl_lex.specs.Numbers.{radix}
use Rattle.ddl_show.specs.Numerals.{digits}
use Rattle.ddl_show.specs.Quoted.{quoted}

-- how a token is spelled: a number in its base with its digits, a character and a text between quotes
unfoldable pub spelled : Tok → List ℕ
spelled (k.Word w) = word_spelling w
spelled (k.Mark m) = mark_spelling m
spelled (k.Upper x) = x
spelled (k.Lower x) = x
spelled (k.Class x) = x
spelled (k.Number value base n) = base_spelling base ++ digits (radix base) n value
spelled (k.Char b) = quoted 39 (b ∷ [])
spelled (k.Text bs) = quoted 34 bs

-- tokens, each behind a space, and the end of the line
unfoldable pub spaced : List Tok → List ℕ
spaced [] = 10 ∷ []
spaced (t ∷ ts) = 32 ∷ spelled t ++ spaced ts

-- a line of tokens, parted by one space
abbrev pub line : List Tok → List ℕ
line [] = 10 ∷ []
line (t ∷ ts) = spelled t ++ spaced ts

-- a line for each import
abbrev pub import_lines : List Import → List ℕ
import_lines [] = []
import_lines (i ∷ is) = line (print_imports (i ∷ []) []) ++ import_lines is

-- a line for each declaration
abbrev pub decl_lines : List mo.Decl → List ℕ
decl_lines [] = []
decl_lines (d ∷ ds) = line (print_decl d []) ++ decl_lines ds

-- the text of a module
abbrev pub show_text : mo.Module → List ℕ
show_text x = import_lines x.imports ++ decl_lines x.decls
