-- The tokens of declarations and modules, by the productions of the grammar. Each function prints its form, and then the rest.
use Rattle.std.specs.Prelude.{List, [], ◌∷◌}
use Rattle.ddl_token.specs.declared.token.Tok.{Tok}
use Rattle.ddl_token.specs.declared.token.Tok.TheVariants as k
use Rattle.ddl_token.specs.declared.word.Word.TheVariants as w
use Rattle.ddl_token.specs.declared.mark.Mark.TheVariants as m
use Rattle.ddl_tree.specs.declared.module.Import.{Import}
use Rattle.ddl_tree.specs.ModuleTree as mo
use Rattle.ddl_tree.specs.Print.{upper, lower, number, print_type, print_typed, print_class, print}

abbrev pub print_param : mo.Param → List Tok → List Tok
print_param (mo.Upper x) r = upper x ∷ r
print_param (mo.Lower x) r = lower x ∷ r
print_param (mo.Class x) r = k.Class x.text ∷ r
print_param (mo.TypedUpper x t s) r = k.Mark m.OpenParen ∷ upper x ∷ k.Mark m.Colon ∷ print_type t (k.Mark m.CloseParen ∷ r)
print_param (mo.TypedLower x t s) r = k.Mark m.OpenParen ∷ lower x ∷ k.Mark m.Colon ∷ print_type t (k.Mark m.CloseParen ∷ r)

abbrev pub print_params : List mo.Param → List Tok → List Tok
print_params [] r = r
print_params (p ∷ ps) r = print_param p (print_params ps r)

abbrev pub print_part : mo.Part → List Tok → List Tok
print_part (mo.Fixed n) r = number n ∷ r
print_part (mo.Named x t s) r = lower x ∷ k.Mark m.Colon ∷ print_type t r
print_part (mo.Unnamed t s) r = k.Mark m.Underscore ∷ k.Mark m.Colon ∷ print_type t r

abbrev pub print_more_parts : List mo.Part → List Tok → List Tok
print_more_parts [] r = r
print_more_parts (p ∷ ps) r = k.Mark m.Comma ∷ print_part p (print_more_parts ps r)

abbrev pub print_parts : List mo.Part → List Tok → List Tok
print_parts [] r = r
print_parts (p ∷ ps) r = print_part p (print_more_parts ps r)

abbrev pub print_bits : mo.Bits → List Tok → List Tok
print_bits (mo.Exactly n) r = number n ∷ r
print_bits (mo.Parts ps s) r = k.Mark m.OpenBrace ∷ print_parts ps (k.Mark m.CloseBrace ∷ r)

abbrev pub print_con : mo.Con → List Tok → List Tok
print_con c r = lower c.name ∷ k.Mark m.Equals ∷ print_bits c.bits r

abbrev pub print_more_cons : List mo.Con → List Tok → List Tok
print_more_cons [] r = r
print_more_cons (c ∷ cs) r = k.Mark m.Semicolon ∷ print_con c (print_more_cons cs r)

abbrev pub print_cons : List mo.Con → List Tok → List Tok
print_cons [] r = r
print_cons (c ∷ cs) r = print_con c (print_more_cons cs r)

abbrev pub print_decl : mo.Decl → List Tok → List Tok
print_decl (mo.Grammar x ps t e s) r = k.Word w.Def ∷ upper x ∷ print_params ps (print_typed t (k.Mark m.Equals ∷ print e r))
print_decl (mo.Value x ps t e s) r = k.Word w.Def ∷ lower x ∷ print_params ps (print_typed t (k.Mark m.Equals ∷ print e r))
print_decl (mo.ClassDef x c s) r = k.Word w.Def ∷ k.Class x.text ∷ k.Mark m.Equals ∷ print_class c r
print_decl (mo.BitsDef x b s) r = k.Word w.Bitdata ∷ upper x ∷ k.Mark m.Equals ∷ print_bits b r
print_decl (mo.BitsUnion x cs s) r = k.Word w.Bitdata ∷ upper x ∷ k.Word w.Where ∷ k.Mark m.OpenBrace ∷ print_cons cs (k.Mark m.CloseBrace ∷ r)

abbrev pub print_decls : List mo.Decl → List Tok → List Tok
print_decls [] r = r
print_decls (d ∷ ds) r = print_decl d (print_decls ds r)

abbrev pub print_imports : List Import → List Tok → List Tok
print_imports [] r = r
print_imports (i ∷ is) r = k.Word w.Import ∷ upper i.name ∷ print_imports is r

-- the token list of a module
abbrev pub print_module : mo.Module → List Tok
print_module x = print_imports x.imports (print_decls x.decls [])
