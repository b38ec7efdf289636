-- The text of a module is the spellings of its tokens, with a space or a newline behind each.
use Rattle.std.proofs.Common.{◌≡◌, ◌⊎◌, ℕ, true, List, [], ◌∷◌, ◌++◌, inl, inr, refl, sym, subst, append_assoc}
use Rattle.ddl_token.specs.declared.token.Tok.{Tok}
use Rattle.ddl_token.specs.declared.token.Tok.TheVariants as k
use Rattle.ddl_token.specs.declared.word.Word.TheVariants as w
use Rattle.ddl_token.specs.declared.mark.Mark.TheVariants as m
use Rattle.ddl_tree.specs.declared.module.Import.{Import}
use Rattle.ddl_tree.specs.ModuleTree as mo
use Rattle.ddl_tree.specs.Print.{upper, lower, print, print_class, print_typed}
use Rattle.ddl_tree.specs.PrintModule.{print_params, print_bits, print_cons, print_decl, print_decls, print_imports, print_module}
use Rattle.ddl_show.specs.Show.{spelled, spaced, line, import_lines, decl_lines, show_text}
use Rattle.ddl_show.proofs.Prints.{braced}
use Rattle.ddl_show.proofs.PrintsDecls.{decl_prints}

-- a space or a newline
abbrev pub IsBlank : ℕ → Type 0
IsBlank c = (c ≡ 32) ⊎ (c ≡ 10)

pub data Inked : List Tok → List ℕ → Type 0 where
  none : Inked [] []
  one : {ts : List Tok} {text : List ℕ} (t : Tok) (c : ℕ) → IsBlank c → Inked ts text → Inked (t ∷ ts) (spelled t ++ c ∷ text)

inked_line : (t : Tok) (ts : List Tok) (others : List Tok) (text : List ℕ) → Inked others text → Inked (t ∷ ts ++ others) (line (t ∷ ts) ++ text)
unfolding spaced
inked_line t [] others text i = subst (Inked (t ∷ others)) (sym (append_assoc (spelled t) (10 ∷ []) text)) (one t 10 (inr refl) i)
inked_line t (u ∷ us) others text i =
    subst (Inked (t ∷ u ∷ us ++ others)) (sym (append_assoc (spelled t) (32 ∷ line (u ∷ us)) text)) (one t 32 (inl refl) (inked_line u us others text i))

inked_decl : (d : mo.Decl) (others : List Tok) (text : List ℕ) → Inked others text → Inked (print_decl d [] ++ others) (line (print_decl d []) ++ text)
inked_decl (mo.Grammar x ps t e s) others text i = inked_line (k.Word w.Def) (upper x ∷ print_params ps (print_typed t (k.Mark m.Equals ∷ print e []))) others
    text i
inked_decl (mo.Value x ps t e s) others text i = inked_line (k.Word w.Def) (lower x ∷ print_params ps (print_typed t (k.Mark m.Equals ∷ print e []))) others
    text i
inked_decl (mo.ClassDef x c s) others text i = inked_line (k.Word w.Def) (k.Class x.text ∷ k.Mark m.Equals ∷ print_class c []) others text i
inked_decl (mo.BitsDef x b s) others text i = inked_line (k.Word w.Bitdata) (upper x ∷ k.Mark m.Equals ∷ print_bits b []) others text i
inked_decl (mo.BitsUnion x cs s) others text i = inked_line (k.Word w.Bitdata)
    (upper x ∷ k.Word w.Where ∷ k.Mark m.OpenBrace ∷ print_cons cs (k.Mark m.CloseBrace ∷ [])) others text i

inked_decls : (ds : List mo.Decl) → Inked (print_decls ds []) (decl_lines ds)
inked_decls [] = none
inked_decls (d ∷ ds) =
    let here = decl_prints d in
    subst (λ z. Inked z (line (print_decl d []) ++ decl_lines ds)) (sym (here.before [] (print_decls ds [])))
    (inked_decl d (print_decls ds []) (decl_lines ds) (inked_decls ds))

inked_imports : (is : List Import) (others : List Tok) (text : List ℕ) → Inked others text → Inked (print_imports is others) (import_lines is ++ text)
inked_imports [] others text i = i
inked_imports (j ∷ is) others text i =
    subst (Inked (k.Word w.Import ∷ upper j.name ∷ print_imports is others))
    (sym (append_assoc (line (k.Word w.Import ∷ upper j.name ∷ [])) (import_lines is) text))
    (inked_line (k.Word w.Import) (upper j.name ∷ []) (print_imports is others) (import_lines is ++ text) (inked_imports is others text i))

pub inked_module : (x : mo.Module) → Inked (print_module x) (show_text x)
inked_module x = inked_imports x.imports (print_decls x.decls []) (decl_lines x.decls) (inked_decls x.decls)

-- ---- a brace stands behind each word that begins a list

decls_braced : (ds : List mo.Decl) → braced (print_decls ds []) ≡ true
decls_braced [] = refl
decls_braced (d ∷ ds) = let here = decl_prints d in here.keeps (print_decls ds []) (decls_braced ds)

imports_braced : (is : List Import) (r : List Tok) → braced r ≡ true → braced (print_imports is r) ≡ true
imports_braced [] r h = h
imports_braced (j ∷ is) r h = imports_braced is r h

pub module_braced : (x : mo.Module) → braced (print_module x) ≡ true
module_braced x = imports_braced x.imports (print_decls x.decls []) (decls_braced x.decls)
