-- One line more of a text.
use Rattle.std.proofs.Common.{◌≡◌, ℕ, ◌+◌, ◌<◌, ◌≤◌, List, [], ◌∷◌, ◌++◌, length, map, drop, get_or, ap, sym, ◌∙◌, append_assoc}
use Rattle.std.proofs.lemmas.List.{drop_all, append-nil}
use Rattle.ddl_tree.specs.declared.decl.Decl.{Decl}
use Rattle.ddl_tree.specs.declared.module.Import.{Import}
use Rattle.ddl_tree.specs.ViewModule.{decl_view}
use Rattle.ddl_tree.specs.PrintModule.{print_decl, print_imports}
use Rattle.ddl_show.specs.Show.{line, decl_lines, import_lines}
use Rattle.ddl_show.specs.Writes.{with_line}
use Rattle.ddl_show.proofs.Elements.{next}

pub next_decl_line : (before after : List ℕ) (xs : List Decl) (i : ℕ) (x : Decl) → x ≡ get_or xs i x → i < length xs
    → after ≡ with_line before (print_decl (decl_view x) []) →
    before ++ decl_lines (map decl_view (drop i xs)) ≡ after ++ decl_lines (map decl_view (drop (i + 1) xs))
unfolding with_line
next_decl_line before after xs i x e h a =
    let rest = decl_lines (map decl_view (drop (i + 1) xs)) in
    ap (λ ys. before ++ decl_lines (map decl_view ys)) (next xs i x e h) ∙ sym (append_assoc before (line (print_decl (decl_view x) [])) rest)
    ∙ ap (λ z. z ++ rest) (sym a)

pub no_decl_line : (before : List ℕ) (xs : List Decl) (i : ℕ) → length xs ≤ i → before ++ decl_lines (map decl_view (drop i xs)) ≡ before
no_decl_line before xs i h = ap (λ ys. before ++ decl_lines (map decl_view ys)) (drop_all i xs h) ∙ append-nil before

pub next_import_line : (before after : List ℕ) (xs : List Import) (i : ℕ) (x : Import) → x ≡ get_or xs i x → i < length xs
    → after ≡ with_line before (print_imports (x ∷ []) []) →
    before ++ import_lines (drop i xs) ≡ after ++ import_lines (drop (i + 1) xs)
unfolding with_line
next_import_line before after xs i x e h a =
    let rest = import_lines (drop (i + 1) xs) in
    ap (λ ys. before ++ import_lines ys) (next xs i x e h) ∙ sym (append_assoc before (line (print_imports (x ∷ []) [])) rest) ∙ ap (λ z. z ++ rest) (sym a)

pub no_import_line : (before : List ℕ) (xs : List Import) (i : ℕ) → length xs ≤ i → before ++ import_lines (drop i xs) ≡ before
no_import_line before xs i h = ap (λ ys. before ++ import_lines ys) (drop_all i xs h) ∙ append-nil before

pub ruleset lines = (next_decl_line, no_decl_line, next_import_line, no_import_line)
