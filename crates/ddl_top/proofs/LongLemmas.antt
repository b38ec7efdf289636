-- A file that is longer than a module may be is none of the files of modules.
use Rattle.std.proofs.Common.{◌≡◌, ℕ, ◌+◌, ◌^◌, ◌<◌, ◌≤◌, List, [], ◌∷◌, ◌++◌, length, refl, sym, ◌∙◌, subst, Bool, true, false, arith}
use Rattle.std.specs.Prelude.{Some}
use Rattle.std.specs.Str.{bytes_eq}
use Rattle.std.proofs.lemmas.Option.{same_Some}
use Rattle.std.proofs.lemmas.Slice.Eq.{bytes_eq-Decides}
use Rattle.ddl_modules.specs.Files.{module_file}
use Rattle.ddl_modules.specs.Reading.{AreOthers, Read}
use Rattle.ddl_modules.specs.Reading.Read.{prelude, more}
use Rattle.ddl_outside.specs.Files.{FilesState, IsFile}
use Rattle.ddl_tree.specs.declared.module.SourceUnit.{SourceUnit}

-- one more name that is another
others_more : (names : List (List ℕ)) (file other : List ℕ) → AreOthers names other → bytes_eq file other ≡ false → AreOthers (names ++ file ∷ []) other
others_more [] file other h k = (k, tt)
others_more (name ∷ names) file other h k = (h.0, others_more names file other h.1 k)

longer : (n m : ℕ) → n ≤ 2 ^ 22 → 2 ^ 30 < m → n ≡ m → ⊥
longer n m short long same = omega (arith, short, long, same)

is_another : (files : FilesState) (file input text : List ℕ) (n m : ℕ) → IsFile files file text → length text ≡ n → n ≤ 2 ^ 22
    → files.told input ≡ Some m → 2 ^ 30 < m → bytes_eq file input ≡ false
is_another files file input text n m h same short told long = by_test (bytes_eq file input) refl where
  by_test : (b : Bool) → bytes_eq file input ≡ b → b ≡ false
  by_test false e = refl
  by_test true e =
      let one : file ≡ input = (bytes_eq-Decides file input).0 e in
      let also : files.told input ≡ Some (length text) = subst (λ (name : List ℕ). files.told name ≡ Some (length text)) one h.0 in
      absurd (longer n m short long (sym same ∙ same_Some (length text) m (sym also ∙ told)))

pub long_is_none : (files : FilesState) (root : List ℕ) (us : List SourceUnit) (names : List (List ℕ)) (before : ℕ) (input : List ℕ) (n : ℕ)
    → Read files root us names before → files.told input ≡ Some n → 2 ^ 30 < n → AreOthers names input
long_is_none files root us names before input n (prelude p) told long = tt
long_is_none files root us names before input n (more {us = us'} {names = names'} {before = before'} u m r t) told long =
    others_more names' (module_file root u.name) input (long_is_none files root us' names' before' input n r told long)
    (is_another files (module_file root u.name) input t.tree.0 m n t.tree.1 t.tree.2 t.tree.3.0 told long)
