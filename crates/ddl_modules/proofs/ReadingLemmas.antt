-- Facts of the reading of modules.
use Rattle.std.proofs.Common.{◌≡◌, ℕ, List, [], ◌∷◌, ◌++◌, length, ap, sym, ◌∙◌}
use Rattle.std.specs.Prelude.{Some, Ok, Err, Result, IfOk, IfErr, false}
use Rattle.std.specs.Str.{bytes_eq}
use Rattle.ddl_outside.specs.Files.{FilesState, Later, TouchesOnly, IsFile}
use Rattle.ddl_outside.proofs.FilesLemmas.{IsFile-later}
use Rattle.ddl_source.specs.Source.{HasTree}
use Rattle.ddl_tree.specs.declared.module.SourceUnit.{SourceUnit}
use Rattle.ddl_tree.specs.ViewModule.{module_view}
use Rattle.ddl_modules.specs.Files.{module_file}
use Rattle.ddl_modules.specs.Reading.{AreOthers, HasTreeIn, IsNoText, IsNoTree, IsTurn, IsWithin, Read, TouchesOnlyThese}
use Rattle.ddl_modules.specs.Reading.Read.{prelude, more}
use Rattle.ddl_modules.specs.declared.error.LoadError.{LoadError}
use Rattle.ddl_modules.specs.declared.error.LoadError.TheVariants as refused
use Rattle.ddl_modules.specs.declared.reading.Parsed.{Parsed}

-- a text that was read and gives no tree
pub IsNoTree-text : (old new : FilesState) (file name text : List ℕ) (before : ℕ) (e : LoadError) → IsFile new file text → IsNoText name text before e
    → IsNoTree old new file name before e
IsNoTree-text old new file name text before (refused.TooLarge large n) f h = (h.0, f.0 ∙ ap Some (sym h.1), h.2)
IsNoTree-text old new file name text before (refused.Source wrong_one error) f h = (h.0, text, f, h.1, h.2)
IsNoTree-text old new file name text before refused.NoMemory f h = tt
IsNoTree-text old new file name text before (refused.Missing missing) f h = absurd h
IsNoTree-text old new file name text before refused.ReadFault f h = absurd h
IsNoTree-text old new file name text before (refused.TooMany importer span) f h = absurd h
IsNoTree-text old new file name text before (refused.Cycle span names) f h = absurd h

pub IfErr-text : (old new : FilesState) (file name text : List ℕ) (before : ℕ) (r : Result Parsed LoadError) → IsFile new file text
    → IfErr r (IsNoText name text before) → IfErr r (IsNoTree old new file name before)
IfErr-text old new file name text before (Ok p) f h = h
IfErr-text old new file name text before (Err e) f h = IsNoTree-text old new file name text before e f h

pub IfOk-text : (new : FilesState) (file text : List ℕ) (number before : ℕ) (r : Result Parsed LoadError) → IsFile new file text
    → IfOk r (λ p. (p.length ≡ length text) × IsWithin before p.length × HasTree number text (module_view p.tree))
    → IfOk r (λ p. HasTreeIn new file number before p.length p.tree)
IfOk-text new file text number before (Ok p) f h = (text, f, sym h.0, h.1, h.2)
IfOk-text new file text number before (Err e) f h = h

pub ruleset tree_lemmas = (IfErr-text, IfOk-text)

-- what was read stays read
HasTreeIn-later : (a b : FilesState) (file : List ℕ) (number before n : ℕ) (u : SourceUnit) → Later a b → HasTreeIn a file number before n u.tree
    → HasTreeIn b file number before n u.tree
HasTreeIn-later a b file number before n u later h = (h.0, IsFile-later a b file h.0 later h.1, h.2, h.3, h.4)

IsTurn-later : (a b : FilesState) (root : List ℕ) (us : List SourceUnit) (before : ℕ) (u : SourceUnit) (n : ℕ) → Later a b → IsTurn a root us before u n
    → IsTurn b root us before u n
IsTurn-later a b root us before u n later h = record {
  next = h.next;
  tree = HasTreeIn-later a b (module_file root u.name) (length us) before n u later h.tree;
  imports = h.imports;
}

pub Read-later : (a b : FilesState) (root : List ℕ) (us : List SourceUnit) (names : List (List ℕ)) (n : ℕ) → Later a b → Read a root us names n
    → Read b root us names n
Read-later a b root us names n later (prelude p) = prelude p
Read-later a b root us names n later (more {us = us'} {names = names'} {before = before} u m r t) =
    more u m (Read-later a b root us' names' before later r) (IsTurn-later a b root us' before u m later t)

-- one more file
pub TouchesOnlyThese-more : (names : List (List ℕ)) (name : List ℕ) (a b c : FilesState) → TouchesOnlyThese names a b → TouchesOnly name b c
    → TouchesOnlyThese (names ++ name ∷ []) a c
TouchesOnlyThese-more names name a b c p q other all =
    let first = others_first names all in
    let last : bytes_eq name other ≡ false = others_last names all in
    let before = p other first in
    (q.told other last ∙ before.0, q.reach other last ∙ before.1) where
      others_first : (ns : List (List ℕ)) → AreOthers (ns ++ name ∷ []) other → AreOthers ns other
      others_first [] h = tt
      others_first (n ∷ ns) h = (h.0, others_first ns h.1)

      others_last : (ns : List (List ℕ)) → AreOthers (ns ++ name ∷ []) other → bytes_eq name other ≡ false
      others_last [] h = h.0
      others_last (n ∷ ns) h = others_last ns h.1
