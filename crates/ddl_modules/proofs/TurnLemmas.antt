-- Facts of one turn of the reading.
use Rattle.std.proofs.Common.{◌≡◌, ℕ, ◌<◌, List, [], ◌∷◌, length, get_or, refl, ap, sym, subst, ◌∙◌, ◌⊎◌, vec_len, ◌+◌}
use Rattle.std.specs.Prelude.{Some, Ok, Err, Result, IfErr, slice_get}
use Rattle.std.proofs.lemmas.Option.{slice_get_read}
use Rattle.ddl_outside.specs.Files.{FilesState, TouchesOnly}
use Rattle.ddl_tree.specs.declared.module.Module.{Module}
use Rattle.ddl_tree.specs.declared.module.SourceUnit.{SourceUnit}
use Rattle.ddl_modules.specs.Files.{module_file, module_name}
use Rattle.ddl_modules.specs.Loading.{Adds, IsNoFile, IsNoTurn, IsQueued, TakesFile, TakesTurn}
use Rattle.ddl_modules.specs.Queue.{beyond, imported, prelude_name, queue, with_names, IsNext}
use Rattle.ddl_modules.specs.Reading.{HasImports, HasTreeIn, IsFull, IsNoTree, IsTooMany}
use Rattle.ddl_modules.specs.declared.error.LoadError.{LoadError}
use Rattle.ddl_modules.specs.declared.reading.Loading.{Loading}
use Rattle.ddl_modules.proofs.QueueLemmas.{known-more}

pub tree_at : (files : FilesState) (file : List ℕ) (number wanted before n : ℕ) (tree : Module) → number ≡ wanted → HasTreeIn files file number before n tree
    → HasTreeIn files file wanted before n tree
tree_at files file number wanted before n tree same h = let P : ℕ → Type 0 = λ k. HasTreeIn files file k before n tree in subst P same h

-- a module with a tree was put behind the others
pub takes_file : (files : FilesState) (file name : List ℕ) (number : ℕ) (old new : Loading) (tree : Module) (n : ℕ) (u : SourceUnit)
    → number ≡ length old.units.items → Adds old name tree u new
    → HasTreeIn files file number old.length n tree → new.length ≡ old.length
    → TakesFile files file name old (record { names = new.names; units = new.units; length = new.length + n })
takes_file files file name number old new tree n u same a h l =
    let Q : Module → Type 0 = λ t. HasTreeIn files file (length old.units.items) old.length n t in (
      u,
      n,
      record {
        name_of = a.name_of;
        tree_of = refl;
        imports = a.imports;
        units = a.units;
        names = a.names ∙ ap (λ (t : Module). with_names old.names.items (imported t.imports.items)) (sym a.tree_of);
        few = a.few;
      },
      subst Q (sym a.tree_of) (tree_at files file number (length old.units.items) old.length n tree same h),
      ap (λ (m : ℕ). m + n) l,
    )

-- the queue has no room for a name that the module imports
pub no_file : (new : FilesState) (file name : List ℕ) (number : ℕ) (l : Loading) (tree : Module) (n : ℕ) (e : LoadError) → number ≡ length l.units.items
    → HasTreeIn new file number l.length n tree → IsFull name (beyond l.names.items tree.imports.items) e
    → IsTooMany new file (length l.units.items) l.names.items name l.length e
no_file new file name number l tree n e same h full = (n, tree, tree_at new file number (length l.units.items) l.length n tree same h, full)

-- the turn is at the first name of the queue that has no unit
pub is_next : (root : List ℕ) (l : Loading) (i : ℕ) (x name : List ℕ) → IsQueued root l → i ≡ length l.units.items → x ≡ get_or l.names.items i x
    → i < vec_len l.names → name ≡ x → IsNext root l.units.items name
is_next root l i x name queued same e within named =
    let there : slice_get l.names.items i ≡ Some x = slice_get_read l.names.items (vec_len l.names) i x l.names.ok.0 within e in
    ap (λ (q : List (List ℕ)). slice_get q (length l.units.items)) (sym queued.0)
    ∙ (ap (λ (k : ℕ). slice_get l.names.items k) (sym same) ∙ (there ∙ ap Some (sym named)))

pub turn_from : (old new : FilesState) (root file name : List ℕ) (l l' : Loading) → file ≡ module_file root name → IsNext root l.units.items name
    → IsQueued root l → TouchesOnly file old new
    → TakesFile new file name l l' → TakesTurn old new root l l'
turn_from old new root file name l l' e next queued only h =
    let u : SourceUnit = h.0 in
    let n : ℕ = h.1 in
    let file_u : file ≡ module_file root u.name = e ∙ ap (module_file root) (sym h.2.name_of) in
    let N : List ℕ → Type 0 = λ x. IsNext root l.units.items x in
    let T : List ℕ → Type 0 = λ f. HasTreeIn new f (length l.units.items) l.length n u.tree in
    let I : List (List ℕ) → Type 0 = λ q. HasImports q u in
    let O : List ℕ → Type 0 = λ f. TouchesOnly f old new in (
      u,
      n,
      record { next = subst N (sym h.2.name_of) next; tree = subst T file_u h.3; imports = subst I queued.0 h.2.imports },
      subst O file_u only,
      h.2.units,
      h.4,
      (
        h.2.names ∙ (ap (λ (q : List (List ℕ)). with_names q (imported u.tree.imports.items)) queued.0
            ∙ (sym (known-more (prelude_name ∷ module_name root ∷ []) l.units.items u) ∙ ap (queue root) (sym h.2.units))),
        h.2.few,
      ),
    )

pub no_turn_from : (old new : FilesState) (root file name : List ℕ) (l : Loading) (e : LoadError) → file ≡ module_file root name
    → IsNext root l.units.items name → IsQueued root l → TouchesOnly file old new
    → IsNoFile old new file name l e → IsNoTurn old new root l e
no_turn_from old new root file name l e same next queued only h =
    let F : List ℕ → Type 0 = λ f. IsNoTree old new f name l.length e ⊎ IsTooMany new f (length l.units.items) l.names.items name l.length e in
    let Q : List (List ℕ) → Type 0 = λ q. IsNoTree old new (module_file root name) name l.length e
    ⊎ IsTooMany new (module_file root name) (length l.units.items) q name l.length e in
    let O : List ℕ → Type 0 = λ f. TouchesOnly f old new in
    (name, next, subst O same only, subst Q queued.0 (subst F same h))

pub IfErr-turn : {X : Type 0} (old new : FilesState) (root file name : List ℕ) (l : Loading) (r : Result X LoadError) → file ≡ module_file root name
    → IsNext root l.units.items name → IsQueued root l → TouchesOnly file old new
    → IfErr r (IsNoFile old new file name l) → IfErr r (IsNoTurn old new root l)
IfErr-turn old new root file name l (Ok x) same next queued only h = h
IfErr-turn old new root file name l (Err e) same next queued only h = no_turn_from old new root file name l e same next queued only h
