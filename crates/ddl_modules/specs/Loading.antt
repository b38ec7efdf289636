-- What the reading of modules holds from turn to turn.
use Rattle.std.specs.Prelude.{◌≡◌, ◌⊎◌, ℕ, ◌+◌, ◌≤◌, List, [], ◌∷◌, ◌++◌, length, vec_len}
use Rattle.ddl_outside.specs.Files.{FilesState, TouchesOnly}
use Rattle.ddl_tree.specs.declared.module.Module.{Module}
use Rattle.ddl_tree.specs.declared.module.SourceUnit.{SourceUnit}
use Rattle.ddl_modules.specs.Files.{module_file}
use Rattle.ddl_modules.specs.Queue.{imported, queue, with_names, IsNext}
use Rattle.ddl_modules.specs.Reading.{HasImports, HasTreeIn, IsPrelude, IsTurn, IsNoTree, IsTooMany, IsLastTurn}
use Rattle.ddl_modules.specs.declared.error.LoadError.{LoadError}
use Rattle.ddl_modules.specs.declared.reading.Loading.{Loading}

-- a unit of this name and tree was put behind the others, and the names of its imports into the queue
pub record Adds (old : Loading) (name : List ℕ) (tree : Module) (u : SourceUnit) (new : Loading) : Type 0 where
  pub name_of : u.name ≡ name
  pub tree_of : u.tree ≡ tree
  pub imports : HasImports old.names.items u
  pub units : new.units.items ≡ old.units.items ++ u ∷ []
  pub names : new.names.items ≡ with_names old.names.items (imported tree.imports.items)
  pub few : vec_len new.names ≤ 257

-- the prelude was read, and it alone
abbrev pub IsBegun : List ℕ → Loading → Type 0
IsBegun root l = (u : SourceUnit) × IsPrelude root u × (l.units.items ≡ u ∷ []) × (l.names.items ≡ queue root l.units.items) × (vec_len l.names ≤ 257)
    × (l.length ≡ 0)

-- a module of this name was read from this file
abbrev pub TakesFile : FilesState → List ℕ → List ℕ → Loading → Loading → Type 0
TakesFile files file name old new = (u : SourceUnit) × (n : ℕ) × Adds old name u.tree u new
    × HasTreeIn files file (length old.units.items) old.length n u.tree × (new.length ≡ old.length + n)

-- why none was
abbrev pub IsNoFile : FilesState → FilesState → List ℕ → List ℕ → Loading → LoadError → Type 0
IsNoFile old new file name l e =
    IsNoTree old new file name l.length e ⊎ IsTooMany new file (length l.units.items) l.names.items name l.length e

-- the names are those of the queue, and there are few of them and of their bytes
abbrev pub IsQueued : List ℕ → Loading → Type 0
IsQueued root l = (l.names.items ≡ queue root l.units.items) × (vec_len l.names ≤ 257)

-- the module whose turn it was is read
abbrev pub TakesTurn : FilesState → FilesState → List ℕ → Loading → Loading → Type 0
TakesTurn old new root before after = (u : SourceUnit) × (n : ℕ) × IsTurn new root before.units.items before.length u n
    × TouchesOnly (module_file root u.name) old new
    × (after.units.items ≡ before.units.items ++ u ∷ []) × (after.length ≡ before.length + n) × IsQueued root after

-- why it is not
abbrev pub IsNoTurn : FilesState → FilesState → List ℕ → Loading → LoadError → Type 0
IsNoTurn old new root l e = (name : List ℕ) × IsNext root l.units.items name × TouchesOnly (module_file root name) old new
    × IsLastTurn old new root l.units.items name l.length e
