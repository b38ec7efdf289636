-- Which modules a root has with their names bound, why it has none, and which files were touched.
use Rattle.std.specs.Prelude.{◌≡◌, ◌⊎◌, ℕ, List, [], ◌∷◌, ◌++◌, length, Some, None}
use Rattle.ddl_outside.specs.Files.{FilesState}
use Rattle.ddl_outside.specs.declared.refusal.Refusal.{Refusal}
use Rattle.ddl_outside.specs.declared.refusal.Refusal.TheVariants as refused
use Rattle.ddl_modules.specs.Cycles.{HaveNoCycle, imports_of}
use Rattle.ddl_modules.specs.Files.{module_file}
use Rattle.ddl_modules.specs.Loaded.{AreLoaded, AreNotLoaded}
use Rattle.ddl_modules.specs.Queue.{queue, IsNext}
use Rattle.ddl_modules.specs.Reading.{Read, TouchesOnlyThese}
use Rattle.ddl_modules.specs.declared.error.LoadError.{LoadError}
use Rattle.ddl_modules.specs.declared.error.LoadError.TheVariants as load_is
use Rattle.ddl_names.specs.Modules.{refusal}
use Rattle.ddl_uses.specs.Walks.{loaded}
use Rattle.ddl_kinds.specs.declared.error.NameError.{NameError}
use Rattle.ddl_tree.specs.declared.module.SourceUnit.{SourceUnit}
use Rattle.ddl_front.specs.Reasons.{IsLoadReason, IsNameReason, reason_view}

-- the names of these modules are bound
abbrev pub HaveBindings : List SourceUnit → Type 0
HaveBindings us = refusal (loaded us) ≡ None

-- these are all modules that a root reaches, within the limits, from these files, without a cycle, and their names are bound
abbrev pub AreBoundModules : FilesState → List ℕ → List (List ℕ) → List SourceUnit → Type 0
AreBoundModules files root names us =
    (n : ℕ) × Read files root us names n × (length us ≡ length (queue root us)) × HaveNoCycle (imports_of us) × HaveBindings us

-- they are, and nothing but their files was touched
abbrev pub FindsModules : FilesState → FilesState → List ℕ → List SourceUnit → Type 0
FindsModules old new root us = (names : List (List ℕ)) × AreBoundModules new root names us × TouchesOnlyThese names old new

-- nothing was touched, or nothing but the files of modules that were read in their order, and of the one whose turn it was
abbrev pub TouchesModules : FilesState → FilesState → List ℕ → Type 0
TouchesModules old new root =
    (new ≡ old) ⊎ ((us : List SourceUnit) × (names : List (List ℕ)) × (n : ℕ) × Read new root us names n
    × (TouchesOnlyThese names old new ⊎ ((name : List ℕ) × IsNext root us name × TouchesOnlyThese (names ++ module_file root name ∷ []) old new)))

-- the refusal of modules that are not loaded
abbrev pub IsLoadRefusal : LoadError → Refusal → Type 0
IsLoadRefusal e (refused.Missing file) = e ≡ load_is.Missing file
IsLoadRefusal e refused.ReadFault = e ≡ load_is.ReadFault
IsLoadRefusal e (refused.Refused told) = IsLoadReason e (reason_view told)
IsLoadRefusal e refused.Unbuilt = ⊥
IsLoadRefusal e refused.NoMemory = Unit {0}

-- the refusal of modules that are loaded, and whose names are not bound
abbrev pub IsNameRefusal : List SourceUnit → Refusal → Type 0
IsNameRefusal us (refused.Refused told) = (e : NameError) × (refusal (loaded us) ≡ Some e) × IsNameReason us e (reason_view told)
IsNameRefusal us refused.NoMemory = Unit {0}
IsNameRefusal us r = ⊥

-- why the modules of a root are not to be had
abbrev pub IsRefused : FilesState → FilesState → List ℕ → Refusal → Type 0
IsRefused old new root r =
    ((e : LoadError) × AreNotLoaded old new root e × IsLoadRefusal e r)
    ⊎ ((us : List SourceUnit) × AreLoaded old new root us × IsNameRefusal us r)
