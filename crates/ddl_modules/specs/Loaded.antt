-- What loading answers.
use Rattle.std.specs.Prelude.{◌≡◌, List, ℕ, length}
use Rattle.ddl_outside.specs.Files.{FilesState}
use Rattle.ddl_tree.specs.declared.module.SourceUnit.{SourceUnit}
use Rattle.ddl_modules.specs.Cycles.{imports_of, HaveNoCycle, IsToldCycle}
use Rattle.ddl_modules.specs.Reading.{AreNotRead, AreRead}
use Rattle.ddl_modules.specs.declared.error.LoadError.{LoadError}
use Rattle.ddl_modules.specs.declared.error.LoadError.TheVariants as refused

-- all modules that a root reaches were read, and none reaches itself
abbrev pub AreLoaded : FilesState → FilesState → List ℕ → List SourceUnit → Type 0
AreLoaded old new root us = AreRead old new root us × HaveNoCycle (imports_of us)

-- a unit has the place of each of its imports
abbrev pub HasPlaces : SourceUnit → Type 0
HasPlaces u = length u.imports.items ≡ length u.tree.imports.items

-- the refusal that tells of the cycle of these units
abbrev pub IsCycleOf : List SourceUnit → LoadError → Type 0
IsCycleOf us (refused.Cycle span modules) = IsToldCycle us span modules.items
IsCycleOf us e = ⊥

-- why they are not loaded: they were all read, and this is their cycle, or they were not all read
abbrev pub AreNotLoaded : FilesState → FilesState → List ℕ → LoadError → Type 0
AreNotLoaded old new root (refused.Cycle span modules) = (us : List SourceUnit) × AreRead old new root us × IsToldCycle us span modules.items
AreNotLoaded old new root e = AreNotRead old new root e
