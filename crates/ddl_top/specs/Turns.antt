-- Which specification a root has, and the files whose turn comes in a call.
use Rattle.std.specs.Prelude.{◌≡◌, ◌⊎◌, ℕ, List}
use Rattle.ddl_front.specs.Front.{AreBoundModules}
use Rattle.ddl_modules.specs.Files.{module_file}
use Rattle.ddl_modules.specs.Queue.{IsNext}
use Rattle.ddl_modules.specs.Reading.{Read}
use Rattle.ddl_outside.specs.Files.{FilesState}
use Rattle.ddl_simple.specs.Modules.{Declared}
use Rattle.ddl_tree.specs.declared.module.SourceUnit.{SourceUnit}
use Rattle.ddl_top.specs.Run.{IsAccepted}
use Rattle.ddl_top.specs.Words.{Command, check_of, file_of, run_of, show_of}

-- these are the modules of a root, from files that it does not name here, and their names are bound
abbrev pub Loads : FilesState → List ℕ → List SourceUnit → Type 0
Loads files root us = (names : List (List ℕ)) × AreBoundModules files root names us

-- the modules of a root are accepted with this specification
abbrev pub Specifies : FilesState → List ℕ → Declared → Type 0
Specifies files root spec = (names : List (List ℕ)) × IsAccepted files root names spec

-- the turn is at this file: it is that of the module which comes next behind modules that were read
abbrev pub IsModuleTurn : FilesState → List ℕ → List ℕ → Type 0
IsModuleTurn files root file =
    (us : List SourceUnit) × (names : List (List ℕ)) × (n : ℕ) × (name : List ℕ)
    × Read files root us names n × IsNext root us name × (file ≡ module_file root name)

-- a command comes to this file: a module's in its turn, or the input once the specification is accepted
abbrev pub ComesTo : Command → FilesState → List ℕ → Type 0
ComesTo (run_of root input) files file = IsModuleTurn files root file ⊎ ((spec : Declared) × Specifies files root spec × (file ≡ input))
ComesTo (check_of root) files file = IsModuleTurn files root file
ComesTo (show_of root) files file = file ≡ file_of root
