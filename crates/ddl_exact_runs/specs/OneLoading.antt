-- What the loading of a root's modules gives is one thing, where it is told what files hold.
use Rattle.std.specs.Prelude.{◌≡◌, ℕ, List, Option, Some, None, Result, Ok, Err}
use Rattle.ddl_base.specs.declared.span.Span.{Span}
use Rattle.ddl_outside.specs.Files.{Contents, FilesState}
use Rattle.ddl_source.specs.declared.error.SourceError.{SourceError}
use Rattle.ddl_tree.specs.declared.module.SourceUnit.{SourceUnit}
use Rattle.ddl_uses.specs.Bindings.{Loaded}
use Rattle.ddl_uses.specs.Walks.{loaded}
use Rattle.ddl_modules.specs.Loaded.{AreLoaded, AreNotLoaded}
use Rattle.ddl_modules.specs.declared.error.LoadError.{LoadError}
use Rattle.ddl_modules.specs.declared.error.LoadError.TheVariants as refused
use Rattle.ddl_exact_runs.specs.Known.{IsKnown}

-- why modules are not loaded, where the files alone are the cause: this file is not there; the file of this module has so
-- many bytes, which are too many; the import of this module that stands here names module 257; these modules are a cycle,
-- and the first import of it stands here; or this is wrong with the text of this module
pub data Cause : Type 0 where
  missing : List ℕ → Cause
  too_large : List ℕ → ℕ → Cause
  too_many : List ℕ → Span → Cause
  cycle : Span → List (List ℕ) → Cause
  wrong : List ℕ → SourceError → Cause

-- the cause of a refusal; a failed call and want of memory come from outside
abbrev pub cause_of : LoadError → Option Cause
cause_of (refused.Missing file) = Some (missing file)
cause_of (refused.TooLarge name n) = Some (too_large name n)
cause_of (refused.TooMany name span) = Some (too_many name span)
cause_of (refused.Cycle span names) = Some (cycle span names.items)
cause_of (refused.Source name error) = Some (wrong name error)
cause_of refused.ReadFault = None
cause_of refused.NoMemory = None

-- the root has these modules, or this is the cause why they are not loaded
abbrev pub HasLoaded : FilesState → FilesState → List ℕ → Result (List Loaded) Cause → Type 0
HasLoaded old new root (Ok ls) = (us : List SourceUnit) × AreLoaded old new root us × (loaded us ≡ ls)
HasLoaded old new root (Err cause) = (e : LoadError) × AreNotLoaded old new root e × (cause_of e ≡ Some cause)

-- where files hold the same, a root has one of them
abbrev pub OneLoading : Type 0
OneLoading = (contents : Contents) (old new old' new' : FilesState) (root : List ℕ) (x y : Result (List Loaded) Cause)
    → IsKnown contents new → IsKnown contents new' → HasLoaded old new root x → HasLoaded old' new' root y → x ≡ y
