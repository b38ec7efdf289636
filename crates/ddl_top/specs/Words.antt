-- The words of a command line.
use Rattle.std.specs.Prelude.{ℕ, List, [], ◌∷◌, ◌++◌, Option, Some, None, if◌then◌else◌, codes}
use Rattle.std.specs.Str.{bytes_eq}

-- what the words ask for: a run of a module on an input, a check of a module, or a module printed
pub data Command : Type 0 where
  run_of : List ℕ → List ℕ → Command
  check_of : List ℕ → Command
  show_of : List ℕ → Command

-- `run MODULE INPUT`, `check MODULE` and `show MODULE`
abbrev pub command_of : List (List ℕ) → Option Command
command_of (word ∷ root ∷ input ∷ []) = if bytes_eq word (codes "run") then Some (run_of root input) else None
command_of (word ∷ root ∷ []) = if bytes_eq word (codes "check") then Some (check_of root) else if bytes_eq word (codes "show") then Some (show_of root) else
    None
command_of _ = None

-- the file of a module that is shown
abbrev pub file_of : List ℕ → List ℕ
file_of root = root ++ codes ".ddl"
