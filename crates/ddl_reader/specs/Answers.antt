-- What a parser answers, in words of modules and their prints alone.
use Rattle.std.specs.Prelude.{ℕ, ◌≡◌, ◌≢◌, ◌≤◌, List, [], ◌∷◌, ◌++◌}
use Rattle.ddl_token.specs.declared.token.Tok.{Tok}
use Rattle.ddl_tree.specs.ModuleTree.{Module}
use Rattle.ddl_tree.specs.Depth.{module_depth}
use Rattle.ddl_tree.specs.PrintModule.{print_module}
use Rattle.ddl_tree.specs.GrammarModule.{IsModule}

-- these are the first tokens of a module
abbrev pub Begins : List Tok → Type 0
Begins xs = (a : Module) × (rest : List Tok) × IsModule a × (print_module a ≡ xs ++ rest)

-- why the token after these, or the end after them, is not read
abbrev pub Unexpected : List Tok → List Tok → Type 0
Unexpected used [] = (a : Module) → IsModule a → print_module a ≢ used
Unexpected used (x ∷ rest) = Begins (used ++ x ∷ []) → ⊥

-- these are the first tokens of a module that is no deeper than d
abbrev pub BeginsWithin : ℕ → List Tok → Type 0
BeginsWithin d xs = (a : Module) × (rest : List Tok) × IsModule a × (print_module a ≡ xs ++ rest) × (module_depth a ≤ d)

-- these begin a module within d, and with x one that is deeper, and none within d
abbrev pub TooNested : ℕ → List Tok → Tok → Type 0
TooNested d used x = BeginsWithin d used × Begins (used ++ x ∷ []) × (BeginsWithin d (used ++ x ∷ []) → ⊥)
