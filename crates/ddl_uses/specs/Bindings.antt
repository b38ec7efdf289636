-- What a name means: the innermost local name, else this module's declaration, else that of the one explicit import
-- that declares it, else the prelude's, else the built-in name.
use Rattle.std.specs.Prelude.{ℕ, ◌+◌, List, [], ◌∷◌, Option, Some, None, Bool, true, false, not, find, filter, map, length, take, sum_by, slice_index_or}
use Rattle.std.specs.Prelude.{nat_eq, if◌then◌else◌, bytes_eq, is_some}
use Rattle.ddl_tree.specs.declared.name.Name.{Name}
use Rattle.ddl_tree.specs.ModuleTree as mo
use Rattle.ddl_kinds.specs.declared.builtin.BuiltIn.{BuiltIn}
use Rattle.ddl_kinds.specs.declared.bound.Bound.TheVariants as bound
use Rattle.ddl_kinds.specs.BuiltIns.{builtin_kind, builtin_named, builtin_params}
use Rattle.ddl_kinds.specs.Meanings.{Meaning, nothing, two_imports, one, decl_kind, decl_name, decl_params, param_want}
use Rattle.ddl_uses.specs.Scope.{Local, Scope, in_scope}

-- a loaded module: its name, its tree, and the places of the modules that it imports
pub record Loaded : Type 0 where
  pub name : List ℕ
  pub tree : mo.Module
  pub imports : List ℕ

-- the declarations of a module
abbrev pub decls_of : List Loaded → ℕ → List mo.Decl
decls_of units m = slice_index_or (map (λ u. u.tree.decls) units) m []

-- the number of a module's first declaration: they are numbered module by module in text order
abbrev pub first_number : List Loaded → ℕ → ℕ
first_number units m = sum_by (λ u. length u.tree.decls) (take m units)

-- the name of a declaration of this number
abbrev pub meaning_of_decl : ℕ → mo.Decl → Meaning
meaning_of_decl n d = one (bound.Decl n) (decl_kind d) (map param_want (decl_params d))

-- a name among declarations of which the first has this number
abbrev pub meaning_among : ℕ → List mo.Decl → List ℕ → Meaning
meaning_among n [] text = nothing
meaning_among n (d ∷ ds) text = if bytes_eq (decl_name d).text text then meaning_of_decl n d else meaning_among (n + 1) ds text

-- a name as a module declares it
abbrev pub declared : List Loaded → ℕ → List ℕ → Meaning
declared units m text = meaning_among (first_number units m) (decls_of units m) text

abbrev pub is_declared : List Loaded → List ℕ → ℕ → Bool
is_declared units text m = is_some (find (λ d. bytes_eq (decl_name d).text text) (decls_of units m))

-- ---- names

abbrev pub is_bound : Meaning → Bool
is_bound nothing = false
is_bound (two_imports i j) = true
is_bound (one b kind ws) = true

-- the first where it is something, else the second
abbrev pub or_else : Meaning → Meaning → Meaning
or_else nothing m = m
or_else (two_imports i j) m = two_imports i j
or_else (one b kind ws) m = one b kind ws

abbrev pub meaning_of_builtin : Option BuiltIn → Meaning
meaning_of_builtin None = nothing
meaning_of_builtin (Some b) = one (bound.BuiltIn b) (builtin_kind b) (builtin_params b)

abbrev pub meaning_of_local : Option Local → Meaning
meaning_of_local None = nothing
meaning_of_local (Some l) = one (bound.Local l.name.span) l.kind []

abbrev pub only_or_two : ℕ → Option ℕ → Meaning → Meaning
only_or_two i None only = only
only_or_two i (Some j) only = two_imports i j

-- the imports that declare a name, in their order: one, or the first two that differ
abbrev pub imported_by : List Loaded → List ℕ → List ℕ → Meaning
imported_by units text [] = nothing
imported_by units text (m ∷ ms) = only_or_two m (find (λ i. not (nat_eq i m)) ms) (declared units m text)

abbrev pub imports_of : List Loaded → ℕ → List ℕ
imports_of units m = slice_index_or (map (λ u. u.imports) units) m []

abbrev pub imported : List Loaded → ℕ → List ℕ → Meaning
imported units m text = imported_by units text (filter (is_declared units text) (imports_of units m))

-- what a name that is no local one means in a module; the prelude is module 0
abbrev pub outer_meaning : List Loaded → ℕ → List ℕ → Meaning
outer_meaning units m text =
    or_else (declared units m text) (or_else (imported units m text) (or_else (declared units 0 text) (meaning_of_builtin (builtin_named text))))

-- all modules, and the one that a name stands in
pub record Site : Type 0 where
  pub units : List Loaded
  pub here : ℕ

abbrev pub meaning : Site → Scope → Name → Meaning
meaning site scope x = or_else (meaning_of_local (in_scope scope x.text)) (outer_meaning site.units site.here x.text)
