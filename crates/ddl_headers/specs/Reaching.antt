-- Which bitdata contain themselves, and which classes reach themselves.
use Rattle.std.specs.Prelude.{ℕ, zero, suc, ◌+◌, ◌==◌, ◌||◌, List, [], ◌∷◌, ◌++◌, drop, take, length, Bool, false, Option, Some}
use Rattle.std.specs.Prelude.{slice_get, slice_index_or}
use Rattle.std.specs.List.{list_any}
use Rattle.ddl_kinds.specs.declared.bound.Bound.{Bound}
use Rattle.ddl_kinds.specs.declared.bound.Bound.TheVariants as b
use Rattle.ddl_kinds.specs.declared.bound.Use.{Use}
use Rattle.ddl_tree.specs.ModuleTree as mo
use Rattle.ddl_tree.specs.TypeTree as y

-- ---- what a bitdata contains

-- how many names stand in a type
abbrev pub name_count : y.TypeExpr → ℕ
name_count (y.Maybe t s) = name_count t
name_count (y.ArrayOf t s) = name_count t
name_count (y.MapOf t u s) = name_count t + name_count u
name_count (y.Named x) = 1
name_count (y.Within t s) = name_count t
name_count t = 0

-- the use of the name that a type is
abbrev pub use_of_type : y.TypeExpr → List Use → List Use
use_of_type (y.Named x) us = take 1 us
use_of_type (y.Within t s) us = use_of_type t us
use_of_type t us = []

-- the uses of the names that are types of parts
abbrev pub uses_of_parts : List mo.Part → List Use → List Use
uses_of_parts [] us = []
uses_of_parts (mo.Fixed n ∷ ps) us = uses_of_parts ps us
uses_of_parts (mo.Named x t s ∷ ps) us = use_of_type t us ++ uses_of_parts ps (drop (name_count t) us)
uses_of_parts (mo.Unnamed t s ∷ ps) us = use_of_type t us ++ uses_of_parts ps (drop (name_count t) us)

abbrev pub parts_of : mo.Bits → List mo.Part
parts_of (mo.Exactly n) = mo.Fixed n ∷ []
parts_of (mo.Parts ps s) = ps

abbrev pub parts_of_cons : List mo.Con → List mo.Part
parts_of_cons [] = []
parts_of_cons (c ∷ cs) = parts_of c.bits ++ parts_of_cons cs

-- ---- what a declaration leads to

-- so a bitdata leads on through what it contains, and a class through what it names
abbrev pub leading : Option mo.Decl → List Use → List Use
leading (Some (mo.BitsDef x c s)) us = uses_of_parts (parts_of c) us
leading (Some (mo.BitsUnion x cs s)) us = uses_of_parts (parts_of_cons cs) us
leading (Some (mo.ClassDef x c s)) us = us
leading o us = []

-- what a name is bound to is a declaration that passes a test
abbrev pub leads_on : (ℕ → Bool) → Bound → Bool
leads_on test (b.Decl d) = test d
leads_on test bound = false

-- the declarations in order of their numbers, and the uses of names in each
module _ (decls : List mo.Decl) (uses : List (List Use)) where
  abbrev pub leads : ℕ → List Use
  leads d = leading (slice_get decls d) (slice_index_or uses d [])

  -- whether a declaration leads to this one, by so many steps at most
  abbrev pub reaches : ℕ → ℕ → ℕ → Bool
  reaches zero goal d = false
  reaches (suc n) goal d = list_any (λ u. leads_on (λ next. next == goal || reaches n goal next) u.bound) (leads d)

  -- if there is a way, there is one of as many steps as there are declarations
  abbrev pub reaches_itself : ℕ → Bool
  reaches_itself d = reaches (length decls) d d
