-- Typing contexts: the names that a form sees, with their types.
use Rattle.std.specs.Prelude.{ℕ, ◌==◌, if◌then◌else◌, List, ◌∷◌, Option, Some, None}
use Rattle.ddl_types.specs.Types.{Ty}
use Rattle.ddl_typed.specs.declared.parts.Binder.{Binder}
use Rattle.ddl_typed.specs.Tree.{Name, own, under}
use Rattle.ddl_typed.specs.Env.{same_name}

-- names with their types, the innermost first, as an environment has them with their values
pub data Context : Type 0 where
  no_names : Context
  name : ℕ → Ty → Context → Context
  captured : ℕ → Name → Ty → Context → Context

-- one more name of a copy
abbrev pub context_with : Name → Ty → Context → Context
context_with (own x) ty Γ = name x ty Γ
context_with (under g n) ty Γ = captured g n ty Γ

-- the type of a local name: that of its innermost binding
abbrev pub local_type : Context → ℕ → Option Ty
local_type no_names x = None
local_type (name y ty Γ) x = if y == x then Some ty else local_type Γ x
local_type (captured h m ty Γ) x = local_type Γ x

-- the type of a value that an argument captured
abbrev pub captured_type : Context → ℕ → Name → Option Ty
captured_type no_names g n = None
captured_type (name y ty Γ) g n = captured_type Γ g n
captured_type (captured h m ty Γ) g n = if same_name (under h m) (under g n) then Some ty else captured_type Γ g n

-- the type of a name of a copy
abbrev pub named_type : Context → Name → Option Ty
named_type Γ (own x) = local_type Γ x
named_type Γ (under g n) = captured_type Γ g n

-- a name, where there is one
abbrev pub optional_name : Option ℕ → Ty → Context → Context
optional_name None ty Γ = Γ
optional_name (Some x) ty Γ = name x ty Γ

-- the names of a turn, with the types of its key or position and of its element
abbrev pub turn_context : Binder → Ty → Ty → Context → Context
turn_context names key element Γ = name names.element element (optional_name names.key key Γ)

-- the names of parameters in order, each with its type
abbrev pub parameters_context : List Name → List Ty → Context → Context
parameters_context (n ∷ ns) (ty ∷ tys) Γ = parameters_context ns tys (context_with n ty Γ)
parameters_context ns tys Γ = Γ
