-- What elaboration goes on with: what has been asked of types, what is left and what is noted, and what is known.
use Rattle.std.specs.Prelude.{ℕ, ◌+◌, ◌==◌, ◌&&◌, List, [], ◌∷◌, ◌++◌, find, length, Bool, Option, Some, None}
use Rattle.ddl_base.specs.declared.span.Span.{Span}
use Rattle.ddl_tree.specs.declared.kind.Kind.{Kind}
use Rattle.ddl_tree.specs.declared.kind.Kind.TheVariants as k
use Rattle.ddl_types.specs.Types.{Ty, Ty.con, Tys.none, Tys.more, Head.unit, Head.array_of, Head.map_of, Head.maybe_of, Head.uint, Head.bool, Head.stream}
use Rattle.ddl_types.specs.Types.{Head.place}
use Rattle.ddl_types.specs.Conditions.{Condition}
use Rattle.ddl_unify.specs.Equations.{Equation, equal}
use Rattle.ddl_judging.specs.Demands.{Demand, condition}
use Rattle.ddl_kinds.specs.declared.bound.Bound.{Bound}
use Rattle.ddl_kinds.specs.declared.bound.Use.{Use}
use Rattle.ddl_typed.specs.Specification.{Place}

-- an equation or a demand, with the place where it stands
pub data Ask : Type 0 where
  equates : Equation → Span → Ask
  demands : Demand → Span → Ask

-- two types that have to be one, the first being what is wanted
abbrev pub wants : Ty → Ty → Span → Ask
wants t u s = equates (equal t u) s

abbrev pub asks_for : Condition → Span → Ask
asks_for c s = demands (condition c) s

-- what is left of the uses, the next variable, the records and unions so far, and the texts of `Fail` and the grammar
-- arguments so far, which are numbered in text order
pub record State : Type 0 where
  pub uses : List Use
  pub next : ℕ
  pub places : List Place
  pub texts : List (List ℕ)
  pub sites : ℕ

-- ---- types

abbrev pub unit_type : Ty
unit_type = con unit none

abbrev pub bool_type : Ty
bool_type = con bool none

abbrev pub word : ℕ → Ty
word n = con (uint n) none

abbrev pub array : Ty → Ty
array t = con array_of (more t none)

abbrev pub bytes : Ty
bytes = array (word 8)

abbrev pub maybe : Ty → Ty
maybe t = con maybe_of (more t none)

abbrev pub map_type : Ty → Ty → Ty
map_type t u = con map_of (more t (more u none))

abbrev pub stream_type : Ty
stream_type = con stream none

-- ---- states

abbrev pub after_variables : ℕ → State → State
after_variables n s = record s { next = s.next + n }

abbrev pub after_site : State → State
after_site s = record s { sites = s.sites + 1 }

abbrev pub with_text : List ℕ → State → State
with_text x s = record s { texts = s.texts ++ x ∷ [] }

-- the next use of a name, and what is left
abbrev pub bound_next : List Use → Option Bound
bound_next [] = None
bound_next (u ∷ us) = Some u.bound

abbrev pub behind_use : List Use → List Use
behind_use [] = []
behind_use (u ∷ us) = us

abbrev pub after_use : State → State
after_use s = record s { uses = behind_use s.uses }

-- one more record or union of these members; in its own group it has no arguments
abbrev pub with_place : Span → Bool → List (List ℕ) → List Ty → State → State
with_place s tagged names types z = record z { places = z.places ++ record { span = s; vars = 0; tagged = tagged; names = names; types = types } ∷ [] }

abbrev pub place_type : State → Ty
place_type s = con (place (length s.places)) none

-- ---- names in scope

-- a local name, by the place of its binder: its kind, its number and its type
pub record Local : Type 0 where
  pub at : Span
  pub kind : Kind
  pub number : ℕ
  pub of : Ty

abbrev pub same_span : Span → Span → Bool
same_span a b = a.«module» == b.«module» && (a.from == b.from && a.to == b.to)

-- no two names have their binders at one place
abbrev pub local_at : Span → List Local → Option Local
local_at s locals = find (λ l. same_span l.at s) locals

-- what is known of a declaration: the kinds and types of its parameters, its type and its kept conditions, for all types of
-- its variables; one of the group that is being typed has no variables, and stands for itself
pub record Known : Type 0 where
  pub vars : ℕ
  pub kinds : List Kind
  pub params : List Ty
  pub of : Ty
  pub conditions : List Condition

-- of a number that no declaration has
abbrev pub unknown : Known
unknown = record { vars = 0; kinds = []; params = []; of = unit_type; conditions = [] }

-- the local names, the outermost first, and the declarations by their numbers
pub record Env : Type 0 where
  pub locals : List Local
  pub known : ℕ → Known

-- one more value; its number is how many names there were
abbrev pub with_value : Span → Ty → Env → Env
with_value s t env = record env { locals = env.locals ++ record { at = s; kind = k.Value; number = length env.locals; of = t } ∷ [] }
