-- Instances: what stands for the grammar, class and type parameters of a declaration, and which of them are the same.
use Rattle.std.specs.Prelude.{ℕ, zero, suc, Bool, true, false, if◌then◌else◌, ◌==◌, ◌||◌, List, [], ◌∷◌, ◌++◌, map, Option, Some, None}
use Rattle.ddl_types.specs.Types.{Ty, con, none, unit}
use Rattle.ddl_ops.specs.ByteSets.{Set}
use Rattle.ddl_typed.specs.Tree.{Name, own, under, Site, Expr, Args, Spec, expr, call, parameter, no_args, by_value, by_grammar, by_class, by_type}
use Rattle.ddl_typed.specs.Tree.{by_hand}
use Rattle.ddl_typed.specs.Env.{Env, empty, with_class, with_type, closed}
use Rattle.ddl_typed.specs.Classes.{class_set}

mutual
  -- the shape of a grammar argument: a declaration without arguments, at its types; or the place in the text where the argument
  -- stands, with what stands for the parameters that are used there
  pub data Shape : Type 0 where
    at_name : ℕ → Instance → Shape
    at_place : Site → Expr → Instance → Shape

  -- an instance: of each grammar parameter its shape, of each class parameter its bytes, of each type variable its type
  pub data Instance : Type 0 where
    no_parameters : Instance
    grammar_at : ℕ → Shape → Instance → Instance
    class_at : ℕ → Set → Instance → Instance
    type_at : ℕ → Ty → Instance → Instance

-- what a copy is a copy of: a member is a declaration at an instance, an argument is the text of a grammar argument at one
pub data Origin : Type 0 where
  member : ℕ → Instance → Origin
  argument : Site → Expr → Instance → Origin

-- a shape names a copy
abbrev pub origin_of : Shape → Origin
origin_of (at_name f τs) = member f τs
origin_of (at_place site e τs) = argument site e τs

-- ---- what an instance says

-- the shape of a grammar parameter
abbrev pub shape_of : Instance → ℕ → Option Shape
shape_of no_parameters g = None
shape_of (grammar_at h σ τs) g = if h == g then Some σ else shape_of τs g
shape_of (class_at x set τs) g = shape_of τs g
shape_of (type_at j t τs) g = shape_of τs g

-- its classes and types, as an environment
abbrev pub static_env : Instance → Env
static_env no_parameters = empty
static_env (grammar_at h σ τs) = static_env τs
static_env (class_at x set τs) = with_class x set (static_env τs)
static_env (type_at j t τs) = with_type j t (static_env τs)

-- a type with the types of an instance for its variables
abbrev pub closed_in : Instance → Ty → Ty
closed_in σs t = closed (static_env σs) t

-- a number is in a list
abbrev pub has : ℕ → List ℕ → Bool
has x [] = false
has x (y ∷ ys) = x == y || has x ys

-- what stands for the parameters that are used at a place
abbrev pub used_at : Site → Instance → Instance
used_at site no_parameters = no_parameters
used_at site (grammar_at h σ τs) = if has h site.grammars then grammar_at h σ (used_at site τs) else used_at site τs
used_at site (class_at x set τs) = if has x site.classes then class_at x set (used_at site τs) else used_at site τs
used_at site (type_at j t τs) = if has j site.types then type_at j t (used_at site τs) else used_at site τs

-- the values that a shape captures, in order: those in scope at its place, and those that the shapes of its parameters capture
abbrev mutual
  pub captured : Shape → List Name
  captured (at_name f τs) = []
  captured (at_place site e τs) = map own site.values ++ all_captured τs

  -- the values that the shapes of an instance capture, under the names of their parameters
  pub all_captured : Instance → List Name
  all_captured no_parameters = []
  all_captured (grammar_at g σ τs) = map (under g) (captured σ) ++ all_captured τs
  all_captured (class_at x set τs) = all_captured τs
  all_captured (type_at j t τs) = all_captured τs

-- ---- the shapes of arguments

-- arguments that are types, and nothing else
abbrev pub types_alone : Args → Bool
types_alone no_args = true
types_alone (by_value x e args) = false
types_alone (by_grammar x site e args) = false
types_alone (by_class x c args) = false
types_alone (by_type x t args) = types_alone args
types_alone (by_hand there here args) = false

-- the instance that they give
abbrev pub type_instance : Args → Instance → Instance → Instance
type_instance no_args σs τs = τs
type_instance (by_value x e args) σs τs = type_instance args σs τs
type_instance (by_grammar x site e args) σs τs = type_instance args σs τs
type_instance (by_class x c args) σs τs = type_instance args σs τs
type_instance (by_type x t args) σs τs = type_instance args σs (type_at x (closed_in σs t) τs)
type_instance (by_hand there here args) σs τs = type_instance args σs τs

-- the shape that was found; a valid parameter has one
abbrev pub shape_or : Option Shape → Shape
shape_or None = at_name 0 no_parameters
shape_or (Some σ) = σ

-- the shape of an argument is that of a parameter, or a declaration without arguments at its types, or else its place
abbrev pub argument_shape : Site → Expr → Instance → Shape
argument_shape site (expr (parameter g) ty span) τs = shape_or (shape_of τs g)
argument_shape site (expr (call f args) ty span) τs =
    if types_alone args then at_name f (type_instance args τs no_parameters) else at_place site (expr (call f args) ty span) τs
argument_shape site e τs = at_place site e τs

-- a class parameter stands for these bytes
abbrev pub with_set : Option Set → ℕ → Instance → Instance
with_set None x τs = τs
with_set (Some set) x τs = class_at x set τs

-- the instance of the declaration that is called: its parameters stand for the arguments as the caller's instance has them
abbrev pub call_instance : Spec → Args → Instance → Instance → Instance
call_instance spec no_args σs τs = τs
call_instance spec (by_value x e args) σs τs = call_instance spec args σs τs
call_instance spec (by_grammar x site e args) σs τs =
    call_instance spec args σs (grammar_at x (argument_shape site e (used_at site σs)) τs)
call_instance spec (by_class x c args) σs τs = call_instance spec args σs (with_set (class_set spec c (static_env σs)) x τs)
call_instance spec (by_type x t args) σs τs = call_instance spec args σs (type_at x (closed_in σs t) τs)
call_instance spec (by_hand there here args) σs τs = call_instance spec args σs τs

-- the type variables of the entry, numbered from 0, stand for `{}`
abbrev pub unit_types : ℕ → Instance
unit_types zero = no_parameters
unit_types (suc n) = type_at n (con unit none) (unit_types n)
