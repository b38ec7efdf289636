-- The header of one declaration: the types of its parameters, its own type, and what its written type asks.
use Rattle.std.specs.Prelude.{ℕ, suc, List, [], ◌∷◌, map, Option, Some, None}
use Rattle.ddl_kinds.specs.declared.bound.Use.{Use}
use Rattle.ddl_tree.specs.ExprTree as ex
use Rattle.ddl_tree.specs.ModuleTree as mo
use Rattle.ddl_tree.specs.TypeTree as y
use Rattle.ddl_types.specs.Types.{Ty, Ty.var}
use Rattle.ddl_uses.specs.Scope.{param_kind, param_name}
use Rattle.ddl_rules.specs.Asks.{Ask, Known, Local, State, after_variables, wants, word}
use Rattle.ddl_rules.specs.Refusing.{first_of, type_refusal}
use Rattle.ddl_rules.specs.declared.refusing.TypeRefusal.{TypeRefusal}
use Rattle.ddl_typing.specs.Groups.{Body}
use Rattle.ddl_typing.specs.Making.{made_type}
use Rattle.ddl_typing.specs.Typed.{TypedType, first_type, rest_types}
use Rattle.ddl_typing.specs.WrittenTypes.{typed_refusal, written_refusal}

-- ---- parameters

-- a written type is the parameter's type; without one it is a variable, and a class is a set of bytes
abbrev pub param_of : (ℕ → Known) → mo.Param → State → TypedType
param_of known (mo.Upper x) z = record { of = var z.next; state = after_variables 1 z }
param_of known (mo.Lower x) z = record { of = var z.next; state = after_variables 1 z }
param_of known (mo.Class x) z = record { of = word 8; state = z }
param_of known (mo.TypedUpper x t s) z = made_type var known t z
param_of known (mo.TypedLower x t s) z = made_type var known t z

-- the types of some parameters, and what is left
pub record ReadParams : Type 0 where
  pub types : List Ty
  pub state : State

abbrev pub read_params : (ℕ → Known) → List mo.Param → State → ReadParams
read_params known [] z = record { types = []; state = z }
read_params known (p ∷ ps) z =
    let u = param_of known p z in let r = read_params known ps u.state in record { types = u.of ∷ r.types; state = r.state }

-- the parameters as local names, of which this one has number i
abbrev pub locals_from : ℕ → List mo.Param → List Ty → List Local
locals_from i [] us = []
locals_from i (p ∷ ps) us =
    record { at = (param_name p).span; kind = param_kind p; number = i; of = first_type us } ∷ locals_from (suc i) ps (rest_types us)

-- ---- a declaration with a body

-- its body, what is known of it in its group, and what is left
pub record Header : Type 0 where
  pub body : Body
  pub own : Known
  pub state : State

-- without a written type the body is wanted to be of the declaration's own type; with one that type is wanted to be the
-- written one, and the body is wanted to be of the written one
abbrev pub result_of : (ℕ → Known) → Option y.TypeExpr → Ty → State → TypedType
result_of known None own z = record { of = own; state = z }
result_of known (Some t) own z = made_type var known t z

abbrev pub result_asks : Option y.TypeExpr → Ty → Ty → List Ask
result_asks None own u = []
result_asks (Some t) own u = wants own u (y.type_span t) ∷ []

-- of a declaration whose own type this is, with the uses in it; those that its header leaves are the body's
abbrev pub header : (ℕ → Known) → List mo.Param → Option y.TypeExpr → ex.Expr → Ty → List Use → State → Header
header known ps t e own us z =
    let r = read_params known ps (record z { uses = us }) in let u = result_of known t own r.state in record {
      body = record { locals = locals_from 0 ps r.types; of = u.of; header = result_asks t own u.of; uses = u.state.uses; tree = e };
      own = record { vars = 0; kinds = map param_kind ps; params = r.types; of = own; conditions = [] };
      state = u.state;
    }

-- ---- the first written type that is none: in the header, then in the body

abbrev pub param_refusal : mo.Param → Option TypeRefusal
param_refusal (mo.TypedUpper x t s) = type_refusal t
param_refusal (mo.TypedLower x t s) = type_refusal t
param_refusal p = None

abbrev pub params_refusal : List mo.Param → Option TypeRefusal
params_refusal [] = None
params_refusal (p ∷ ps) = first_of (param_refusal p) (params_refusal ps)

abbrev pub form_refusal : List mo.Param → Option y.TypeExpr → ex.Expr → Option TypeRefusal
form_refusal ps t e = first_of (params_refusal ps) (first_of (typed_refusal t) (written_refusal e))
