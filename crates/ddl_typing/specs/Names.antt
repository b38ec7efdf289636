-- The rules of names with their arguments, of classes, and of written types.
use Rattle.std.specs.Prelude.{ℕ, zero, suc, List, [], ◌∷◌, ◌++◌, drop, length, map, Option, Some, None}
use Rattle.ddl_base.specs.declared.span.Span.{Span}
use Rattle.ddl_kinds.specs.declared.builtin.BuiltIn.{BuiltIn}
use Rattle.ddl_kinds.specs.declared.builtin.BuiltIn.TheVariants as builtin
use Rattle.ddl_kinds.specs.declared.bound.Bound.{Bound}
use Rattle.ddl_kinds.specs.declared.bound.Bound.TheVariants as b
use Rattle.ddl_tree.specs.declared.kind.Kind.{Kind}
use Rattle.ddl_tree.specs.declared.kind.Kind.TheVariants as k
use Rattle.ddl_tree.specs.ExprTree as ex
use Rattle.ddl_types.specs.Types.{Ty, Sub, on, arguments}
use Rattle.ddl_types.specs.Conditions.{Condition, on_condition}
use Rattle.ddl_typed.specs.Tree as t
use Rattle.ddl_rules.specs.Asks.{Ask, Env, Known, Local, State, asks_for, wants, unit_type, word, local_at, bound_next, after_use, after_site, with_text}
use Rattle.ddl_rules.specs.Asks.{unknown}
use Rattle.ddl_rules.specs.BuiltInTypes.{builtin_form, builtin_row}
use Rattle.ddl_rules.specs.ClassForms.{class_made, named_class}
use Rattle.ddl_typing.specs.Typed.{Typed, TypedArgs, TypedType, typed, tree_of}

-- ---- what is known of a name

-- a type of a scheme of so many variables at these types; without variables it stands for itself
abbrev pub at_types : ℕ → List Ty → Ty → Ty
at_types zero us u = u
at_types (suc n) us u = on u (arguments us)

abbrev pub condition_at : ℕ → List Ty → Condition → Condition
condition_at zero us c = c
condition_at (suc n) us c = on_condition (arguments us) c

abbrev pub builtin_known : BuiltIn → Known
builtin_known x = record {
  vars = (builtin_row x 0).vars;
  kinds = [];
  params = (builtin_row x 0).params;
  of = (builtin_row x 0).of;
  conditions =
      (builtin_row x 0).conditions;
}

abbrev pub local_known : Option Local → Known
local_known None = unknown
local_known (Some l) = record { vars = 0; kinds = []; params = []; of = l.of; conditions = [] }

-- the scheme of what a name is bound to
abbrev pub target : Option Bound → Env → Known
target (Some (b.Decl d)) env = env.known d
target (Some (b.BuiltIn x)) env = builtin_known x
target (Some (b.Local s)) env = local_known (local_at s env.locals)
target None env = unknown

-- ---- arguments

abbrev pub no_arguments : State → TypedArgs
no_arguments z = record { args = t.no_args; values = []; asks = []; state = z }

-- what the parameters of a scheme want at these types
abbrev pub wanted_at : Known → List Ty → List Ty
wanted_at it us = map (at_types it.vars us) it.params

abbrev pub next_kind : List Kind → Kind
next_kind [] = k.Value
next_kind (kind ∷ kinds) = kind

abbrev pub rest_kinds : List Kind → List Kind
rest_kinds [] = []
rest_kinds (kind ∷ kinds) = kinds

-- where a grammar argument stands; which names it uses is known only once all types are
abbrev pub site : ℕ → t.Site
site n = record { place = n; values = []; grammars = []; classes = []; types = [] }

abbrev pub before_argument : Kind → State → State
before_argument k.Grammar z = after_site z
before_argument kind z = z

-- a class as an argument, what it asks, and what is left
pub record OneClass : Type 0 where
  pub class : t.Class
  pub asks : List Ask
  pub state : State

-- a name takes the next use, as it does in any other place
abbrev pub class_of_name : Env → State → OneClass
class_of_name env z = record { class = named_class env (bound_next z.uses); asks = []; state = after_use z }

-- a class has no arguments, so of a name with some only the name is read
abbrev pub class_argument : ex.Expr → Env → State → OneClass
class_argument (ex.Class x) env z = class_of_name env z
class_argument (ex.Upper x) env z = class_of_name env z
class_argument (ex.Lower x) env z = class_of_name env z
class_argument (ex.CallGrammar x xs s) env z = class_of_name env z
class_argument (ex.CallValue x xs s) env z = class_of_name env z
class_argument (ex.Set c s) env z = let r = class_made c env z in record { class = r.class; asks = r.asks; state = r.state }
class_argument (ex.Paren a u s) env z = class_argument a env z
class_argument e env z = record { class = t.class_parameter 0; asks = []; state = z }

-- an argument of a kind, number i, of which this type is wanted: a class, a grammar at a place of its own, or a value
abbrev pub an_argument : Kind → ℕ → Ty → ℕ → OneClass → Typed → TypedArgs → TypedArgs
an_argument k.Class i u n c l r = record { args = t.by_class i c.class r.args; values = r.values; asks = c.asks ++ r.asks; state = r.state }
an_argument k.Grammar i u n c l r = record {
  args = t.by_grammar i (site n) (tree_of l) r.args;
  values = r.values;
  asks =
      wants u l.of l.at ∷ l.asks ++ r.asks;
  state = r.state;
}
an_argument kind i u n c l r = record {
  args = t.by_value i (tree_of l) r.args;
  values = tree_of l ∷ r.values;
  asks =
      wants u l.of l.at ∷ l.asks ++ r.asks;
  state = r.state;
}

-- what is left behind an argument
abbrev pub behind_argument : Kind → OneClass → Typed → State
behind_argument k.Class c l = c.state
behind_argument kind c l = l.state

-- ---- names

-- the types for the variables of a declaration, in their order
abbrev pub types_first : ℕ → List Ty → t.Args → t.Args
types_first n [] as_ = as_
types_first n (u ∷ us) as_ = t.by_type n u (types_first (suc n) us as_)

abbrev pub calling : Kind → ℕ → t.Args → t.Form
calling k.Value d as_ = t.value_call d as_
calling k.Class d as_ = t.class (t.declared d)
calling kind d as_ = t.call d as_

abbrev pub local_form : Option Local → t.Form
local_form None = t.end
local_form (Some l) = by_kind l.kind
  where
    by_kind : Kind → t.Form
    by_kind k.Grammar = t.parameter l.number
    by_kind k.Class = t.class (t.class_parameter l.number)
    by_kind kind = t.local l.number

-- the form of a name that is used at these types with these arguments
abbrev pub named_form : Option Bound → Kind → Env → List Ty → TypedArgs → t.Form
named_form (Some (b.Decl d)) kind env us r = calling kind d (types_first 0 us r.args)
named_form (Some (b.BuiltIn x)) kind env us r = builtin_form x (length r.state.texts) r.values
named_form (Some (b.Local s)) kind env us r = local_form (local_at s env.locals)
named_form None kind env us r = t.end

-- the text literal that is the one argument
abbrev pub texts_of : ex.Exprs → List (List ℕ)
texts_of (ex.an_expr (ex.Text bs s) ex.no_exprs) = bs ∷ []
texts_of xs = []

-- the text of `Fail` is noted
abbrev pub noted : Option Bound → List (List ℕ) → State → State
noted (Some (b.BuiltIn builtin.Fail)) (x ∷ []) z = with_text x z
noted o texts z = z

-- a name with its arguments; what its scheme asks is asked at the form
abbrev pub a_named : Option Bound → Kind → Span → List (List ℕ) → Env → List Ty → TypedArgs → Typed
a_named o kind s texts env us r = typed (named_form o kind env us r) (at_types (target o env).vars us (target o env).of) s
    (map (λ c. asks_for (condition_at (target o env).vars us c) s) (target o env).conditions ++ r.asks) (noted o texts r.state)

-- ---- classes

abbrev pub a_class : Span → OneClass → Typed
a_class s c = typed (t.class c.class) (word 8) s c.asks c.state

-- ---- written types

-- the type of the value of a declaration
abbrev pub of_bound : Option Bound → (ℕ → Known) → List Ty → Ty
of_bound (Some (b.Decl d)) known us = at_types (known d).vars us (known d).of
of_bound o known us = unit_type

abbrev pub bound_vars : Option Bound → (ℕ → Known) → ℕ
bound_vars (Some (b.Decl d)) known = (known d).vars
bound_vars o known = 0

abbrev pub a_type : Ty → State → TypedType
a_type u z = record { of = u; state = z }
