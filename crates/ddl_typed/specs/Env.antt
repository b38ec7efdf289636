-- Environments.
use Rattle.std.specs.Prelude.{ℕ, ◌==◌, Bool, false, if◌then◌else◌, Option, Some, None}
use Rattle.ddl_types.specs.Types.{Ty, con, none, unit, on}
use Rattle.ddl_types.specs.Value.{Value}
use Rattle.ddl_ops.specs.Valued.{Valued, given}
use Rattle.ddl_typed.specs.Tree.{Expr, Name, own, under}

-- what names and parameters stand for, the innermost binding first: a value, a value that an argument captured, a
-- grammar form with its own environment, a set of bytes, a type
pub data Env : Type 0 where
  empty : Env
  with_value : ℕ → Value → Env → Env
  with_captured : ℕ → Name → Value → Env → Env
  with_grammar : ℕ → Expr → Env → Env → Env
  with_class : ℕ → (ℕ → Bool) → Env → Env
  with_type : ℕ → Ty → Env → Env

-- names are equal
abbrev pub same_name : Name → Name → Bool
same_name (own x) (own y) = x == y
same_name (own x) (under h m) = false
same_name (under g n) (own y) = false
same_name (under g n) (under h m) = if g == h then same_name n m else false

-- a name of a copy stands for a value
abbrev pub with_name : Name → Value → Env → Env
with_name (own x) v env = with_value x v env
with_name (under g n) v env = with_captured g n v env

-- the value of a local name: that of its innermost binding
abbrev pub value_in : Env → ℕ → Option Value
value_in empty x = None
value_in (with_value y v env) x = if y == x then Some v else value_in env x
value_in (with_captured h m v env) x = value_in env x
value_in (with_grammar y p other env) x = value_in env x
value_in (with_class y set env) x = value_in env x
value_in (with_type y t env) x = value_in env x

-- the value of a name, which a valid form has
abbrev pub lookup : Env → ℕ → Valued
lookup env x = given (value_in env x)

-- a value under a name, where there is one
abbrev pub with_optional : Option ℕ → Value → Env → Env
with_optional None v env = env
with_optional (Some x) v env = with_value x v env

-- the value that the argument for a parameter captured under a name
abbrev pub captured_in : Env → ℕ → Name → Option Value
captured_in empty g n = None
captured_in (with_value y v env) g n = captured_in env g n
captured_in (with_captured h m v env) g n = if same_name (under h m) (under g n) then Some v else captured_in env g n
captured_in (with_grammar y p other env) g n = captured_in env g n
captured_in (with_class y set env) g n = captured_in env g n
captured_in (with_type y t env) g n = captured_in env g n

-- the value of a name of a copy
abbrev pub named_in : Env → Name → Option Value
named_in env (own x) = value_in env x
named_in env (under g n) = captured_in env g n

-- a grammar form with the environment that it was given in
pub record Closure : Type 0 where
  pub form : Expr
  pub env : Env

-- what a grammar parameter stands for
abbrev pub grammar_in : Env → ℕ → Option Closure
grammar_in empty x = None
grammar_in (with_value y v env) x = grammar_in env x
grammar_in (with_captured h m v env) x = grammar_in env x
grammar_in (with_grammar y p other env) x = if y == x then Some (record { form = p; env = other }) else grammar_in env x
grammar_in (with_class y set env) x = grammar_in env x
grammar_in (with_type y t env) x = grammar_in env x

-- the set of bytes that a class parameter stands for
abbrev pub class_in : Env → ℕ → Option (ℕ → Bool)
class_in empty x = None
class_in (with_value y v env) x = class_in env x
class_in (with_captured h m v env) x = class_in env x
class_in (with_grammar y p other env) x = class_in env x
class_in (with_class y set env) x = if y == x then Some set else class_in env x
class_in (with_type y t env) x = class_in env x

-- the type of a type variable; it is that of `{}` for one that nobody gives a type
abbrev pub type_in : Env → ℕ → Ty
type_in empty x = con unit none
type_in (with_value y v env) x = type_in env x
type_in (with_captured h m v env) x = type_in env x
type_in (with_grammar y p other env) x = type_in env x
type_in (with_class y set env) x = type_in env x
type_in (with_type y t env) x = if y == x then t else type_in env x

-- a type with the types of the environment for its variables
abbrev pub closed : Env → Ty → Ty
closed env t = on t (type_in env)
