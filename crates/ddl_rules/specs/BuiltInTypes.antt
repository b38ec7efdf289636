-- The typing of built-in names with their arguments.
use Rattle.std.specs.Prelude.{ℕ, ◌+◌, List, [], ◌∷◌, Option, Some, None}
use Rattle.ddl_kinds.specs.declared.builtin.BuiltIn.{BuiltIn}
use Rattle.ddl_kinds.specs.declared.builtin.BuiltIn.TheVariants as b
use Rattle.ddl_types.specs.Types.{Ty, Ty.var}
use Rattle.ddl_types.specs.Conditions.{Condition, key}
use Rattle.ddl_ops.specs.declared.operators.Builtin.TheVariants.{Length, Concat, ArrayStream, BytesOfStream, Empty, InsertInto, LookupIn}
use Rattle.ddl_ops.specs.declared.operators.Primitive.TheVariants.{GetStream, Offset, SetStream, Take, Drop, Index, Lookup, Insert}
use Rattle.ddl_typed.specs.Tree.{Expr, Form, uint8, end, match, primitive, builtin, fail}
use Rattle.ddl_types.specs.CondView.{cond_view}
use Rattle.ddl_types.specs.declared.cond.Cond.{Cond}
use Rattle.ddl_typed.specs.View.{exprs_of}
use Rattle.ddl_rules.specs.Asks.{unit_type, word, array, bytes, maybe, map_type, stream_type}

-- what the arguments of a built-in name have to be, what it is, what it asks, over new variables from the n-th on, and how
-- many these are
pub record Row : Type 0 where
  pub params : List Ty
  pub of : Ty
  pub conditions : List Condition
  pub vars : ℕ

abbrev pub row : List Ty → Ty → List Condition → ℕ → Row
row ps t cs k = record { params = ps; of = t; conditions = cs; vars = k }

-- the table; a variable stands for any type
abbrev pub builtin_row : BuiltIn → ℕ → Row
builtin_row b.UInt8 n = row [] (word 8) [] 0
builtin_row b.Match n = row (bytes ∷ []) bytes [] 0
builtin_row b.End n = row [] unit_type [] 0
builtin_row b.GetStream n = row [] stream_type [] 0
builtin_row b.Offset n = row [] (word 64) [] 0
builtin_row b.SetStream n = row (stream_type ∷ []) unit_type [] 0
builtin_row b.Take n = row (word 64 ∷ stream_type ∷ []) stream_type [] 0
builtin_row b.Drop n = row (word 64 ∷ stream_type ∷ []) stream_type [] 0
builtin_row b.Index n = row (array (var n) ∷ word 64 ∷ []) (var n) [] 1
builtin_row b.Lookup n = row (var n ∷ map_type (var n) (var (n + 1)) ∷ []) (var (n + 1)) (key (var n) ∷ []) 2
builtin_row b.Insert n = row (var n ∷ var (n + 1) ∷ map_type (var n) (var (n + 1)) ∷ []) (map_type (var n) (var (n + 1))) (key (var n) ∷ []) 2
builtin_row b.Fail n = row (bytes ∷ []) (var n) [] 1
builtin_row b.Length n = row (array (var n) ∷ []) (word 64) [] 1
builtin_row b.Concat n = row (array (array (var n)) ∷ []) (array (var n)) [] 1
builtin_row b.ArrayStream n = row (bytes ∷ []) stream_type [] 0
builtin_row b.BytesOfStream n = row (stream_type ∷ []) bytes [] 0
builtin_row b.Empty n = row [] (map_type (var n) (var (n + 1))) [] 2
builtin_row b.Put n = row (var n ∷ var (n + 1) ∷ map_type (var n) (var (n + 1)) ∷ []) (map_type (var n) (var (n + 1))) (key (var n) ∷ []) 2
builtin_row b.Seek n = row (var n ∷ map_type (var n) (var (n + 1)) ∷ []) (maybe (var (n + 1))) (key (var n) ∷ []) 2

-- the one argument of `Match`; names have the number of arguments that they want before they have types
abbrev pub matched : List Expr → Form
matched (e ∷ []) = match e
matched es = uint8

-- the form of a built-in name with its arguments; that of `Fail` has its text by its number
abbrev pub builtin_form : BuiltIn → ℕ → List Expr → Form
builtin_form b.UInt8 n es = uint8
builtin_form b.Match n es = matched es
builtin_form b.End n es = end
builtin_form b.GetStream n es = primitive GetStream (exprs_of es)
builtin_form b.Offset n es = primitive Offset (exprs_of es)
builtin_form b.SetStream n es = primitive SetStream (exprs_of es)
builtin_form b.Take n es = primitive Take (exprs_of es)
builtin_form b.Drop n es = primitive Drop (exprs_of es)
builtin_form b.Index n es = primitive Index (exprs_of es)
builtin_form b.Lookup n es = primitive Lookup (exprs_of es)
builtin_form b.Insert n es = primitive Insert (exprs_of es)
builtin_form b.Fail n es = fail n
builtin_form b.Length n es = builtin Length (exprs_of es)
builtin_form b.Concat n es = builtin Concat (exprs_of es)
builtin_form b.ArrayStream n es = builtin ArrayStream (exprs_of es)
builtin_form b.BytesOfStream n es = builtin BytesOfStream (exprs_of es)
builtin_form b.Empty n es = builtin Empty (exprs_of es)
builtin_form b.Put n es = builtin InsertInto (exprs_of es)
builtin_form b.Seek n es = builtin LookupIn (exprs_of es)

-- the conditions of a name that asks one or none
abbrev pub conditions_of : Option Cond → List Condition
conditions_of None = []
conditions_of (Some c) = cond_view c ∷ []
