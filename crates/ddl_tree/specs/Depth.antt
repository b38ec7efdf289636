-- How many expressions, classes and types are nested in one another, the outermost counted.
-- A production that only hands on its one part makes no form, and so adds nothing.
use Rattle.std.specs.Prelude.{ℕ, ◌+◌, max, List, [], ◌∷◌, Option, Some, None}
use Rattle.ddl_tree.specs.TypeTree as ty
use Rattle.ddl_tree.specs.ClassTree as cls
use Rattle.ddl_tree.specs.ExprTree as ex
use Rattle.ddl_tree.specs.ModuleTree as mo

abbrev pub type_depth : ty.TypeExpr → ℕ
type_depth (ty.Maybe t s) = 1 + type_depth t
type_depth (ty.ArrayOf t s) = 1 + type_depth t
type_depth (ty.MapOf t u s) = 1 + max (type_depth t) (type_depth u)
type_depth (ty.Within t s) = 1 + type_depth t
type_depth _ = 1

abbrev pub typed_depth : Option ty.TypeExpr → ℕ
typed_depth None = 0
typed_depth (Some t) = type_depth t

abbrev pub class_depth : cls.Cls → ℕ
class_depth (cls.Union a b s) = 1 + max (class_depth a) (class_depth b)
class_depth (cls.Other c s) = 1 + class_depth c
class_depth (cls.Grouped c s) = 1 + class_depth c
class_depth (cls.Set c s) = 1 + class_depth c
class_depth _ = 1

abbrev mutual
  pub depth : ex.Expr → ℕ
  depth (ex.Infix o a b s) = 1 + max (depth a) (depth b)
  depth (ex.Pure a s) = 1 + depth a
  depth (ex.If c a b s) = 1 + max (depth c) (max (depth a) (depth b))
  depth (ex.For x i ns l b s) = 1 + max (depth i) (max (depth l) (depth b))
  depth (ex.Map ns l b s) = 1 + max (depth l) (depth b)
  depth (ex.Is a p s) = 1 + depth a
  depth (ex.Prefix o a s) = 1 + depth a
  depth (ex.Cast o a t s) = 1 + max (depth a) (type_depth t)
  depth (ex.CallGrammar x xs s) = 1 + exprs_depth xs
  depth (ex.CallValue x xs s) = 1 + exprs_depth xs
  depth (ex.Just a s) = 1 + depth a
  depth (ex.Many o n a s) = 1 + max (bound_depth n) (depth a)
  depth (ex.Optional o a s) = 1 + depth a
  depth (ex.Select a x s) = 1 + depth a
  depth (ex.Set c s) = 1 + class_depth c
  depth (ex.Paren a t s) = 1 + max (depth a) (typed_depth t)
  depth (ex.Array xs s) = 1 + exprs_depth xs
  depth (ex.RecordOf bs s) = 1 + bindings_depth bs
  depth (ex.TagWith x a s) = 1 + depth a
  depth (ex.Block is s) = 1 + items_depth is
  depth (ex.Choice o xs s) = 1 + alternatives_depth xs
  depth (ex.Case a xs s) = 1 + max (depth a) (alts_depth xs)
  depth _ = 1

  pub bound_depth : ex.Bound → ℕ
  bound_depth ex.Free = 0
  bound_depth (ex.Exactly a) = depth a
  bound_depth (ex.AtLeast a s) = depth a
  bound_depth (ex.AtMost a s) = depth a
  bound_depth (ex.Between a b s) = max (depth a) (depth b)

  pub alternatives_depth : ex.Alternatives → ℕ
  alternatives_depth (ex.WithTags bs) = bindings_depth bs
  alternatives_depth (ex.Untagged xs) = exprs_depth xs

  pub item_depth : ex.Item → ℕ
  item_depth (ex.Result a s) = depth a
  item_depth (ex.Let x a s) = depth a
  item_depth (ex.Field x a s) = depth a
  item_depth (ex.Plain a) = depth a

  pub exprs_depth : ex.Exprs → ℕ
  exprs_depth ex.no_exprs = 0
  exprs_depth (ex.an_expr a xs) = max (depth a) (exprs_depth xs)

  pub bindings_depth : ex.Bindings → ℕ
  bindings_depth ex.no_bindings = 0
  bindings_depth (ex.a_binding x a s bs) = max (depth a) (bindings_depth bs)

  pub items_depth : ex.Items → ℕ
  items_depth ex.no_items = 0
  items_depth (ex.an_item i is) = max (item_depth i) (items_depth is)

  pub alts_depth : ex.Alts → ℕ
  alts_depth ex.no_alts = 0
  alts_depth (ex.an_alt p a s xs) = max (depth a) (alts_depth xs)

abbrev pub param_depth : mo.Param → ℕ
param_depth (mo.TypedUpper x t s) = type_depth t
param_depth (mo.TypedLower x t s) = type_depth t
param_depth _ = 0

abbrev pub params_depth : List mo.Param → ℕ
params_depth [] = 0
params_depth (p ∷ ps) = max (param_depth p) (params_depth ps)

abbrev pub part_depth : mo.Part → ℕ
part_depth (mo.Fixed n) = 0
part_depth (mo.Named x t s) = type_depth t
part_depth (mo.Unnamed t s) = type_depth t

abbrev pub parts_depth : List mo.Part → ℕ
parts_depth [] = 0
parts_depth (p ∷ ps) = max (part_depth p) (parts_depth ps)

abbrev pub bits_depth : mo.Bits → ℕ
bits_depth (mo.Exactly n) = 0
bits_depth (mo.Parts ps s) = parts_depth ps

abbrev pub cons_depth : List mo.Con → ℕ
cons_depth [] = 0
cons_depth (c ∷ cs) = max (bits_depth c.bits) (cons_depth cs)

abbrev pub decl_depth : mo.Decl → ℕ
decl_depth (mo.Grammar x ps t e s) = max (params_depth ps) (max (typed_depth t) (depth e))
decl_depth (mo.Value x ps t e s) = max (params_depth ps) (max (typed_depth t) (depth e))
decl_depth (mo.ClassDef x c s) = class_depth c
decl_depth (mo.BitsDef x b s) = bits_depth b
decl_depth (mo.BitsUnion x cs s) = cons_depth cs

abbrev pub decls_depth : List mo.Decl → ℕ
decls_depth [] = 0
decls_depth (d ∷ ds) = max (decl_depth d) (decls_depth ds)

abbrev pub module_depth : mo.Module → ℕ
module_depth x = decls_depth x.decls
