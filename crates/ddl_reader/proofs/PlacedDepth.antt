-- Where a tree stands says nothing of how deep it is.
use Rattle.std.proofs.Common.{◌≡◌, max, List, [], ◌∷◌, Option, Some, None, refl, arith}
use Rattle.ddl_base.specs.declared.span.Span.{Span}
use Rattle.ddl_tree.specs.TypeTree as ty
use Rattle.ddl_tree.specs.ClassTree as cls
use Rattle.ddl_tree.specs.ExprTree as ex
use Rattle.ddl_tree.specs.ModuleTree as mo
use Rattle.ddl_tree.specs.Depth.{type_depth, typed_depth, class_depth, depth, bound_depth, alternatives_depth, item_depth, exprs_depth, bindings_depth}
use Rattle.ddl_tree.specs.Depth.{items_depth, alts_depth, param_depth, params_depth, part_depth, parts_depth, bits_depth, cons_depth, decl_depth, decls_depth}
use Rattle.ddl_tree.specs.Depth.{module_depth}
use Rattle.ddl_tree.specs.Spans.{Places, nowhere, after, place_type, place_typed, place_class, place_pattern, place_names, place, place_bound}
use Rattle.ddl_tree.specs.Spans.{place_alternatives, place_item, place_exprs, place_row, place_more_exprs, place_bindings, place_more_bindings, place_items}
use Rattle.ddl_tree.specs.Spans.{place_more_items, place_alts, place_more_alts}
use Rattle.ddl_tree.specs.SpansModule.{place_param, place_params, place_part, place_more_parts, place_parts, place_bits, place_con, place_more_cons, place_cons}
use Rattle.ddl_tree.specs.SpansModule.{place_decl, place_decls, place_imports, placed}

type_placed : (t : ty.TypeExpr) (p : Places) → type_depth (place_type t p).0 ≡ type_depth t
type_placed (ty.Maybe t s) p = let x = type_placed t (after p) in omega arith
type_placed (ty.ArrayOf t s) p = let x = type_placed t (after p) in omega arith
type_placed (ty.MapOf t u s) p = let x = type_placed t (after p) in let y = type_placed u (after (place_type t (after p)).1) in omega arith
type_placed (ty.Within t s) p = let x = type_placed t (after p) in omega arith
type_placed _ p = refl

typed_placed : (t : Option ty.TypeExpr) (p : Places) → typed_depth (place_typed t p).0 ≡ typed_depth t
typed_placed None p = refl
typed_placed (Some t) p = type_placed t (after p)

class_placed : (c : cls.Cls) (p : Places) → class_depth (place_class c p).0 ≡ class_depth c
class_placed (cls.Union a b s) p = let x = class_placed a p in let y = class_placed b (after (place_class a p).1) in omega arith
class_placed (cls.Other c s) p = let x = class_placed c (after p) in omega arith
class_placed (cls.Grouped c s) p = let x = class_placed c (after p) in omega arith
class_placed (cls.Set c s) p = let x = class_placed c (after p) in omega arith
class_placed _ p = refl

mutual
  expr_placed : (a : ex.Expr) (p : Places) → depth (place a p).0 ≡ depth a
  expr_placed (ex.Infix o a b s) p = let x = expr_placed a p in let y = expr_placed b (after (place a p).1) in omega arith
  expr_placed (ex.Pure a s) p = let x = expr_placed a (after p) in omega arith
  expr_placed (ex.If c a b s) p =
      let z = place c (after p) in
      let x = place a (after z.1) in
      let f = expr_placed c (after p) in
      let g = expr_placed a (after z.1) in
      let h = expr_placed b (after x.1) in
      omega arith
  expr_placed (ex.For n i ns l b s) p =
      let x = place i (after (after (after (after p)))) in
      let m = place_names ns (after x.1) in
      let y = place l m.1 in
      let f = expr_placed i (after (after (after (after p)))) in
      let g = expr_placed l m.1 in
      let h = expr_placed b (after y.1) in
      omega arith
  expr_placed (ex.Map ns l b s) p =
      let m = place_names ns (after (after p)) in
      let y = place l m.1 in
      let f = expr_placed l m.1 in
      let g = expr_placed b (after y.1) in
      omega arith
  expr_placed (ex.Is a f s) p = let x = expr_placed a p in omega arith
  expr_placed (ex.Prefix o a s) p = let x = expr_placed a (after p) in omega arith
  expr_placed (ex.Cast o a t s) p = let x = expr_placed a p in let y = type_placed t (after (place a p).1) in omega arith
  expr_placed (ex.CallGrammar n xs s) p = let x = exprs_placed xs (after p) in omega arith
  expr_placed (ex.CallValue n xs s) p = let x = exprs_placed xs (after p) in omega arith
  expr_placed (ex.Just a s) p = let x = expr_placed a (after p) in omega arith
  expr_placed (ex.Many o n a s) p = let x = bound_placed n (after p) in let y = expr_placed a (place_bound n (after p)).1 in omega arith
  expr_placed (ex.Optional o a s) p = let x = expr_placed a (after p) in omega arith
  expr_placed (ex.Select a n s) p = let x = expr_placed a p in omega arith
  expr_placed (ex.Num n) p = refl
  expr_placed (ex.Char b s) p = refl
  expr_placed (ex.Text bs s) p = refl
  expr_placed (ex.True s) p = refl
  expr_placed (ex.False s) p = refl
  expr_placed (ex.Nothing s) p = refl
  expr_placed (ex.Upper n) p = refl
  expr_placed (ex.Lower n) p = refl
  expr_placed (ex.Class n) p = refl
  expr_placed (ex.Set c s) p = let x = class_placed c (after p) in omega arith
  expr_placed (ex.Paren a t s) p = let x = expr_placed a (after p) in let y = typed_placed t (place a (after p)).1 in omega arith
  expr_placed (ex.Array xs s) p = let x = row_placed xs (after p) in omega arith
  expr_placed (ex.RecordOf bs s) p = let x = bindings_placed bs (after p) in omega arith
  expr_placed (ex.Tag n s) p = refl
  expr_placed (ex.TagWith n a s) p = let x = expr_placed a (after (after (after p))) in omega arith
  expr_placed (ex.Block is s) p = let x = items_placed is (after (after p)) in omega arith
  expr_placed (ex.Choice o xs s) p = let x = alternatives_placed xs (after (after p)) in omega arith
  expr_placed (ex.Case a xs s) p = let x = expr_placed a (after p) in let y = alts_placed xs (after (after (place a (after p)).1)) in omega arith

  bound_placed : (n : ex.Bound) (p : Places) → bound_depth (place_bound n p).0 ≡ bound_depth n
  bound_placed ex.Free p = refl
  bound_placed (ex.Exactly a) p = expr_placed a p
  bound_placed (ex.AtLeast a s) p = expr_placed a (after p)
  bound_placed (ex.AtMost a s) p = expr_placed a (after (after p))
  bound_placed (ex.Between a b s) p = let x = expr_placed a (after p) in let y = expr_placed b (after (place a (after p)).1) in omega arith

  alternatives_placed : (xs : ex.Alternatives) (p : Places) → alternatives_depth (place_alternatives xs p).0 ≡ alternatives_depth xs
  alternatives_placed (ex.WithTags bs) p = bindings_placed bs p
  alternatives_placed (ex.Untagged xs) p = row_placed xs p

  item_placed : (i : ex.Item) (p : Places) → item_depth (place_item i p).0 ≡ item_depth i
  item_placed (ex.Result a s) p = expr_placed a (after (after p))
  item_placed (ex.Let n a s) p = expr_placed a (after (after (after p)))
  item_placed (ex.Field n a s) p = expr_placed a (after (after p))
  item_placed (ex.Plain a) p = expr_placed a p

  exprs_placed : (xs : ex.Exprs) (p : Places) → exprs_depth (place_exprs xs p).0 ≡ exprs_depth xs
  exprs_placed ex.no_exprs p = refl
  exprs_placed (ex.an_expr a xs) p = let x = expr_placed a p in let y = exprs_placed xs (place a p).1 in omega arith

  row_placed : (xs : ex.Exprs) (p : Places) → exprs_depth (place_row xs p).0 ≡ exprs_depth xs
  row_placed ex.no_exprs p = refl
  row_placed (ex.an_expr a xs) p = let x = expr_placed a p in let y = more_exprs_placed xs (place a p).1 in omega arith

  more_exprs_placed : (xs : ex.Exprs) (p : Places) → exprs_depth (place_more_exprs xs p).0 ≡ exprs_depth xs
  more_exprs_placed ex.no_exprs p = refl
  more_exprs_placed (ex.an_expr a xs) p = let x = expr_placed a (after p) in let y = more_exprs_placed xs (place a (after p)).1 in omega arith

  bindings_placed : (bs : ex.Bindings) (p : Places) → bindings_depth (place_bindings bs p).0 ≡ bindings_depth bs
  bindings_placed ex.no_bindings p = refl
  bindings_placed (ex.a_binding n a s bs) p = let x = expr_placed a (after (after p)) in let y = more_bindings_placed bs (place a (after (after p))).1
      in omega arith

  more_bindings_placed : (bs : ex.Bindings) (p : Places) → bindings_depth (place_more_bindings bs p).0 ≡ bindings_depth bs
  more_bindings_placed ex.no_bindings p = refl
  more_bindings_placed (ex.a_binding n a s bs) p = let x = expr_placed a (after (after (after p))) in let y =
      more_bindings_placed bs (place a (after (after (after p)))).1 in omega arith

  items_placed : (is : ex.Items) (p : Places) → items_depth (place_items is p).0 ≡ items_depth is
  items_placed ex.no_items p = refl
  items_placed (ex.an_item i is) p = let x = item_placed i p in let y = more_items_placed is (place_item i p).1 in omega arith

  more_items_placed : (is : ex.Items) (p : Places) → items_depth (place_more_items is p).0 ≡ items_depth is
  more_items_placed ex.no_items p = refl
  more_items_placed (ex.an_item i is) p = let x = item_placed i (after p) in let y = more_items_placed is (place_item i (after p)).1 in omega arith

  alts_placed : (xs : ex.Alts) (p : Places) → alts_depth (place_alts xs p).0 ≡ alts_depth xs
  alts_placed ex.no_alts p = refl
  alts_placed (ex.an_alt f a s xs) p =
      let m = place_pattern f p in
      let x = expr_placed a (after m.1) in
      let y = more_alts_placed xs (place a (after m.1)).1 in
      omega arith

  more_alts_placed : (xs : ex.Alts) (p : Places) → alts_depth (place_more_alts xs p).0 ≡ alts_depth xs
  more_alts_placed ex.no_alts p = refl
  more_alts_placed (ex.an_alt f a s xs) p =
      let m = place_pattern f (after p) in
      let x = expr_placed a (after m.1) in
      let y = more_alts_placed xs (place a (after m.1)).1 in
      omega arith

-- ---- the module

param_placed : (a : mo.Param) (p : Places) → param_depth (place_param a p).0 ≡ param_depth a
param_placed (mo.TypedUpper n t s) p = type_placed t (after (after (after p)))
param_placed (mo.TypedLower n t s) p = type_placed t (after (after (after p)))
param_placed _ p = refl

params_placed : (ps : List mo.Param) (p : Places) → params_depth (place_params ps p).0 ≡ params_depth ps
params_placed [] p = refl
params_placed (a ∷ ps) p = let x = param_placed a p in let y = params_placed ps (place_param a p).1 in omega arith

part_placed : (a : mo.Part) (p : Places) → part_depth (place_part a p).0 ≡ part_depth a
part_placed (mo.Fixed n) p = refl
part_placed (mo.Named n t s) p = type_placed t (after (after p))
part_placed (mo.Unnamed t s) p = type_placed t (after (after p))

more_parts_placed : (ps : List mo.Part) (p : Places) → parts_depth (place_more_parts ps p).0 ≡ parts_depth ps
more_parts_placed [] p = refl
more_parts_placed (a ∷ ps) p = let x = part_placed a (after p) in let y = more_parts_placed ps (place_part a (after p)).1 in omega arith

parts_placed : (ps : List mo.Part) (p : Places) → parts_depth (place_parts ps p).0 ≡ parts_depth ps
parts_placed [] p = refl
parts_placed (a ∷ ps) p = let x = part_placed a p in let y = more_parts_placed ps (place_part a p).1 in omega arith

bits_placed : (b : mo.Bits) (p : Places) → bits_depth (place_bits b p).0 ≡ bits_depth b
bits_placed (mo.Exactly n) p = refl
bits_placed (mo.Parts ps s) p = parts_placed ps (after p)

con_placed : (c : mo.Con) (p : Places) → bits_depth (place_con c p).0.bits ≡ bits_depth c.bits
con_placed c p = bits_placed c.bits (after (after p))

more_cons_placed : (cs : List mo.Con) (p : Places) → cons_depth (place_more_cons cs p).0 ≡ cons_depth cs
more_cons_placed [] p = refl
more_cons_placed (c ∷ cs) p = let x = con_placed c (after p) in let y = more_cons_placed cs (place_con c (after p)).1 in omega arith

cons_placed : (cs : List mo.Con) (p : Places) → cons_depth (place_cons cs p).0 ≡ cons_depth cs
cons_placed [] p = refl
cons_placed (c ∷ cs) p = let x = con_placed c p in let y = more_cons_placed cs (place_con c p).1 in omega arith

body_placed : (ps : List mo.Param) (t : Option ty.TypeExpr) (e : ex.Expr) (p : Places)
    → let x = place_params ps p in
    let y = place_typed t x.1 in
    max (params_depth x.0) (max (typed_depth y.0) (depth (place e (after y.1)).0)) ≡ max (params_depth ps) (max (typed_depth t) (depth e))
body_placed ps t e p =
    let x = place_params ps p in
    let y = place_typed t x.1 in
    let f = params_placed ps p in
    let g = typed_placed t x.1 in
    let h = expr_placed e (after y.1) in
    omega arith

decl_placed : (d : mo.Decl) (p : Places) → decl_depth (place_decl d p).0 ≡ decl_depth d
decl_placed (mo.Grammar n ps t e s) p = body_placed ps t e (after (after p))
decl_placed (mo.Value n ps t e s) p = body_placed ps t e (after (after p))
decl_placed (mo.ClassDef n c s) p = class_placed c (after (after (after p)))
decl_placed (mo.BitsDef n b s) p = bits_placed b (after (after (after p)))
decl_placed (mo.BitsUnion n cs s) p = cons_placed cs (after (after (after (after p))))

decls_placed : (ds : List mo.Decl) (p : Places) → decls_depth (place_decls ds p).0 ≡ decls_depth ds
decls_placed [] p = refl
decls_placed (d ∷ ds) p = let x = decl_placed d p in let y = decls_placed ds (place_decl d p).1 in omega arith

pub depth_placed : (a : mo.Module) (spans : List Span) → module_depth (placed a spans) ≡ module_depth a
depth_placed a spans = decls_placed a.decls (place_imports a.imports (record { last = nowhere; rest = spans })).1
