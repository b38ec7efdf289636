-- The elements of lists, and lists of one element.
use Rattle.std.proofs.Common.{◌≡◌, ℕ, ◌+◌, ◌<◌, ◌≤◌, List, [], ◌∷◌, length, map, drop, get_or, Option, Some, None, refl, ap, sym, ◌∙◌, drop-cons, add-one}
use Rattle.std.proofs.Common.{arith}
use Rattle.std.specs.Prelude.{◌≢◌}
use Rattle.ddl_base.specs.declared.span.Span.{Span}
use Rattle.ddl_tree.specs.declared.name.Name.{Name}
use Rattle.ddl_tree.specs.declared.module.Import.{Import}
use Rattle.ddl_tree.specs.declared.decl.Decl.{Decl}
use Rattle.ddl_tree.specs.declared.decl.Param.{Param}
use Rattle.ddl_tree.specs.declared.expr.Expr.{Expr}
use Rattle.ddl_tree.specs.TypeTree.{TypeExpr}
use Rattle.ddl_tree.specs.ModuleTree as mo
use Rattle.ddl_tree.specs.ViewModule.{decl_view, param_view}
use Rattle.ddl_simple.specs.Form.{match_of}
use Rattle.ddl_simple.specs.Grammars.{call}
use Rattle.ddl_simple.specs.Modules.{main_of, main_with, specified_by}
use Rattle.std.proofs.lemmas.List.{drop_all}
use Rattle.ddl_tree.specs.ExprTree as ex
use Rattle.ddl_tree.specs.View as tree
use Rattle.ddl_tree.specs.declared.expr.Item.{Item}
use Rattle.ddl_typed.specs.Tree as t
use Rattle.ddl_typed.specs.View as typed
use Rattle.ddl_typed.specs.declared.expr.TItem.{TItem}

pub at_item : (xs : List Item) (k : ℕ) (x : Item) → k < length xs → x ≡ get_or xs k x
    → tree.items_view (drop k xs) ≡ ex.an_item (tree.item_view x) (tree.items_view (drop (k + 1) xs))
at_item xs k x h e = let next : drop k xs ≡ x ∷ drop (k + 1) xs = rw (add-one, drop-cons xs k x, ← e) in ap tree.items_view next

pub no_item : (xs : List Item) (k : ℕ) → length xs ≤ k → tree.items_view (drop k xs) ≡ ex.no_items
no_item xs k h = ap tree.items_view (drop_all k xs h)

pub at_typed : (xs : List TItem) (k : ℕ) (x : TItem) → k < length xs → x ≡ get_or xs k x
    → typed.items_view (drop k xs) ≡ t.item (typed.item_view x) (typed.items_view (drop (k + 1) xs))
at_typed xs k x h e = let next : drop k xs ≡ x ∷ drop (k + 1) xs = rw (add-one, drop-cons xs k x, ← e) in ap typed.items_view next

pub no_typed : (xs : List TItem) (k : ℕ) → length xs ≤ k → typed.items_view (drop k xs) ≡ t.no_items
no_typed xs k h = ap typed.items_view (drop_all k xs h)

-- ---- lists of one element

pub one_argument : (x : Name) (xs : List Expr) (y : Expr) (s : Span) → length xs ≡ 1 → y ≡ get_or xs 0 y
    → call x (tree.exprs_view xs) s ≡ match_of x (tree.view y) s
one_argument x [] y s h e = absurd (omega arith)
one_argument x (a ∷ []) y s h e = ap (λ z. match_of x (tree.view z) s) (sym e)
one_argument x (a ∷ b ∷ xs) y s h e = absurd (omega arith)

pub other_arguments : (x : Name) (xs : List Expr) (s : Span) → length xs ≢ 1 → call x (tree.exprs_view xs) s ≡ None
other_arguments x [] s h = refl
other_arguments x (a ∷ []) s h = absurd (h refl)
other_arguments x (a ∷ b ∷ xs) s h = refl

pub ruleset arguments = (one_argument, other_arguments)

pub one_declaration : (is : List Import) (ds : List Decl) (d : Decl) → length is ≡ 0 → length ds ≡ 1 → d ≡ get_or ds 0 d
    → specified_by is (map decl_view ds) ≡ main_of (decl_view d)
one_declaration [] [] d i h e = absurd (omega arith)
one_declaration [] (a ∷ []) d i h e = ap (λ z. main_of (decl_view z)) (sym e)
one_declaration [] (a ∷ b ∷ ds) d i h e = absurd (omega arith)
one_declaration (a ∷ is) ds d i h e = absurd (omega arith)

pub with_imports : (is : List Import) (ds : List mo.Decl) → 0 < length is → specified_by is ds ≡ None
with_imports [] ds h = absurd (omega arith)
with_imports (i ∷ is) ds h = refl

pub other_declarations : (is : List Import) (ds : List Decl) → length ds ≢ 1 → specified_by is (map decl_view ds) ≡ None
other_declarations [] [] h = refl
other_declarations [] (a ∷ []) h = absurd (h refl)
other_declarations [] (a ∷ b ∷ ds) h = refl
other_declarations (i ∷ is) ds h = refl

pub with_parameters : (x : Name) (ps : List Param) (t : Option TypeExpr) (e : ex.Expr) (s : Span) → 0 < length ps
    → main_of (mo.Grammar x (map param_view ps) t e s) ≡ None
with_parameters x [] t e s h = absurd (omega arith)
with_parameters x (p ∷ ps) t e s h = refl

pub without_parameters : (x : Name) (ps : List Param) (e : ex.Expr) (s : Span) → length ps ≡ 0
    → main_of (mo.Grammar x (map param_view ps) None e s) ≡ main_with x e
without_parameters x [] e s h = refl
without_parameters x (p ∷ ps) e s h = absurd (omega arith)

pub with_type : (x : Name) (ps : List mo.Param) (t : TypeExpr) (e : ex.Expr) (s : Span) → main_of (mo.Grammar x ps (Some t) e s) ≡ None
with_type x [] t e s = refl
with_type x (p ∷ ps) t e s = refl

pub ruleset declarations = (one_declaration, with_imports, other_declarations, with_parameters, without_parameters, with_type)
