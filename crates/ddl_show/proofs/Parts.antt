-- One part more of a list, as it is printed.
use Rattle.std.proofs.Common.{◌≡◌, ℕ, ◌+◌, ◌<◌, ◌≤◌, List, ◌∷◌, length, drop, get_or, ap}
use Rattle.std.proofs.lemmas.List.{drop_all}
use Rattle.ddl_token.specs.declared.token.Tok.{Tok}
use Rattle.ddl_token.specs.declared.token.Tok.TheVariants as k
use Rattle.ddl_token.specs.declared.mark.Mark.{Mark}
use Rattle.ddl_token.specs.declared.mark.Mark.TheVariants as m
use Rattle.ddl_tree.specs.declared.expr.Expr.{Expr}
use Rattle.ddl_tree.specs.declared.expr.Binding.{Binding}
use Rattle.ddl_tree.specs.declared.expr.Item.{Item}
use Rattle.ddl_tree.specs.declared.expr.Alt.{Alt}
use Rattle.ddl_tree.specs.View.{view, exprs_view, binding_view, bindings_view, item_view, items_view, alt_view, alts_view}
use Rattle.ddl_tree.specs.Print.{lower, print, print_args, print_exprs, print_more_exprs, print_bindings, print_more_bindings, print_item, print_items}
use Rattle.ddl_tree.specs.Print.{print_more_items, print_pattern, print_alts, print_more_alts}
use Rattle.ddl_show.proofs.Elements.{none, next}

-- ---- arguments

pub next_arg : (xs : List Expr) (i : ℕ) (x : Expr) (r : List Tok) → x ≡ get_or xs i x → i < length xs →
    print_args (exprs_view (drop i xs)) r ≡ print (view x) (print_args (exprs_view (drop (i + 1) xs)) r)
next_arg xs i x r e h = ap (λ ys. print_args (exprs_view ys) r) (next xs i x e h)

pub no_arg : (xs : List Expr) (i : ℕ) (r : List Tok) → length xs ≤ i → print_args (exprs_view (drop i xs)) r ≡ r
no_arg xs i r h = ap (λ ys. print_args (exprs_view ys) r) (drop_all i xs h)

-- ---- expressions

pub empty_exprs : (xs : List Expr) (by : Mark) (r : List Tok) → length xs ≡ 0 → print_exprs (exprs_view xs) by r ≡ r
empty_exprs xs by r e = ap (λ zs. print_exprs (exprs_view zs) by r) (none xs e)

pub first_expr : (xs : List Expr) (x : Expr) (ys : List Expr) (by : Mark) (r : List Tok) → xs ≡ x ∷ ys →
    print_exprs (exprs_view xs) by r ≡ print (view x) (print_more_exprs (exprs_view ys) by r)
first_expr xs x ys by r e = ap (λ zs. print_exprs (exprs_view zs) by r) e

pub next_expr : (xs : List Expr) (i : ℕ) (x : Expr) (by : Mark) (r : List Tok) → x ≡ get_or xs i x → i < length xs →
    print_more_exprs (exprs_view (drop i xs)) by r ≡ k.Mark by ∷ print (view x) (print_more_exprs (exprs_view (drop (i + 1) xs)) by r)
next_expr xs i x by r e h = ap (λ ys. print_more_exprs (exprs_view ys) by r) (next xs i x e h)

pub no_expr : (xs : List Expr) (i : ℕ) (by : Mark) (r : List Tok) → length xs ≤ i → print_more_exprs (exprs_view (drop i xs)) by r ≡ r
no_expr xs i by r h = ap (λ ys. print_more_exprs (exprs_view ys) by r) (drop_all i xs h)

-- ---- names with values

pub empty_bindings : (xs : List Binding) (by : Mark) (r : List Tok) → length xs ≡ 0 → print_bindings (bindings_view xs) by r ≡ r
empty_bindings xs by r e = ap (λ zs. print_bindings (bindings_view zs) by r) (none xs e)

pub first_binding : (xs : List Binding) (x : Binding) (ys : List Binding) (by : Mark) (r : List Tok) → xs ≡ x ∷ ys →
    print_bindings (bindings_view xs) by r ≡ lower (binding_view x).name ∷ k.Mark m.Equals
    ∷ print (binding_view x).value (print_more_bindings (bindings_view ys) by r)
first_binding xs x ys by r e = ap (λ zs. print_bindings (bindings_view zs) by r) e

pub next_binding : (xs : List Binding) (i : ℕ) (x : Binding) (by : Mark) (r : List Tok) → x ≡ get_or xs i x → i < length xs →
    print_more_bindings (bindings_view (drop i xs)) by r ≡ k.Mark by ∷ lower (binding_view x).name ∷ k.Mark m.Equals
    ∷ print (binding_view x).value (print_more_bindings (bindings_view (drop (i + 1) xs)) by r)
next_binding xs i x by r e h = ap (λ ys. print_more_bindings (bindings_view ys) by r) (next xs i x e h)

pub no_binding : (xs : List Binding) (i : ℕ) (by : Mark) (r : List Tok) → length xs ≤ i → print_more_bindings (bindings_view (drop i xs)) by r ≡ r
no_binding xs i by r h = ap (λ ys. print_more_bindings (bindings_view ys) by r) (drop_all i xs h)

-- ---- parts of a block

pub empty_items : (xs : List Item) (r : List Tok) → length xs ≡ 0 → print_items (items_view xs) r ≡ r
empty_items xs r e = ap (λ zs. print_items (items_view zs) r) (none xs e)

pub first_item : (xs : List Item) (x : Item) (ys : List Item) (r : List Tok) → xs ≡ x ∷ ys →
    print_items (items_view xs) r ≡ print_item (item_view x) (print_more_items (items_view ys) r)
first_item xs x ys r e = ap (λ zs. print_items (items_view zs) r) e

pub next_item : (xs : List Item) (i : ℕ) (x : Item) (r : List Tok) → x ≡ get_or xs i x → i < length xs →
    print_more_items (items_view (drop i xs)) r ≡ k.Mark m.Semicolon ∷ print_item (item_view x) (print_more_items (items_view (drop (i + 1) xs)) r)
next_item xs i x r e h = ap (λ ys. print_more_items (items_view ys) r) (next xs i x e h)

pub no_item : (xs : List Item) (i : ℕ) (r : List Tok) → length xs ≤ i → print_more_items (items_view (drop i xs)) r ≡ r
no_item xs i r h = ap (λ ys. print_more_items (items_view ys) r) (drop_all i xs h)

-- ---- alternatives of a case

pub empty_alts : (xs : List Alt) (r : List Tok) → length xs ≡ 0 → print_alts (alts_view xs) r ≡ r
empty_alts xs r e = ap (λ zs. print_alts (alts_view zs) r) (none xs e)

pub first_alt : (xs : List Alt) (x : Alt) (ys : List Alt) (r : List Tok) → xs ≡ x ∷ ys →
    print_alts (alts_view xs) r ≡ print_pattern (alt_view x).pattern (k.Mark m.Arrow ∷ print (alt_view x).body (print_more_alts (alts_view ys) r))
first_alt xs x ys r e = ap (λ zs. print_alts (alts_view zs) r) e

pub next_alt : (xs : List Alt) (i : ℕ) (x : Alt) (r : List Tok) → x ≡ get_or xs i x → i < length xs →
    print_more_alts (alts_view (drop i xs)) r ≡ k.Mark m.Semicolon
    ∷ print_pattern (alt_view x).pattern (k.Mark m.Arrow ∷ print (alt_view x).body (print_more_alts (alts_view (drop (i + 1) xs)) r))
next_alt xs i x r e h = ap (λ ys. print_more_alts (alts_view ys) r) (next xs i x e h)

pub no_alt : (xs : List Alt) (i : ℕ) (r : List Tok) → length xs ≤ i → print_more_alts (alts_view (drop i xs)) r ≡ r
no_alt xs i r h = ap (λ ys. print_more_alts (alts_view ys) r) (drop_all i xs h)

pub ruleset parts = (
  next_arg,
  no_arg,
  empty_exprs,
  first_expr,
  next_expr,
  no_expr,
  empty_bindings,
  first_binding,
  next_binding,
  no_binding,
  empty_items,
  first_item,
  next_item,
  no_item,
  empty_alts,
  first_alt,
  next_alt,
  no_alt,
)
