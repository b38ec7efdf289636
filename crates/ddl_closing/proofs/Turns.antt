-- What is left of a list of parts from a place on: nothing, or the part there and what is left behind it.
use Rattle.std.proofs.Common.{◌≡◌, ℕ, ◌+◌, ◌<◌, ◌≤◌, List, ◌∷◌, length, drop, get_or, refl, ap, add-one, drop-cons}
use Rattle.std.proofs.lemmas.List.{drop_all}
use Rattle.ddl_typed.specs.declared.expr.TArgument.{TArgument}
use Rattle.ddl_typed.specs.declared.expr.TItem.{TItem}
use Rattle.ddl_typed.specs.declared.expr.TAlternative.{TAlternative}
use Rattle.ddl_typed.specs.declared.expr.TCase.{TCase}
use Rattle.ddl_typed.specs.declared.expr.TExpr.{TExpr}
use Rattle.ddl_typed.specs.declared.expr.TField.{TField}
use Rattle.ddl_typed.specs.Tree as t
use Rattle.ddl_typed.specs.View.{view, field_view, case_view, alternative_view, argument_view, item_view, with_alternative, with_argument}
use Rattle.ddl_typed.specs.View.{exprs_view, fields_view, cases_view, alts_view, args_view, items_view}

next : {X : Type 0} (xs : List X) (i : ℕ) (x : X) → x ≡ get_or xs i x → i < length xs → drop i xs ≡ x ∷ drop (i + 1) xs
next xs i x e h = rw (add-one, drop-cons xs i x, ← e) refl

pub next_value : (xs : List TExpr) (i : ℕ) (x : TExpr) → x ≡ get_or xs i x → i < length xs → exprs_view (drop i xs)
    ≡ t.more (view x) (exprs_view (drop (i + 1) xs))
next_value xs i x e h = ap exprs_view (next xs i x e h)

pub no_value : (xs : List TExpr) (i : ℕ) → length xs ≤ i → exprs_view (drop i xs) ≡ t.no_exprs
no_value xs i h = ap exprs_view (drop_all i xs h)

pub next_field : (xs : List TField) (i : ℕ) (x : TField) → x ≡ get_or xs i x → i < length xs → fields_view (drop i xs)
    ≡ t.named (field_view x).0 (field_view x).1 (fields_view (drop (i + 1) xs))
next_field xs i x e h = ap fields_view (next xs i x e h)

pub no_field : (xs : List TField) (i : ℕ) → length xs ≤ i → fields_view (drop i xs) ≡ t.no_named
no_field xs i h = ap fields_view (drop_all i xs h)

pub next_case : (xs : List TCase) (i : ℕ) (x : TCase) → x ≡ get_or xs i x → i < length xs → cases_view (drop i xs)
    ≡ t.when (case_view x).0 (case_view x).1 (cases_view (drop (i + 1) xs))
next_case xs i x e h = ap cases_view (next xs i x e h)

pub no_case : (xs : List TCase) (i : ℕ) → length xs ≤ i → cases_view (drop i xs) ≡ t.no_cases
no_case xs i h = ap cases_view (drop_all i xs h)

pub next_alternative_there : (xs : List TAlternative) (i : ℕ) (x : TAlternative) → x ≡ get_or xs i x → i < length xs → alts_view (drop i xs)
    ≡ with_alternative (alternative_view x).0 (alternative_view x).1 (alts_view (drop (i + 1) xs))
next_alternative_there xs i x e h = ap alts_view (next xs i x e h)

pub no_alternative : (xs : List TAlternative) (i : ℕ) → length xs ≤ i → alts_view (drop i xs) ≡ t.no_alts
no_alternative xs i h = ap alts_view (drop_all i xs h)

pub next_argument_there : (xs : List TArgument) (i : ℕ) (x : TArgument) → x ≡ get_or xs i x → i < length xs → args_view (drop i xs)
    ≡ with_argument (argument_view x) (args_view (drop (i + 1) xs))
next_argument_there xs i x e h = ap args_view (next xs i x e h)

pub no_argument : (xs : List TArgument) (i : ℕ) → length xs ≤ i → args_view (drop i xs) ≡ t.no_args
no_argument xs i h = ap args_view (drop_all i xs h)

pub next_item : (xs : List TItem) (i : ℕ) (x : TItem) → x ≡ get_or xs i x → i < length xs → items_view (drop i xs)
    ≡ t.item (item_view x) (items_view (drop (i + 1) xs))
next_item xs i x e h = ap items_view (next xs i x e h)

pub no_item : (xs : List TItem) (i : ℕ) → length xs ≤ i → items_view (drop i xs) ≡ t.no_items
no_item xs i h = ap items_view (drop_all i xs h)

pub ruleset turns = (next_value, no_value, next_field, no_field, next_case, no_case, no_alternative, no_argument, next_item, no_item)
