-- One part more of a list, as it is found.
use Rattle.std.proofs.Common.{◌≡◌, ℕ, suc, zero, ◌+◌, ◌<◌, ◌≤◌, List, [], ◌∷◌, ◌++◌, length, drop, get_or, refl, ap, ◌∙◌, drop-cons, add-one, arith}
use Rattle.std.proofs.lemmas.List.{drop_all}
use Rattle.ddl_tree.specs.declared.name.Name.{Name}
use Rattle.ddl_tree.specs.declared.expr.Expr.{Expr}
use Rattle.ddl_tree.specs.declared.expr.Binding.{Binding}
use Rattle.ddl_tree.specs.declared.expr.Item.{Item}
use Rattle.ddl_tree.specs.declared.expr.Alt.{Alt}
use Rattle.ddl_tree.specs.View.{view, exprs_view, binding_view, bindings_view, item_view, items_view, alt_view, alts_view}
use Rattle.ddl_kinds.specs.declared.want.Want.{Want}
use Rattle.ddl_uses.specs.Bindings.{Site}
use Rattle.ddl_kinds.specs.Findings.{again}
use Rattle.ddl_uses.specs.Forms.{arguments, bindings, branches, count, each, findings, item_findings, items, once, once_again}
use Rattle.ddl_kinds.specs.Kinds.{next_want, first_want, free_want}
use Rattle.ddl_uses.specs.Scope.{Scope, after_item, after_pattern}

-- what is left of a list begins with the element there
next : {X : Type 0} (xs : List X) (i : ℕ) (x : X) → x ≡ get_or xs i x → i < length xs → drop i xs ≡ x ∷ drop (i + 1) xs
next xs i x e h = rw (add-one, drop-cons xs i x, ← e) refl

-- ---- expressions

pub next_expr : (site : Site) (xs : List Expr) (i : ℕ) (x : Expr) (want : Want) (scope : Scope) → x ≡ get_or xs i x → i < length xs →
    each site (exprs_view (drop i xs)) want scope ≡ findings site (view x) want scope ++ each site (exprs_view (drop (i + 1) xs)) want scope
next_expr site xs i x want scope e h = ap (λ ys. each site (exprs_view ys) want scope) (next xs i x e h)

pub no_expr : (site : Site) (xs : List Expr) (i : ℕ) (want : Want) (scope : Scope) → length xs ≤ i → each site (exprs_view (drop i xs)) want scope ≡ []
no_expr site xs i want scope h = ap (λ ys. each site (exprs_view ys) want scope) (drop_all i xs h)

-- ---- arguments

pub count_length : (xs : List Expr) → count (exprs_view xs) ≡ length xs
count_length [] = refl
count_length (x ∷ xs) = let h : count (exprs_view xs) ≡ length xs = count_length xs in omega arith

drop_next : {X : Type 0} (i : ℕ) (ws : List X) → drop 1 (drop i ws) ≡ drop (i + 1) ws
drop_next zero [] = refl
drop_next zero (w ∷ ws) = refl
drop_next (suc i) [] = rw add-one refl
drop_next (suc i) (w ∷ ws) = rw add-one (drop_next i ws ∙ ap (λ k. drop k ws) (add-one i))

pub next_argument : (site : Site) (xs : List Expr) (i : ℕ) (x : Expr) (ws : List Want) (scope : Scope) → x ≡ get_or xs i x → i < length xs →
    arguments site (exprs_view (drop i xs)) (drop i ws) scope ≡ findings site (view x) (next_want (drop i ws)) scope
    ++ arguments site (exprs_view (drop (i + 1) xs)) (drop (i + 1) ws) scope
next_argument site xs i x ws scope e h =
    ap (λ ys. arguments site (exprs_view ys) (drop i ws) scope) (next xs i x e h)
    ∙ ap (λ vs. findings site (view x) (next_want (drop i ws)) scope ++ arguments site (exprs_view (drop (i + 1) xs)) vs scope) (drop_next i ws)

pub no_argument : (site : Site) (xs : List Expr) (i : ℕ) (ws : List Want) (scope : Scope) → length xs ≤ i
    → arguments site (exprs_view (drop i xs)) ws scope ≡ []
no_argument site xs i ws scope h = ap (λ ys. arguments site (exprs_view ys) ws scope) (drop_all i xs h)

-- ---- fields and tags

pub next_binding : (site : Site) (xs : List Binding) (i : ℕ) (x : Binding) (want : Want) (before : List Name) (scope : Scope) → x ≡ get_or xs i x
    → i < length xs →
    bindings site (bindings_view (drop i xs)) want before scope
    ≡ again before (binding_view x).name ++ findings site (binding_view x).value want scope
    ++ bindings site (bindings_view (drop (i + 1) xs)) want (before ++ (binding_view x).name ∷ []) scope
next_binding site xs i x want before scope e h = ap (λ ys. bindings site (bindings_view ys) want before scope) (next xs i x e h)

pub no_binding : (site : Site) (xs : List Binding) (i : ℕ) (want : Want) (before : List Name) (scope : Scope) → length xs ≤ i →
    bindings site (bindings_view (drop i xs)) want before scope ≡ []
no_binding site xs i want before scope h = ap (λ ys. bindings site (bindings_view ys) want before scope) (drop_all i xs h)

-- ---- items

pub next_item : (site : Site) (xs : List Item) (i : ℕ) (x : Item) (before : List Name) (scope : Scope) → x ≡ get_or xs i x → i < length xs →
    items site (items_view (drop i xs)) before scope
    ≡ once_again before (once (item_view x)) ++ item_findings site (item_view x) scope
    ++ items site (items_view (drop (i + 1) xs)) (before ++ once (item_view x)) (after_item (item_view x) scope)
next_item site xs i x before scope e h = ap (λ ys. items site (items_view ys) before scope) (next xs i x e h)

pub no_item : (site : Site) (xs : List Item) (i : ℕ) (before : List Name) (scope : Scope) → length xs ≤ i
    → items site (items_view (drop i xs)) before scope ≡ []
no_item site xs i before scope h = ap (λ ys. items site (items_view ys) before scope) (drop_all i xs h)

-- ---- branches

pub next_branch : (site : Site) (xs : List Alt) (i : ℕ) (x : Alt) (want : Want) (scope : Scope) → x ≡ get_or xs i x → i < length xs →
    branches site (alts_view (drop i xs)) want scope
    ≡ findings site (alt_view x).body want (after_pattern (alt_view x).pattern scope) ++ branches site (alts_view (drop (i + 1) xs)) want scope
next_branch site xs i x want scope e h = ap (λ ys. branches site (alts_view ys) want scope) (next xs i x e h)

pub no_branch : (site : Site) (xs : List Alt) (i : ℕ) (want : Want) (scope : Scope) → length xs ≤ i → branches site (alts_view (drop i xs)) want scope ≡ []
no_branch site xs i want scope h = ap (λ ys. branches site (alts_view ys) want scope) (drop_all i xs h)

pub ruleset walking = (next_expr, no_expr, count_length, next_argument, no_argument, next_binding, no_binding, next_item, no_item, next_branch, no_branch)
