-- One part more of a declaration's list, as it is printed.
use Rattle.std.proofs.Common.{◌≡◌, ℕ, ◌+◌, ◌<◌, ◌≤◌, List, ◌∷◌, length, map, drop, get_or, ap}
use Rattle.std.proofs.lemmas.List.{drop_all}
use Rattle.ddl_token.specs.declared.token.Tok.{Tok}
use Rattle.ddl_token.specs.declared.token.Tok.TheVariants as k
use Rattle.ddl_token.specs.declared.mark.Mark.TheVariants as m
use Rattle.ddl_tree.specs.declared.decl.Param.{Param}
use Rattle.ddl_tree.specs.declared.decl.Part.{Part}
use Rattle.ddl_tree.specs.declared.decl.Con.{Con}
use Rattle.ddl_tree.specs.ViewModule.{param_view, part_view, con_view}
use Rattle.ddl_tree.specs.PrintModule.{print_param, print_params, print_part, print_parts, print_more_parts, print_con, print_cons, print_more_cons}
use Rattle.ddl_show.proofs.Elements.{none, next}

-- ---- parameters

pub next_param : (xs : List Param) (i : ℕ) (x : Param) (r : List Tok) → x ≡ get_or xs i x → i < length xs →
    print_params (map param_view (drop i xs)) r ≡ print_param (param_view x) (print_params (map param_view (drop (i + 1) xs)) r)
next_param xs i x r e h = ap (λ ys. print_params (map param_view ys) r) (next xs i x e h)

pub no_param : (xs : List Param) (i : ℕ) (r : List Tok) → length xs ≤ i → print_params (map param_view (drop i xs)) r ≡ r
no_param xs i r h = ap (λ ys. print_params (map param_view ys) r) (drop_all i xs h)

-- ---- parts of a layout

pub empty_parts : (xs : List Part) (r : List Tok) → length xs ≡ 0 → print_parts (map part_view xs) r ≡ r
empty_parts xs r e = ap (λ zs. print_parts (map part_view zs) r) (none xs e)

pub first_part : (xs : List Part) (x : Part) (ys : List Part) (r : List Tok) → xs ≡ x ∷ ys →
    print_parts (map part_view xs) r ≡ print_part (part_view x) (print_more_parts (map part_view ys) r)
first_part xs x ys r e = ap (λ zs. print_parts (map part_view zs) r) e

pub next_part : (xs : List Part) (i : ℕ) (x : Part) (r : List Tok) → x ≡ get_or xs i x → i < length xs →
    print_more_parts (map part_view (drop i xs)) r ≡ k.Mark m.Comma ∷ print_part (part_view x) (print_more_parts (map part_view (drop (i + 1) xs)) r)
next_part xs i x r e h = ap (λ ys. print_more_parts (map part_view ys) r) (next xs i x e h)

pub no_part : (xs : List Part) (i : ℕ) (r : List Tok) → length xs ≤ i → print_more_parts (map part_view (drop i xs)) r ≡ r
no_part xs i r h = ap (λ ys. print_more_parts (map part_view ys) r) (drop_all i xs h)

-- ---- constructors

pub empty_cons : (xs : List Con) (r : List Tok) → length xs ≡ 0 → print_cons (map con_view xs) r ≡ r
empty_cons xs r e = ap (λ zs. print_cons (map con_view zs) r) (none xs e)

pub first_con : (xs : List Con) (x : Con) (ys : List Con) (r : List Tok) → xs ≡ x ∷ ys →
    print_cons (map con_view xs) r ≡ print_con (con_view x) (print_more_cons (map con_view ys) r)
first_con xs x ys r e = ap (λ zs. print_cons (map con_view zs) r) e

pub next_con : (xs : List Con) (i : ℕ) (x : Con) (r : List Tok) → x ≡ get_or xs i x → i < length xs →
    print_more_cons (map con_view (drop i xs)) r ≡ k.Mark m.Semicolon ∷ print_con (con_view x) (print_more_cons (map con_view (drop (i + 1) xs)) r)
next_con xs i x r e h = ap (λ ys. print_more_cons (map con_view ys) r) (next xs i x e h)

pub no_con : (xs : List Con) (i : ℕ) (r : List Tok) → length xs ≤ i → print_more_cons (map con_view (drop i xs)) r ≡ r
no_con xs i r h = ap (λ ys. print_more_cons (map con_view ys) r) (drop_all i xs h)

pub ruleset parts = (next_param, no_param, empty_parts, first_part, next_part, no_part, empty_cons, first_con, next_con, no_con)
