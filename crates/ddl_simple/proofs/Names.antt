-- One more name in scope, and the search for the latest.
use Rattle.std.proofs.Common.{◌≡◌, ℕ, zero, suc, ◌+◌, ◌-◌, ◌<◌, ◌≤◌, List, [], ◌∷◌, ◌++◌, length, map, reverse, take, get_or, Bool, true, false, cond, Option}
use Rattle.std.proofs.Common.{Some, None, refl, ap, sym, ◌∙◌, arith}
use Rattle.std.specs.Prelude.{bytes_eq}
use Rattle.std.proofs.Math.Seq.{take-suc, take-length, take-append_seam}
use Rattle.std.proofs.lemmas.List.{map-append, take-map, reverse-append, length-map, length-reverse, length-take-le}
use Rattle.ddl_types.specs.TyView.{ty_view}
use Rattle.ddl_simple.specs.Scope.{meaning}
use Rattle.ddl_simple.specs.Scope as s
use Rattle.ddl_simple.specs.declared.scope.Binding.{Binding}
use Rattle.ddl_simple.specs.Views.{binding_view, names}

-- ---- one more name, and fewer

pub one_more : (bs : List Binding) (b : Binding) → map binding_view (bs ++ b ∷ []) ≡ map binding_view bs ++ binding_view b ∷ []
one_more bs b = map-append binding_view bs (b ∷ [])

pub fewer : (bs : List Binding) (n : ℕ) → map binding_view (take n bs) ≡ take n (map binding_view bs)
fewer bs n = sym (take-map binding_view n bs)

pub as_many : (bs : List Binding) → length (map binding_view bs) ≡ length bs
as_many bs = length-map bs binding_view

pub latest_first : (xs : List s.Binding) (x : s.Binding) → reverse (xs ++ x ∷ []) ≡ x ∷ reverse xs
latest_first xs x = reverse-append xs (x ∷ [])

pub as_many_names : (xs : List s.Binding) → length (reverse xs) ≡ length xs
as_many_names xs = length-reverse xs

-- ---- the search

names_more : (bs : List Binding) (i : ℕ) (b : Binding) → i < length bs → b ≡ get_or bs i b → names (take (suc i) bs) ≡ binding_view b ∷ names (take i bs)
names_more bs i b h e =
    ap names (take-suc bs i b h)
    ∙ ap (λ c. names (take i bs ++ c ∷ [])) (sym e)
    ∙ ap reverse (one_more (take i bs) b)
    ∙ latest_first (map binding_view (take i bs)) (binding_view b)

so_many : (bs : List Binding) (i : ℕ) → i ≤ length bs → length (names (take i bs)) ≡ i
so_many bs i h = as_many_names (map binding_view (take i bs)) ∙ as_many (take i bs) ∙ length-take-le i bs h

chosen : (c : Bool) (x y : Option s.Meaning) → c ≡ true → cond c x y ≡ x
chosen c x y e = ap (λ d. cond d x y) e

left_out : (c : Bool) (x y : Option s.Meaning) → c ≡ false → cond c x y ≡ y
left_out c x y e = ap (λ d. cond d x y) e

-- the binding before place n has the name
pub found : (bs : List Binding) (n : ℕ) (b : Binding) (x : List ℕ) → 0 < n → n ≤ length bs → b ≡ get_or bs (n - 1) b → bytes_eq b.name x ≡ true
    → meaning (names (take n bs)) x ≡ Some (record { number = n - 1; of = ty_view b.of })
found bs zero b x h k e t = absurd (omega arith)
found bs (suc i) b x h k e t =
    let less : suc i - 1 ≡ i = omega arith in
    let e' : b ≡ get_or bs i b = e ∙ ap (λ j. get_or bs j b) less in
    ap (λ l. meaning l x) (names_more bs i b (omega arith) e')
    ∙ chosen (bytes_eq b.name x) _ _ t
    ∙ ap (λ j. Some (record { number = j; of = ty_view b.of })) (so_many bs i (omega arith) ∙ sym less)

-- it has another name
pub passed : (bs : List Binding) (n : ℕ) (b : Binding) (x : List ℕ) → 0 < n → n ≤ length bs → b ≡ get_or bs (n - 1) b → bytes_eq b.name x ≡ false
    → meaning (names (take n bs)) x ≡ meaning (names (take (n - 1) bs)) x
passed bs zero b x h k e t = absurd (omega arith)
passed bs (suc i) b x h k e t =
    let less : suc i - 1 ≡ i = omega arith in
    let e' : b ≡ get_or bs i b = e ∙ ap (λ j. get_or bs j b) less in
    ap (λ l. meaning l x) (names_more bs i b (omega arith) e')
    ∙ left_out (bytes_eq b.name x) _ _ t
    ∙ ap (λ j. meaning (names (take j bs)) x) (sym less)

pub all_names : (bs : List Binding) (x : List ℕ) → meaning (names (take (length bs) bs)) x ≡ meaning (names bs) x
all_names bs x = ap (λ l. meaning (names l) x) (take-length bs)

-- the earlier names stay
pub earlier : (xs ys : List s.Binding) → take (length xs) (xs ++ ys) ≡ xs
earlier xs ys = take-append_seam xs ys

pub ruleset names_in_order = (one_more, fewer, as_many, latest_first, as_many_names, earlier)

pub ruleset searching = (found, passed, all_names)
