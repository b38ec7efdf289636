-- One more item of a block, and how many names are kept.
use Rattle.std.proofs.Common.{◌≡◌, ℕ, ◌+◌, ◌<◌, ◌≤◌, List, [], ◌∷◌, ◌++◌, length, map, drop, take, get_or, Option, Some, None, refl, ap, sym, ◌∙◌, append_assoc}
use Rattle.std.specs.Prelude.{option_map, option_and_then}
use Rattle.std.proofs.lemmas.List.{map-append, take-append-drop}
use Rattle.std.proofs.Math.Seq.{take-append_seam}
use Rattle.ddl_tree.specs.View as tree
use Rattle.ddl_tree.specs.declared.expr.Item.{Item}
use Rattle.ddl_typed.specs.Tree as t
use Rattle.ddl_typed.specs.View as typed
use Rattle.ddl_typed.specs.declared.expr.TItem.{TItem}
use Rattle.ddl_simple.specs.Scope.{Scope}
use Rattle.ddl_simple.specs.Grammars.{item, items, scope_after}
use Rattle.ddl_simple.proofs.Lists.{at_item, no_item}

-- items, and then the rest
abbrev pub before : List t.Item → t.Items → t.Items
before [] rest = rest
before (i ∷ is) rest = t.item i (before is rest)

before_one : (is : List t.Item) (j : t.Item) (rest : t.Items) → before is (t.item j rest) ≡ before (is ++ j ∷ []) rest
before_one [] j rest = refl
before_one (i ∷ is) j rest = ap (t.item i) (before_one is j rest)

before_none : (is : List t.Item) → before is t.no_items ≡ typed.items_of is
before_none [] = refl
before_none (i ∷ is) = ap (t.item i) (before_none is)

map_twice : (is : List t.Item) (j : t.Item) (o : Option t.Items) → option_map (before is) (option_map (t.item j) o) ≡ option_map (before (is ++ j ∷ [])) o
map_twice is j None = refl
map_twice is j (Some rest) = ap Some (before_one is j rest)

-- the items that are made, and those of the rest, are all
abbrev pub made_before : List TItem → Option t.Items → Option t.Items
made_before made o = option_map (before (map typed.item_view made)) o

pub typed_next : (made : List TItem) (xs : List Item) (k : ℕ) (x : Item) (scope : Scope) (y : TItem) → k < length xs → x ≡ get_or xs k x
    → item (tree.item_view x) scope ≡ Some (typed.item_view y)
    → made_before made (items (tree.items_view (drop k xs)) scope)
    ≡ made_before (made ++ y ∷ []) (items (tree.items_view (drop (k + 1) xs)) (scope_after (tree.item_view x) (typed.item_view y) scope))
typed_next made xs k x scope y h e g =
    let rest : t.Item → Option t.Items = λ j. option_map (t.item j) (items (tree.items_view (drop (k + 1) xs)) (scope_after (tree.item_view x) j scope)) in
    ap (λ is. made_before made (items is scope)) (at_item xs k x h e)
    ∙ ap (λ o. made_before made (option_and_then rest o)) g
    ∙ map_twice (map typed.item_view made) (typed.item_view y)
    (items (tree.items_view (drop (k + 1) xs)) (scope_after (tree.item_view x) (typed.item_view y) scope))
    ∙ ap (λ is. option_map (before is) (items (tree.items_view (drop (k + 1) xs)) (scope_after (tree.item_view x) (typed.item_view y) scope)))
    (sym (map-append typed.item_view made (y ∷ [])))

pub typed_none : (made : List TItem) (xs : List Item) (k : ℕ) (x : Item) (scope : Scope) → k < length xs → x ≡ get_or xs k x
    → item (tree.item_view x) scope ≡ None
    → made_before made (items (tree.items_view (drop k xs)) scope) ≡ None
typed_none made xs k x scope h e g =
    let rest : t.Item → Option t.Items = λ j. option_map (t.item j) (items (tree.items_view (drop (k + 1) xs)) (scope_after (tree.item_view x) j scope)) in
    ap (λ is. made_before made (items is scope)) (at_item xs k x h e)
    ∙ ap (λ o. made_before made (option_and_then rest o)) g

pub typed_all : (made : List TItem) (xs : List Item) (k : ℕ) (scope : Scope) → length xs ≤ k
    → made_before made (items (tree.items_view (drop k xs)) scope) ≡ Some (typed.items_view made)
typed_all made xs k scope h =
    ap (λ is. made_before made (items is scope)) (no_item xs k h)
    ∙ ap Some (before_none (map typed.item_view made))

pub typed_start : (o : Option t.Items) → made_before [] o ≡ o
typed_start None = refl
typed_start (Some is) = refl

-- what is kept below a number of names is kept below fewer
pub kept_below : {X : Type 0} (xs ys zs : List X) → take (length ys) zs ≡ ys → take (length xs) ys ≡ xs → take (length xs) zs ≡ xs
kept_below xs ys zs h k =
    let zs_is : zs ≡ ys ++ drop (length ys) zs = sym (take-append-drop (length ys) zs) ∙ ap (λ l. l ++ drop (length ys) zs) h in
    let ys_is : ys ≡ xs ++ drop (length xs) ys = sym (take-append-drop (length xs) ys) ∙ ap (λ l. l ++ drop (length xs) ys) k in
    ap (take (length xs)) (zs_is ∙ ap (λ l. l ++ drop (length ys) zs) ys_is ∙ append_assoc xs (drop (length xs) ys) (drop (length ys) zs))
    ∙ take-append_seam xs (drop (length xs) ys ++ drop (length ys) zs)

pub ruleset item_steps = (typed_next, typed_none, typed_all, typed_start, kept_below)
