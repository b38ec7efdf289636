-- One more item, counted and typed.
use Rattle.std.proofs.Common.{◌≡◌, ℕ, zero, suc, ◌+◌, ◌-◌, ◌<◌, ◌≤◌, List, [], ◌∷◌, length, drop, get_or, Bool, true, false, ◌||◌, Option, Some, None}
use Rattle.std.proofs.Common.{if◌then◌else◌, refl, ap, sym, ◌∙◌, arith}
use Rattle.std.specs.Option.{option_or, is_some}
use Rattle.std.specs.Prelude.{nat_le}
use Rattle.std.proofs.lemmas.Bool.{leb-true, le-leb}
use Rattle.ddl_types.specs.Types.{Ty}
use Rattle.ddl_tree.specs.View as tree
use Rattle.ddl_tree.specs.declared.expr.Item.{Item}
use Rattle.ddl_typed.specs.Tree as t
use Rattle.ddl_typed.specs.View as typed
use Rattle.ddl_typed.specs.declared.expr.TItem.{TItem}
use Rattle.ddl_simple.specs.Blocks.{blocks_of_item, blocks_of_items, dollar_type, given_type, has_field, is_field, is_result, last_type, result_type, results}
use Rattle.ddl_simple.specs.Views.{LeavesBlocks}
use Rattle.ddl_simple.proofs.Lists.{at_item, no_item, at_typed, no_typed}

-- ---- counts

pub results_next : (xs : List Item) (k : ℕ) (x : Item) → k < length xs → x ≡ get_or xs k x
    → results (tree.items_view (drop k xs)) ≡ (if is_result (tree.item_view x) then 1 else 0) + results (tree.items_view (drop (k + 1) xs))
results_next xs k x h e = ap results (at_item xs k x h e)

pub results_all : (xs : List Item) (k : ℕ) → length xs ≤ k → results (tree.items_view (drop k xs)) ≡ 0
results_all xs k h = ap results (no_item xs k h)

pub blocks_next : (xs : List Item) (k : ℕ) (x : Item) → k < length xs → x ≡ get_or xs k x
    → blocks_of_items (tree.items_view (drop k xs)) ≡ blocks_of_item (tree.item_view x) + blocks_of_items (tree.items_view (drop (k + 1) xs))
blocks_next xs k x h e = ap blocks_of_items (at_item xs k x h e)

pub blocks_all : (xs : List Item) (k : ℕ) → length xs ≤ k → blocks_of_items (tree.items_view (drop k xs)) ≡ 0
blocks_all xs k h = ap blocks_of_items (no_item xs k h)

pub ruleset counting = (results_next, results_all, blocks_next, blocks_all)

pub few_blocks : (n : ℕ) (o : Option ℕ) → LeavesBlocks n 100 o → is_some o ≡ nat_le n 100
few_blocks n (Some left) h = sym (le-leb n 100 (omega arith))
few_blocks n None h = sym (leb-false-lt n h)
  where
    leb-false-lt : (n : ℕ) → 100 < n → nat_le n 100 ≡ false
    leb-false-lt n h = by_test (nat_le n 100) refl
      where
        by_test : (b : Bool) → nat_le n 100 ≡ b → nat_le n 100 ≡ false
        by_test true q = absurd (let k : n ≤ 100 = leb-true n 100 q in omega arith)
        by_test false q = q

pub ruleset few = (few_blocks)

-- ---- types

pub result_next : (xs : List TItem) (k : ℕ) (x : TItem) → k < length xs → x ≡ get_or xs k x
    → result_type (typed.items_view (drop k xs)) ≡ option_or (dollar_type (typed.item_view x)) (result_type (typed.items_view (drop (k + 1) xs)))
result_next xs k x h e = ap result_type (at_typed xs k x h e)

pub result_all : (xs : List TItem) (k : ℕ) → length xs ≤ k → result_type (typed.items_view (drop k xs)) ≡ None
result_all xs k h = ap result_type (no_typed xs k h)

pub field_next : (xs : List TItem) (k : ℕ) (x : TItem) → k < length xs → x ≡ get_or xs k x
    → has_field (typed.items_view (drop k xs)) ≡ (is_field (typed.item_view x) || has_field (typed.items_view (drop (k + 1) xs)))
field_next xs k x h e = ap has_field (at_typed xs k x h e)

pub field_all : (xs : List TItem) (k : ℕ) → length xs ≤ k → has_field (typed.items_view (drop k xs)) ≡ false
field_all xs k h = ap has_field (no_typed xs k h)

pub last_of : (xs : List TItem) (x : TItem) → 0 < length xs → x ≡ get_or xs (length xs - 1) x → last_type (typed.items_view xs) ≡ given_type (typed.item_view x)
last_of [] x h e = absurd (omega arith)
last_of (y ∷ []) x h e = ap (λ z. given_type (typed.item_view z)) (sym e)
last_of (y ∷ z ∷ xs) x h e =
    last_of (z ∷ xs) x (omega arith) (e ∙ ap (λ n. get_or (y ∷ z ∷ xs) n x) (let q : length (y ∷ z ∷ xs) - 1 ≡ suc (length (z ∷ xs) - 1) = omega arith in q))

pub none_last : (xs : List TItem) → length xs ≡ 0 → last_type (typed.items_view xs) ≡ last_type t.no_items
none_last [] h = refl
none_last (x ∷ xs) h = absurd (omega arith)

pub ruleset typing = (result_next, result_all, field_next, field_all, last_of, none_last)
