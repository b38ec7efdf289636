-- Which names of fields were seen.
use Rattle.std.proofs.Common.{◌≡◌, ℕ, ◌+◌, ◌<◌, ◌≤◌, List, [], ◌∷◌, ◌++◌, length, drop, get_or, Bool, true, false, not, ◌&&◌, ◌||◌, Option, Some, None, refl}
use Rattle.std.proofs.Common.{ap, sym, ◌∙◌}
use Rattle.std.specs.Prelude.{bytes_eq, option_to_list, cond}
use Rattle.std.specs.List.{list_any}
use Rattle.std.specs.HashSet.{HashSet, UpdatesBy}
use denote.Ref.{Bor}
use Rattle.ddl_tree.specs.View as tree
use Rattle.ddl_tree.specs.declared.expr.Item.{Item}
use Rattle.ddl_simple.specs.Blocks.{all_different, field_name, field_names}
use Rattle.ddl_simple.specs.Views.{has_text}
use Rattle.ddl_simple.proofs.Lists.{at_item, no_item}

-- no two of these names are the same, and none was seen
abbrev pub are_new : (List ℕ → Bool) → List (List ℕ) → Bool
are_new seen [] = true
are_new seen (x ∷ xs) = not (seen x) && are_new (λ q. bytes_eq x q || seen q) xs

same_new : (f g : List ℕ → Bool) (xs : List (List ℕ)) → ((q : List ℕ) → f q ≡ g q) → are_new f xs ≡ are_new g xs
same_new f g [] h = refl
same_new f g (x ∷ xs) h =
    ap (λ b. not b && are_new (λ q. bytes_eq x q || f q) xs) (h x)
    ∙ ap (λ b. not (g x) && b) (same_new (λ q. bytes_eq x q || f q) (λ q. bytes_eq x q || g q) xs (λ q. ap (λ b. bytes_eq x q || b) (h q)))

or_turns : (a b c d : Bool) → ((a || b) || (c || d)) ≡ ((a || c) || (b || d))
or_turns true b c d = refl
or_turns false true true d = refl
or_turns false true false d = refl
or_turns false false c d = refl

any_or : (f g : List ℕ → Bool) (xs : List (List ℕ)) → list_any (λ q. f q || g q) xs ≡ (list_any f xs || list_any g xs)
any_or f g [] = refl
any_or f g (x ∷ xs) = ap (λ b. (f x || g x) || b) (any_or f g xs) ∙ or_turns (f x) (g x) (list_any f xs) (list_any g xs)

not_turns : (p a b d : Bool) → (not p && (not (a || b) && d)) ≡ (not (p || b) && (not a && d))
not_turns true a b d = refl
not_turns false true true d = refl
not_turns false true false d = refl
not_turns false false b d = refl

new_is : (f : List ℕ → Bool) (xs : List (List ℕ)) → are_new f xs ≡ (not (list_any f xs) && all_different xs)
new_is f [] = refl
new_is f (x ∷ xs) =
    ap (λ b. not (f x) && b) (new_is (λ q. bytes_eq x q || f q) xs)
    ∙ ap (λ b. not (f x) && (not b && all_different xs)) (any_or (bytes_eq x) f xs)
    ∙ not_turns (f x) (list_any (bytes_eq x) xs) (list_any f xs) (all_different xs)

any_none : (xs : List (List ℕ)) → list_any (λ q. false) xs ≡ false
any_none [] = refl
any_none (x ∷ xs) = any_none xs

-- at first no name was seen
pub new_start : {S : Type 0} (s : HashSet (Bor (List ℕ)) S) (xs : List (List ℕ)) → s.keys ≡ [] → are_new (has_text s) xs ≡ all_different xs
new_start s xs h =
    same_new (has_text s) (λ q. false) xs (λ q. ap (list_any (λ k. bytes_eq q k.now)) h)
    ∙ new_is (λ q. false) xs
    ∙ ap (λ b. not b && all_different xs) (any_none xs)

names_at : (xs : List Item) (k : ℕ) (x : Item) → k < length xs → x ≡ get_or xs k x
    → field_names (tree.items_view (drop k xs)) ≡ option_to_list (field_name (tree.item_view x)) ++ field_names (tree.items_view (drop (k + 1) xs))
names_at xs k x h e = ap field_names (at_item xs k x h e)

-- a field with a new name
pub new_field : (f g : List ℕ → Bool) (xs : List Item) (k : ℕ) (x : Item) (name : List ℕ) → k < length xs → x ≡ get_or xs k x
    → field_name (tree.item_view x) ≡ Some name
    → f name ≡ false → ((q : List ℕ) → g q ≡ (bytes_eq name q || f q))
    → are_new f (field_names (tree.items_view (drop k xs))) ≡ are_new g (field_names (tree.items_view (drop (k + 1) xs)))
new_field f g xs k x name h e n z u =
    let rest : List (List ℕ) = field_names (tree.items_view (drop (k + 1) xs)) in
    ap (are_new f) (names_at xs k x h e ∙ ap (λ o. option_to_list o ++ rest) n)
    ∙ ap (λ b. not b && are_new (λ q. bytes_eq name q || f q) rest) z
    ∙ same_new (λ q. bytes_eq name q || f q) g rest (λ q. sym (u q))

-- a field with a name that was seen
pub old_field : (f : List ℕ → Bool) (xs : List Item) (k : ℕ) (x : Item) (name : List ℕ) → k < length xs → x ≡ get_or xs k x
    → field_name (tree.item_view x) ≡ Some name
    → f name ≡ true → are_new f (field_names (tree.items_view (drop k xs))) ≡ false
old_field f xs k x name h e n z =
    let rest : List (List ℕ) = field_names (tree.items_view (drop (k + 1) xs)) in
    ap (are_new f) (names_at xs k x h e ∙ ap (λ o. option_to_list o ++ rest) n)
    ∙ ap (λ b. not b && are_new (λ q. bytes_eq name q || f q) rest) z

-- no field
pub not_field : (f : List ℕ → Bool) (xs : List Item) (k : ℕ) (x : Item) → k < length xs → x ≡ get_or xs k x → field_name (tree.item_view x) ≡ None
    → are_new f (field_names (tree.items_view (drop k xs))) ≡ are_new f (field_names (tree.items_view (drop (k + 1) xs)))
not_field f xs k x h e n =
    ap (are_new f) (names_at xs k x h e ∙ ap (λ o. option_to_list o ++ field_names (tree.items_view (drop (k + 1) xs))) n)

pub no_more : (f : List ℕ → Bool) (xs : List Item) (k : ℕ) → length xs ≤ k → are_new f (field_names (tree.items_view (drop k xs))) ≡ true
no_more f xs k h = ap (λ is. are_new f (field_names is)) (no_item xs k h)

pub ruleset fields = (new_start, new_field, old_field, not_field, no_more)

-- ---- one more name that was seen

cond_or : (a b : Bool) → cond a true b ≡ (a || b)
cond_or true b = refl
cond_or false b = refl

pub seen_more : {S : Type 0} (s n : HashSet (Bor (List ℕ)) S) (name : Bor (List ℕ))
    → UpdatesBy (λ x y. bytes_eq x.now y.now) (λ k. bytes_eq name.now k.now) s n true
    → (q : List ℕ) → has_text n q ≡ (bytes_eq name.now q || has_text s q)
seen_more s n name u q = u.0 (record { ref_ptr = (0, 0); now = q }) ∙ cond_or (bytes_eq name.now q) (has_text s q)

pub ruleset seen = (seen_more)
