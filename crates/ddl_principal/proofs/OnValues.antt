-- The rules of operators, values and grammars commute with replacing types.
use Rattle.std.proofs.Common.{◌≡◌, ℕ, List, [], ◌∷◌, ◌++◌, map, Option, Some, None, Bool, true, false, refl, ap, sym, ◌∙◌}
use Rattle.ddl_base.specs.declared.span.Span.{Span}
use Rattle.ddl_tree.specs.declared.name.Name.{Name}
use Rattle.ddl_tree.specs.declared.operator.Bias.{Bias}
use Rattle.ddl_tree.specs.declared.operator.Bias.TheVariants as bias
use Rattle.ddl_tree.specs.declared.operator.CastOp.{CastOp}
use Rattle.ddl_tree.specs.declared.operator.CastOp.TheVariants as to
use Rattle.ddl_tree.specs.declared.operator.PrefixOp.{PrefixOp}
use Rattle.ddl_tree.specs.declared.operator.PrefixOp.TheVariants as p
use Rattle.ddl_kinds.specs.declared.want.Want.{Want}
use Rattle.ddl_kinds.specs.declared.want.Want.TheVariants as w
use Rattle.ddl_types.specs.Types.{Ty, Sub, on}
use Rattle.ddl_typed.specs.declared.parts.Choice.TheVariants as h
use Rattle.ddl_typed.specs.Tree as t
use Rattle.ddl_typed.specs.View.{exprs_of}
use Rattle.ddl_rules.specs.declared.operators.Typing.{Typing}
use Rattle.ddl_rules.specs.declared.operators.Typing.TheVariants.{Numbers, Shifts, Words, Compares, Truths, Joins, ShiftsIn, Alternatives}
use Rattle.ddl_rules.specs.Asks.{Ask, State, place_type, with_place, wants, word, array}
use Rattle.ddl_typing.specs.Retyped.{retyped_all, retyped_named, retyped_alts, retyped_form, retyped_items, retyped_bounds}
use Rattle.ddl_typing.specs.Replaced.{types_on, option_on, tree_on, trees_on, asks_on, state_on, typed_on, all_on, named_on, items_on, bounds_on, written_on}
use Rattle.ddl_typing.specs.Typed.{Typed, TypedAll, TypedNamed, TypedItems, TypedBounds, TypedType, typed, tree_of}
use Rattle.ddl_typing.specs.Operators.{infix_asks, left_asks, right_asks, an_infix, a_prefix, a_cast}
use Rattle.ddl_typing.specs.Values.{first_part, one_more, an_array, lifted, member, one_member, fields, record_by, a_record}
use Rattle.ddl_typing.specs.Grammars.{two_bounds, a_repetition, alternatives_form, untagged, tagged, a_choice, a_tagged_choice, some_optional, result_item}
use Rattle.ddl_typing.specs.Grammars.{let_item, field_item, plain_item, block_by, a_block}
use Rattle.ddl_principal.proofs.Lists.{asks_append, asks_append3, same_typed, same_asks, with_place_on, place_type_on}

-- ---- operators

pub infix_on : (k : Typing) (s : Span) (l r : Typed) (u : Ty) (f : Sub) → typed_on (an_infix k s l r u) f ≡ an_infix k s (typed_on l f) (typed_on r f) (on u f)
infix_on (Numbers op) s l r u f = same_asks (typed_on (an_infix (Numbers op) s l r u) f)
    (asks_append (infix_asks (Numbers op) l.of r.of u s ++ l.asks) (wants l.of r.of r.at ∷ r.asks) f)
infix_on (Shifts op) s l r u f = same_asks (typed_on (an_infix (Shifts op) s l r u) f)
    (asks_append (infix_asks (Shifts op) l.of r.of u s ++ l.asks) (wants (word 64) r.of r.at ∷ r.asks) f)
infix_on (Words op) s l r u f = same_asks (typed_on (an_infix (Words op) s l r u) f)
    (asks_append (infix_asks (Words op) l.of r.of u s ++ l.asks) (wants l.of r.of r.at ∷ r.asks) f)
infix_on (Compares c) s l r u f = same_asks (typed_on (an_infix (Compares c) s l r u) f)
    (asks_append (infix_asks (Compares c) l.of r.of u s ++ l.asks) (wants l.of r.of r.at ∷ r.asks) f)
infix_on (Truths c) s l r u f = same_asks (typed_on (an_infix (Truths c) s l r u) f)
    (asks_append (left_asks (Truths c) l.of l.at ++ l.asks) (right_asks (Truths c) l.of r.of r.at ++ r.asks) f)
infix_on Joins s l r u f = same_asks (typed_on (an_infix Joins s l r u) f) (asks_append (infix_asks Joins l.of r.of u s ++ l.asks) r.asks f)
infix_on ShiftsIn s l r u f = same_asks (typed_on (an_infix ShiftsIn s l r u) f) (asks_append (infix_asks ShiftsIn l.of r.of u s ++ l.asks) r.asks f)
infix_on (Alternatives h.Biased) s l r u f = same_asks (typed_on (an_infix (Alternatives h.Biased) s l r u) f)
    (asks_append l.asks (wants l.of r.of r.at ∷ r.asks) f)
infix_on (Alternatives h.Unbiased) s l r u f = same_asks (typed_on (an_infix (Alternatives h.Unbiased) s l r u) f)
    (asks_append l.asks (wants l.of r.of r.at ∷ r.asks) f)

pub prefix_on : (o : PrefixOp) (s : Span) (l : Typed) (f : Sub) → typed_on (a_prefix o s l) f ≡ a_prefix o s (typed_on l f)
prefix_on p.Negate s l f = refl
prefix_on p.Not s l f = refl
prefix_on p.Complement s l f = refl

pub cast_on : (o : CastOp) (s : Span) (l : Typed) (u : TypedType) (f : Sub) → typed_on (a_cast o s l u) f ≡ a_cast o s (typed_on l f) (written_on u f)
cast_on to.Lossless s l u f = refl
cast_on to.Cut s l u f = refl
cast_on to.Fit s l u f = refl

-- ---- parts of one type

exprs_of_on : (es : List t.Expr) (f : Sub) → retyped_all (exprs_of es) (λ u. on u f) ≡ exprs_of (trees_on es f)
exprs_of_on [] f = refl
exprs_of_on (e ∷ es) f = ap (t.more (tree_on e f)) (exprs_of_on es f)

pub first_part_on : (l : Typed) (r : TypedAll) (f : Sub) → all_on (first_part l r) f ≡ first_part (typed_on l f) (all_on r f)
first_part_on l r f = ap (λ x. let y : TypedAll = record {
  trees = tree_on (tree_of l) f ∷ trees_on r.trees f;
  of = on l.of f;
  asks = x;
  state =
      state_on r.state f;
} in y) (asks_append l.asks r.asks f)

pub one_more_on : (u : Ty) (l : Typed) (r : TypedAll) (f : Sub) → all_on (one_more u l r) f ≡ one_more (on u f) (typed_on l f) (all_on r f)
one_more_on u l r f = ap (λ x. let y : TypedAll = record {
  trees = tree_on (tree_of l) f ∷ trees_on r.trees f;
  of = on u f;
  asks = x;
  state =
      state_on r.state f;
} in y) (asks_append (wants u l.of l.at ∷ l.asks) r.asks f)

pub array_on : (s : Span) (r : TypedAll) (f : Sub) → typed_on (an_array s r) f ≡ an_array s (all_on r f)
array_on s r f = ap (λ es. typed (t.list es) (array (on r.of f)) s (asks_on r.asks f) (state_on r.state f)) (exprs_of_on r.trees f)

-- ---- records and unions

pub lifted_on : (want : Want) (m : Typed) (f : Sub) → tree_on (lifted want m) f ≡ lifted want (typed_on m f)
lifted_on w.Value m f = refl
lifted_on w.Grammar m f = refl
lifted_on w.Free m f = refl
lifted_on w.Class m f = refl
lifted_on w.Text m f = refl

member_on : (free : Bool) (want : Want) (m : Typed) (f : Sub) → tree_on (member free want m) f ≡ member free want (typed_on m f)
member_on false want m f = refl
member_on true want m f = lifted_on want m f

pub one_member_on : (free : Bool) (want : Want) (x : Name) (l : Typed) (r : TypedNamed) (f : Sub)
    → named_on (one_member free want x l r) f ≡ one_member free want x (typed_on l f) (named_on r f)
one_member_on free want x l r f =
    ap (λ e. let y : TypedNamed = record {
      trees = e ∷ trees_on r.trees f;
      names = x.text ∷ r.names;
      types = on l.of f ∷ types_on r.types f;
      asks =
          asks_on (l.asks ++ r.asks) f;
      state = state_on r.state f;
    } in y) (member_on free want l f)
    ∙ ap (λ as_. let y : TypedNamed = record {
      trees = member free want (typed_on l f) ∷ trees_on r.trees f;
      names = x.text ∷ r.names;
      types =
          on l.of f ∷ types_on r.types f;
      asks = as_;
      state = state_on r.state f;
    } in y) (asks_append l.asks r.asks f)

fields_on : (xs : List (List ℕ)) (es : List t.Expr) (f : Sub) → retyped_named (fields xs es) (λ u. on u f) ≡ fields xs (trees_on es f)
fields_on [] [] f = refl
fields_on [] (e ∷ es) f = refl
fields_on (x ∷ xs) [] f = refl
fields_on (x ∷ xs) (e ∷ es) f = ap (t.named x (tree_on e f)) (fields_on xs es f)

record_by_on : (xs : List (List ℕ)) (s : Span) (r : TypedNamed) (f : Sub) → typed_on (record_by xs s r) f ≡ record_by xs s (named_on r f)
record_by_on [] s r f = same_typed s (ap t.record_ (fields_on r.names r.trees f)) refl refl refl
record_by_on (x ∷ xs) s r f = same_typed s (ap t.record_ (fields_on r.names r.trees f)) (place_type_on r.state f) refl
    (with_place_on s false r.names r.types r.state f)

pub record_on : (s : Span) (r : TypedNamed) (f : Sub) → typed_on (a_record s r) f ≡ a_record s (named_on r f)
record_on s r f = record_by_on r.names s r f

-- ---- repetitions and choices

pub two_bounds_on : (l r : Typed) (f : Sub) → bounds_on (two_bounds l r) f ≡ two_bounds (typed_on l f) (typed_on r f)
two_bounds_on l r f = ap (λ as_. let y : TypedBounds = record {
  bounds = t.between (tree_on (tree_of l) f) (tree_on (tree_of r) f);
  asks = as_;
  state =
      state_on r.state f;
} in y)
    (asks_append (wants (word 64) l.of l.at ∷ l.asks) (wants (word 64) r.of r.at ∷ r.asks) f)

pub repetition_on : (o : Bias) (s : Span) (n : TypedBounds) (l : Typed) (f : Sub)
    → typed_on (a_repetition o s n l) f ≡ a_repetition o s (bounds_on n f) (typed_on l f)
repetition_on o s n l f = same_asks (typed_on (a_repetition o s n l) f) (asks_append n.asks l.asks f)

untagged_on : (es : List t.Expr) (f : Sub) → retyped_alts (untagged es) (λ u. on u f) ≡ untagged (trees_on es f)
untagged_on [] f = refl
untagged_on (e ∷ es) f = ap (t.alt (tree_on e f)) (untagged_on es f)

tagged_on : (xs : List (List ℕ)) (es : List t.Expr) (f : Sub) → retyped_alts (tagged xs es) (λ u. on u f) ≡ tagged xs (trees_on es f)
tagged_on [] [] f = refl
tagged_on [] (e ∷ es) f = refl
tagged_on (x ∷ xs) [] f = refl
tagged_on (x ∷ xs) (e ∷ es) f = ap (t.tag x (tree_on e f)) (tagged_on xs es f)

alternatives_on : (o : Bias) (as_ bs : t.Alts) (f : Sub) → retyped_alts as_ (λ u. on u f) ≡ bs
    → retyped_form (alternatives_form o as_) (λ u. on u f) ≡ alternatives_form o bs
alternatives_on bias.Biased as_ bs f e = ap t.first e
alternatives_on bias.Unbiased as_ bs f e = ap t.choose e

pub choice_on : (o : Bias) (s : Span) (r : TypedAll) (f : Sub) → typed_on (a_choice o s r) f ≡ a_choice o s (all_on r f)
choice_on o s r f = same_typed s (alternatives_on o (untagged r.trees) (untagged (trees_on r.trees f)) f (untagged_on r.trees f)) refl refl refl

pub tagged_choice_on : (o : Bias) (s : Span) (r : TypedNamed) (f : Sub) → typed_on (a_tagged_choice o s r) f ≡ a_tagged_choice o s (named_on r f)
tagged_choice_on o s r f = same_typed s (alternatives_on o (tagged r.names r.trees) (tagged r.names (trees_on r.trees f)) f (tagged_on r.names r.trees f))
    (place_type_on r.state f) refl (with_place_on s true r.names r.types r.state f)

-- ---- blocks

-- an item is put before others
same_items : (m : TypedItems) {is : t.Items} {as_ : List Ask} → m.items ≡ is → m.asks ≡ as_ → m ≡ record m { items = is; asks = as_ }
same_items m {is} p q = ap (λ x. let y : TypedItems = record m { items = x } in y) p ∙ ap (λ x. let y : TypedItems = record m { items = is; asks = x } in y) q

pub result_item_on : (want : Want) (l : Typed) (r : TypedItems) (f : Sub) → items_on (result_item want l r) f ≡ result_item want (typed_on l f) (items_on r f)
result_item_on want l r f = same_items (items_on (result_item want l r) f)
    (ap (λ e. t.item (t.result_ e) (retyped_items r.items (λ u. on u f))) (lifted_on want l f)) (asks_append l.asks r.asks f)

pub let_item_on : (want : Want) (n : ℕ) (l : Typed) (r : TypedItems) (f : Sub)
    → items_on (let_item want n l r) f ≡ let_item want n (typed_on l f) (items_on r f)
let_item_on want n l r f = same_items (items_on (let_item want n l r) f)
    (ap (λ e. t.item (t.let_ n e) (retyped_items r.items (λ u. on u f))) (lifted_on want l f)) (asks_append l.asks r.asks f)

pub field_item_on : (want : Want) (x : Name) (n : ℕ) (l : Typed) (r : TypedItems) (f : Sub)
    → items_on (field_item want x n l r) f ≡ field_item want x n (typed_on l f) (items_on r f)
field_item_on want x n l r f = same_items (items_on (field_item want x n l r) f)
    (ap (λ e. t.item (t.field x.text n e) (retyped_items r.items (λ u. on u f))) (lifted_on want l f)) (asks_append l.asks r.asks f)

pub plain_item_on : (l : Typed) (r : TypedItems) (f : Sub) → items_on (plain_item l r) f ≡ plain_item (typed_on l f) (items_on r f)
plain_item_on l r f = same_items (items_on (plain_item l r) f) refl (asks_append l.asks r.asks f)

block_by_on : (o : Option Ty) (xs : List (List ℕ)) (s : Span) (r : TypedItems) (f : Sub)
    → typed_on (block_by o xs s r) f ≡ block_by (option_on o f) xs s (items_on r f)
block_by_on (Some u) xs s r f = refl
block_by_on None [] s r f = refl
block_by_on None (x ∷ xs) s r f = same_typed s refl (place_type_on r.state f) refl (with_place_on s false r.names r.types r.state f)

pub block_on : (s : Span) (r : TypedItems) (f : Sub) → typed_on (a_block s r) f ≡ a_block s (items_on r f)
block_on s r f = block_by_on r.result r.names s r f
