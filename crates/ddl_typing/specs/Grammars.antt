-- The rules of grammars: `^`, repetitions, choices and blocks.
use Rattle.std.specs.Prelude.{ℕ, List, [], ◌∷◌, ◌++◌, true, false, Option, Some, None}
use Rattle.ddl_base.specs.declared.span.Span.{Span}
use Rattle.ddl_tree.specs.declared.name.Name.{Name}
use Rattle.ddl_tree.specs.declared.operator.Bias.{Bias}
use Rattle.ddl_tree.specs.declared.operator.Bias.TheVariants as bias
use Rattle.ddl_kinds.specs.declared.want.Want.{Want}
use Rattle.ddl_types.specs.Types.{Ty}
use Rattle.ddl_typed.specs.declared.parts.Choice.{Choice}
use Rattle.ddl_typed.specs.declared.parts.Choice.TheVariants as h
use Rattle.ddl_typed.specs.Tree as t
use Rattle.ddl_rules.specs.Asks.{Ask, State, wants, with_place, place_type, unit_type, word, array, maybe}
use Rattle.ddl_typing.specs.Typed.{Typed, TypedAll, TypedNamed, TypedItems, TypedBounds, typed, tree_of}
use Rattle.ddl_typing.specs.Values.{lifted}

abbrev pub some_pure : Span → Typed → Typed
some_pure s l = typed (t.pure (tree_of l)) l.of s l.asks l.state

-- ---- repetitions

abbrev pub choice_of : Bias → Choice
choice_of bias.Biased = h.Biased
choice_of bias.Unbiased = h.Unbiased

abbrev pub some_optional : Bias → Span → Typed → Typed
some_optional o s l = typed (t.optional (choice_of o) (tree_of l)) (maybe l.of) s l.asks l.state

abbrev pub no_bounds : State → TypedBounds
no_bounds z = record { bounds = t.unbounded; asks = []; state = z }

-- bounds are counts
abbrev pub one_bound : (t.Expr → t.Bounds) → Typed → TypedBounds
one_bound f l = record { bounds = f (tree_of l); asks = wants (word 64) l.of l.at ∷ l.asks; state = l.state }

abbrev pub two_bounds : Typed → Typed → TypedBounds
two_bounds l r = record {
  bounds = t.between (tree_of l) (tree_of r);
  asks = wants (word 64) l.of l.at ∷ l.asks ++ wants (word 64) r.of r.at ∷ r.asks;
  state =
      r.state;
}

abbrev pub a_repetition : Bias → Span → TypedBounds → Typed → Typed
a_repetition o s n l = typed (t.many (choice_of o) n.bounds (tree_of l)) (array l.of) s (n.asks ++ l.asks) l.state

-- ---- choices

abbrev pub alternatives_form : Bias → t.Alts → t.Form
alternatives_form bias.Biased xs = t.first xs
alternatives_form bias.Unbiased xs = t.choose xs

abbrev pub untagged : List t.Expr → t.Alts
untagged [] = t.no_alts
untagged (e ∷ es) = t.alt e (untagged es)

abbrev pub tagged : List (List ℕ) → List t.Expr → t.Alts
tagged (x ∷ xs) (e ∷ es) = t.tag x e (tagged xs es)
tagged xs es = t.no_alts

abbrev pub a_choice : Bias → Span → TypedAll → Typed
a_choice o s r = typed (alternatives_form o (untagged r.trees)) r.of s r.asks r.state

-- each choice with tags is a union of its own
abbrev pub a_tagged_choice : Bias → Span → TypedNamed → Typed
a_tagged_choice o s r = typed (alternatives_form o (tagged r.names r.trees)) (place_type r.state) s r.asks (with_place s true r.names r.types r.state)

-- ---- blocks

-- behind an item of this type
abbrev pub no_more_items : Ty → State → TypedItems
no_more_items u z = record { items = t.no_items; result = None; names = []; types = []; last = u; asks = []; state = z }

abbrev pub either_type : Option Ty → Option Ty → Option Ty
either_type None later = later
either_type (Some u) later = Some u

abbrev pub result_item : Want → Typed → TypedItems → TypedItems
result_item want l r = record r { items = t.item (t.result_ (lifted want l)) r.items; result = Some l.of; asks = l.asks ++ r.asks }

abbrev pub let_item : Want → ℕ → Typed → TypedItems → TypedItems
let_item want n l r = record r { items = t.item (t.let_ n (lifted want l)) r.items; asks = l.asks ++ r.asks }

abbrev pub field_item : Want → Name → ℕ → Typed → TypedItems → TypedItems
field_item want x n l r = record r {
  items = t.item (t.field x.text n (lifted want l)) r.items;
  names = x.text ∷ r.names;
  types = l.of ∷ r.types;
  asks =
      l.asks ++ r.asks;
}

abbrev pub plain_item : Typed → TypedItems → TypedItems
plain_item l r = record r { items = t.item (t.plain (tree_of l)) r.items; asks = l.asks ++ r.asks }

-- the value of a block: its `$$`, else the record of its fields, else its last part
abbrev pub block_by : Option Ty → List (List ℕ) → Span → TypedItems → Typed
block_by (Some u) xs s r = typed (t.block r.items) u s r.asks r.state
block_by None [] s r = typed (t.block r.items) r.last s r.asks r.state
block_by None (x ∷ xs) s r = typed (t.block r.items) (place_type r.state) s r.asks (with_place s false r.names r.types r.state)

abbrev pub a_block : Span → TypedItems → Typed
a_block s r = block_by r.result r.names s r
