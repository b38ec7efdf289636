-- The rules of literals, of parts of values, and of arrays, records and unions.
use Rattle.std.specs.Prelude.{ℕ, List, [], ◌∷◌, ◌++◌, Bool, true, false, Option, Some, None, map}
use Rattle.ddl_base.specs.declared.span.Span.{Span}
use Rattle.ddl_tree.specs.declared.name.Name.{Name}
use Rattle.ddl_tree.specs.declared.name.Number.{Number}
use Rattle.ddl_kinds.specs.declared.want.Want.{Want}
use Rattle.ddl_kinds.specs.declared.want.Want.TheVariants as w
use Rattle.ddl_types.specs.Types.{Ty}
use Rattle.ddl_types.specs.Conditions.{lit, field}
use Rattle.ddl_judging.specs.Demands.{make}
use Rattle.ddl_typed.specs.Tree as t
use Rattle.ddl_typed.specs.View.{OneField, exprs_of, fields_of}
use Rattle.ddl_rules.specs.Asks.{Ask, State, demands, asks_for, wants, after_variables, with_place, place_type, unit_type, bool_type, word, bytes, array, maybe}
use Rattle.ddl_typing.specs.Typed.{Typed, TypedAll, TypedNamed, TypedType, typed, tree_of}

-- ---- literals

-- a number has any type that holds it
abbrev pub a_number : Number → State → Ty → Typed
a_number n z u = typed (t.literal n.value) u n.span (asks_for (lit n.value u) n.span ∷ []) (after_variables 1 z)

abbrev pub a_character : ℕ → Span → State → Typed
a_character b s z = typed (t.literal b) (word 8) s [] z

abbrev pub a_text : List ℕ → Span → State → Typed
a_text bs s z = typed (t.text bs) bytes s [] z

abbrev pub a_truth : Bool → Span → State → Typed
a_truth b s z = typed (t.truth b) bool_type s [] z

-- `nothing` is of any type
abbrev pub a_nothing : Span → State → Ty → Typed
a_nothing s z u = typed t.nothing_ (maybe u) s [] (after_variables 1 z)

-- ---- one part

abbrev pub some_just : Span → Typed → Typed
some_just s l = typed (t.just_ (tree_of l)) (maybe l.of) s l.asks l.state

-- a field of any type, which the part has to have
abbrev pub a_selection : Name → Span → Typed → Ty → Typed
a_selection x s l u = typed (t.select (tree_of l) x.text) u s (asks_for (field l.of x.text u) s ∷ l.asks) (after_variables 1 l.state)

abbrev pub some_parens : Span → Typed → Typed
some_parens s l = typed (t.paren (tree_of l)) l.of s l.asks l.state

-- a written type is wanted of what stands in parentheses
abbrev pub some_typed_parens : Span → Typed → TypedType → Typed
some_typed_parens s l u = typed (t.paren (tree_of l)) u.of s (wants u.of l.of l.at ∷ l.asks) u.state

-- ---- parts of one type

-- without any the type is left free
abbrev pub no_parts : State → Ty → TypedAll
no_parts z u = record { trees = []; of = u; asks = []; state = after_variables 1 z }

-- each later one is wanted to be of the type of the first one
abbrev pub first_part : Typed → TypedAll → TypedAll
first_part l r = record { trees = tree_of l ∷ r.trees; of = l.of; asks = l.asks ++ r.asks; state = r.state }

abbrev pub no_more : Ty → State → TypedAll
no_more u z = record { trees = []; of = u; asks = []; state = z }

abbrev pub one_more : Ty → Typed → TypedAll → TypedAll
one_more u l r = record { trees = tree_of l ∷ r.trees; of = u; asks = wants u l.of l.at ∷ l.asks ++ r.asks; state = r.state }

abbrev pub an_array : Span → TypedAll → Typed
an_array s r = typed (t.list (exprs_of r.trees)) (array r.of) s r.asks r.state

-- ---- records and unions

-- a value in a free place counts as `^` of it
abbrev pub lifted : Want → Typed → t.Expr
lifted w.Value m = t.expr (t.pure (tree_of m)) m.of m.at
lifted want m = tree_of m

-- a field of a record form is a value, an alternative with a tag is free
abbrev pub member : Bool → Want → Typed → t.Expr
member false want m = tree_of m
member true want m = lifted want m

abbrev pub no_members : State → TypedNamed
no_members z = record { trees = []; names = []; types = []; asks = []; state = z }

abbrev pub one_member : Bool → Want → Name → Typed → TypedNamed → TypedNamed
one_member free want x l r = record {
  trees = member free want l ∷ r.trees;
  names = x.text ∷ r.names;
  types = l.of ∷ r.types;
  asks = l.asks ++ r.asks;
  state =
      r.state;
}

abbrev pub fields : List (List ℕ) → List t.Expr → t.Named
fields (x ∷ xs) (e ∷ es) = t.named x e (fields xs es)
fields xs es = t.no_named

-- each record form with fields is a record of its own, without fields it is `{}`
abbrev pub record_by : List (List ℕ) → Span → TypedNamed → Typed
record_by [] s r = typed (t.record_ (fields r.names r.trees)) unit_type s r.asks r.state
record_by (x ∷ xs) s r = typed (t.record_ (fields r.names r.trees)) (place_type r.state) s r.asks (with_place s false r.names r.types r.state)

abbrev pub a_record : Span → TypedNamed → Typed
a_record s r = record_by r.names s r

-- a union of any type, which has to have the tag, with `{}`
abbrev pub a_tag : Name → Span → State → Ty → Typed
a_tag x s z u = typed (t.union_ x.text t.no_content) u s (demands (make u x.text unit_type) s ∷ []) (after_variables 1 z)

-- the same with this content
abbrev pub a_union : Name → Span → Ty → Typed → Typed
a_union x s u l = typed (t.union_ x.text (t.content (tree_of l))) u s (demands (make u x.text l.of) s ∷ l.asks) l.state
