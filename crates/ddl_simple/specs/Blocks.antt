-- Which items may stand in one block, the type of a block, and how many blocks there are.
use Rattle.std.specs.Prelude.{ℕ, ◌+◌, List, [], ◌∷◌, ◌++◌, Bool, true, false, not, ◌&&◌, ◌||◌, nat_le, Option, Some, None, option_to_list, unwrap_or}
use Rattle.std.specs.Prelude.{if◌then◌else◌, bytes_eq}
use Rattle.std.specs.List.{list_any}
use Rattle.std.specs.Option.{option_or}
use Rattle.ddl_base.specs.declared.span.Span.{Span}
use Rattle.ddl_types.specs.Types.{Ty}
use Rattle.ddl_tree.specs.ExprTree as ex
use Rattle.ddl_typed.specs.Tree as t
use Rattle.ddl_simple.specs.Form.{type_of, unit_type, record_type}

-- ---- the items of one block

-- the item is a `$$`
abbrev pub is_result : ex.Item → Bool
is_result (ex.Result e s) = true
is_result i = false

-- how many `$$` there are
abbrev pub results : ex.Items → ℕ
results ex.no_items = 0
results (ex.an_item i is) = (if is_result i then 1 else 0) + results is

-- the name of the item, where it is a field
abbrev pub field_name : ex.Item → Option (List ℕ)
field_name (ex.Field x e s) = Some x.text
field_name i = None

-- the names of the fields
abbrev pub field_names : ex.Items → List (List ℕ)
field_names ex.no_items = []
field_names (ex.an_item i is) = option_to_list (field_name i) ++ field_names is

-- no two names are the same
abbrev pub all_different : List (List ℕ) → Bool
all_different [] = true
all_different (x ∷ xs) = not (list_any (bytes_eq x) xs) && all_different xs

-- these may be the items of one block
abbrev pub may_stand : ex.Items → Bool
may_stand is = nat_le (results is) 1 && all_different (field_names is)

-- ---- the type of a block

-- the type of what an item reads
abbrev pub item_type : t.Item → Ty
item_type (t.plain e) = type_of e
item_type (t.let_ x e) = type_of e
item_type (t.field name x e) = type_of e
item_type (t.result_ e) = type_of e

-- the type of what it gives as the last item: a `let` gives `{}`
abbrev pub given_type : t.Item → Ty
given_type (t.plain e) = type_of e
given_type (t.let_ x e) = unit_type
given_type (t.field name x e) = type_of e
given_type (t.result_ e) = type_of e

-- the type of the item, where it is a `$$`
abbrev pub dollar_type : t.Item → Option Ty
dollar_type (t.result_ e) = Some (type_of e)
dollar_type i = None

-- the type of the `$$` among the items
abbrev pub result_type : t.Items → Option Ty
result_type t.no_items = None
result_type (t.item i is) = option_or (dollar_type i) (result_type is)

-- the item is a field
abbrev pub is_field : t.Item → Bool
is_field (t.field name x e) = true
is_field i = false

-- one of the items is a field
abbrev pub has_field : t.Items → Bool
has_field t.no_items = false
has_field (t.item i is) = is_field i || has_field is

-- the type of what the last item gives
abbrev pub last_type : t.Items → Ty
last_type t.no_items = unit_type
last_type (t.item i t.no_items) = given_type i
last_type (t.item i (t.item j is)) = last_type (t.item j is)

-- the type of `$$`; without it a record, where there is a field; else that of the last item
abbrev pub block_type : Span → t.Items → Ty
block_type s is = unwrap_or (result_type is) (if has_field is then record_type s.from else last_type is)

-- ---- how many blocks there are

abbrev mutual
  -- in a grammar
  pub blocks : ex.Expr → ℕ
  blocks (ex.Paren e None s) = blocks e
  blocks (ex.Block is s) = 1 + blocks_of_items is
  blocks e = 0

  pub blocks_of_items : ex.Items → ℕ
  blocks_of_items ex.no_items = 0
  blocks_of_items (ex.an_item i is) = blocks_of_item i + blocks_of_items is

  pub blocks_of_item : ex.Item → ℕ
  blocks_of_item (ex.Result e s) = blocks e
  blocks_of_item (ex.Let x e s) = blocks e
  blocks_of_item (ex.Field x e s) = blocks e
  blocks_of_item (ex.Plain e) = blocks e
