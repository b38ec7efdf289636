-- The grammars of the form, and the typed tree of each.
use Rattle.std.specs.Prelude.{ℕ, List, ◌∷◌, length, Option, Some, None, option_map, option_and_then, if◌then◌else◌}
use Rattle.std.specs.Option.{option_or}
use Rattle.ddl_base.specs.declared.span.Span.{Span}
use Rattle.ddl_tree.specs.declared.name.Name.{Name}
use Rattle.ddl_tree.specs.ExprTree as ex
use Rattle.ddl_typed.specs.Tree as t
use Rattle.ddl_simple.specs.Scope.{Scope}
use Rattle.ddl_simple.specs.Form.{bare, primitive, match_of, pure_at}
use Rattle.ddl_simple.specs.Blocks.{may_stand, item_type, block_type}

-- a name with arguments: `Match` with one
abbrev pub call : Name → ex.Exprs → Span → Option t.Expr
call x (ex.an_expr e ex.no_exprs) s = match_of x e s
call x es s = None

-- a block of items that are typed so
abbrev pub block_of : Span → ex.Items → Option t.Items → Option t.Expr
block_of s is made = if may_stand is then option_map (λ js. t.expr (t.block js) (block_type s js) s) made else None

-- the names that the items after an item see: a `let` and a field bind theirs
abbrev pub scope_after : ex.Item → t.Item → Scope → Scope
scope_after (ex.Result e s) i scope = scope
scope_after (ex.Let x e s) i scope = record { name = x.text; of = item_type i } ∷ scope
scope_after (ex.Field x e s) i scope = record { name = x.text; of = item_type i } ∷ scope
scope_after (ex.Plain e) i scope = scope

abbrev mutual
  -- a grammar, where these names are in scope; parentheses around it count for nothing
  pub grammar : ex.Expr → Scope → Option t.Expr
  grammar (ex.Upper x) scope = primitive x
  grammar (ex.CallGrammar x es s) scope = call x es s
  grammar (ex.Paren e None s) scope = grammar e scope
  grammar (ex.Block is s) scope = block_of s is (items is scope)
  grammar e scope = None

  -- the items of a block, in order
  pub items : ex.Items → Scope → Option t.Items
  items ex.no_items scope = Some t.no_items
  items (ex.an_item i is) scope =
      option_and_then (λ j. option_map (t.item j) (items is (scope_after i j scope))) (item i scope)

  -- an item: what is bound gets the next number; `^` of a name stands only alone
  pub item : ex.Item → Scope → Option t.Item
  item (ex.Result e s) scope = option_map t.result_ (grammar e scope)
  item (ex.Let x e s) scope = option_map (t.let_ (length scope)) (grammar e scope)
  item (ex.Field x e s) scope = option_map (t.field x.text (length scope)) (grammar e scope)
  item (ex.Plain e) scope = option_map t.plain (option_or (pure_at (bare e) scope) (grammar e scope))
