-- The parts of a block, in variables.
use Rattle.std.specs.Prelude.{ℕ, List, [], ◌∷◌, ◌++◌, Option, Some, None}
use Rattle.ddl_base.specs.declared.span.Span.{Span}
use Rattle.ddl_typed.specs.Tree.{Name, own, Item, plain, let_, field, result_}
use Rattle.ddl_core.specs.Core.{Form, give, perform}
use Rattle.ddl_core.specs.Core as c
use Rattle.ddl_lowering.specs.Scopes.{shifted, further}

-- the variables that hold the fields of a block so far, its `$$` and its last part; a `let` has no last part
pub record Seen : Type 0 where
  pub labels : List (List ℕ)
  pub fields : List ℕ
  pub result : Option ℕ
  pub last : Option ℕ

abbrev pub nothing_seen : Seen
nothing_seen = record { labels = []; fields = []; result = None; last = None }

-- after an item, whose value is variable 0
abbrev pub after_item : Item → Seen → Seen
after_item (plain e) b =
    record { labels = b.labels; fields = shifted b.fields; result = further b.result; last = Some 0 }
after_item (let_ x e) b =
    record { labels = b.labels; fields = shifted b.fields; result = further b.result; last = None }
after_item (field name x e) b = record {
  labels = b.labels ++ (name ∷ []);
  fields = shifted b.fields ++ (0 ∷ []);
  result = further b.result;
  last = Some 0;
}
after_item (result_ e) b =
    record { labels = b.labels; fields = shifted b.fields; result = Some 0; last = Some 0 }

-- the name that an item gives its value
abbrev pub item_name : Item → Option Name
item_name (plain e) = None
item_name (let_ x e) = Some (own x)
item_name (field name x e) = Some (own x)
item_name (result_ e) = None

-- the last part, or `{}`
abbrev pub last_form : Option ℕ → Span → Form
last_form None span = perform c.unit_ [] span
last_form (Some i) span = give i

-- the record of the fields, where there are any
abbrev pub record_form : List (List ℕ) → List ℕ → Option ℕ → Span → Form
record_form [] fields last span = last_form last span
record_form (name ∷ names) fields last span = perform (c.record_ (name ∷ names)) fields span

-- the `$$`, where there is one
abbrev pub result_form : Option ℕ → List (List ℕ) → List ℕ → Option ℕ → Span → Form
result_form (Some i) labels fields last span = give i
result_form None labels fields last span = record_form labels fields last span

-- the value of a block after its last item
abbrev pub block_form : Seen → Span → Form
block_form b span = result_form b.result b.labels b.fields b.last span
