-- The first written type in an expression that is none, in text order.
use Rattle.std.specs.Prelude.{Option, Some, None}
use Rattle.ddl_tree.specs.ExprTree as ex
use Rattle.ddl_tree.specs.TypeTree as y
use Rattle.ddl_rules.specs.Refusing.{first_of, type_refusal}
use Rattle.ddl_rules.specs.declared.refusing.TypeRefusal.{TypeRefusal}

abbrev pub typed_refusal : Option y.TypeExpr → Option TypeRefusal
typed_refusal None = None
typed_refusal (Some u) = type_refusal u

abbrev mutual
  pub written_refusal : ex.Expr → Option TypeRefusal
  written_refusal (ex.Infix o a b s) = first_of (written_refusal a) (written_refusal b)
  written_refusal (ex.Pure a s) = written_refusal a
  written_refusal (ex.If c a b s) = first_of (written_refusal c) (first_of (written_refusal a) (written_refusal b))
  written_refusal (ex.For x i ns l b s) = first_of (written_refusal i) (first_of (written_refusal l) (written_refusal b))
  written_refusal (ex.Map ns l b s) = first_of (written_refusal l) (written_refusal b)
  written_refusal (ex.Is a p s) = written_refusal a
  written_refusal (ex.Prefix o a s) = written_refusal a
  written_refusal (ex.Cast o a u s) = first_of (written_refusal a) (type_refusal u)
  written_refusal (ex.CallGrammar x xs s) = all_refusal xs
  written_refusal (ex.CallValue x xs s) = all_refusal xs
  written_refusal (ex.Just a s) = written_refusal a
  written_refusal (ex.Many o n a s) = first_of (bound_refusal n) (written_refusal a)
  written_refusal (ex.Optional o a s) = written_refusal a
  written_refusal (ex.Select a x s) = written_refusal a
  written_refusal (ex.Paren a u s) = first_of (written_refusal a) (typed_refusal u)
  written_refusal (ex.Array xs s) = all_refusal xs
  written_refusal (ex.RecordOf bs s) = members_refusal bs
  written_refusal (ex.TagWith x a s) = written_refusal a
  written_refusal (ex.Block is s) = items_refusal is
  written_refusal (ex.Choice o xs s) = alternatives_refusal xs
  written_refusal (ex.Case a xs s) = first_of (written_refusal a) (cases_refusal xs)
  written_refusal e = None

  pub all_refusal : ex.Exprs → Option TypeRefusal
  all_refusal ex.no_exprs = None
  all_refusal (ex.an_expr a xs) = first_of (written_refusal a) (all_refusal xs)

  pub members_refusal : ex.Bindings → Option TypeRefusal
  members_refusal ex.no_bindings = None
  members_refusal (ex.a_binding x a s bs) = first_of (written_refusal a) (members_refusal bs)

  pub alternatives_refusal : ex.Alternatives → Option TypeRefusal
  alternatives_refusal (ex.WithTags bs) = members_refusal bs
  alternatives_refusal (ex.Untagged xs) = all_refusal xs

  pub bound_refusal : ex.Bound → Option TypeRefusal
  bound_refusal ex.Free = None
  bound_refusal (ex.Exactly a) = written_refusal a
  bound_refusal (ex.AtLeast a s) = written_refusal a
  bound_refusal (ex.AtMost a s) = written_refusal a
  bound_refusal (ex.Between a b s) = first_of (written_refusal a) (written_refusal b)

  pub items_refusal : ex.Items → Option TypeRefusal
  items_refusal ex.no_items = None
  items_refusal (ex.an_item i is) = first_of (item_refusal i) (items_refusal is)

  pub item_refusal : ex.Item → Option TypeRefusal
  item_refusal (ex.Result a s) = written_refusal a
  item_refusal (ex.Let x a s) = written_refusal a
  item_refusal (ex.Field x a s) = written_refusal a
  item_refusal (ex.Plain a) = written_refusal a

  pub cases_refusal : ex.Alts → Option TypeRefusal
  cases_refusal ex.no_alts = None
  cases_refusal (ex.an_alt p a s xs) = first_of (written_refusal a) (cases_refusal xs)
