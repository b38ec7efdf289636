-- What the values of the program stand for, and what its functions give.
use Rattle.std.specs.Prelude.{◌≡◌, ℕ, ◌+◌, ◌<◌, List, length, get_or, map, reverse, Option, Some, None, Result, Ok, Err, Vec, Bool, bytes_eq}
use Rattle.std.specs.HashSet.{HashSet, contains_by}
use denote.Ref.{Bor}
use Rattle.std.specs.Option.{option_or}
use Rattle.std.specs.declared.alloc.Global.{Global}
use Rattle.ddl_types.specs.TyView.{ty_view}
use Rattle.ddl_tree.specs.ExprTree as ex
use Rattle.ddl_typed.specs.Tree as t
use Rattle.ddl_typed.specs.View.{view, items_view}
use Rattle.ddl_typed.specs.declared.expr.TExpr.{TExpr}
use Rattle.ddl_typed.specs.declared.expr.TItem.{TItem}
use Rattle.ddl_simple.specs.Scope as s
use Rattle.ddl_simple.specs.Form.{bare, pure_at}
use Rattle.ddl_simple.specs.Grammars.{grammar}
use Rattle.ddl_simple.specs.declared.scope.Binding.{Binding}
use Rattle.ddl_simple.specs.declared.scope.Meaning.{Meaning}
use Rattle.ddl_simple.specs.declared.scope.Scope.{Scope}
use Rattle.ddl_simple.specs.declared.stop.Stop.{Stop}
use Rattle.ddl_simple.specs.declared.stop.Stop.TheVariants.{Outside, NoMemory}

abbrev pub binding_view : Binding → s.Binding
binding_view b = record { name = b.name; of = ty_view b.of }

-- the names in the order in which they were bound
abbrev pub bound : Scope → List s.Binding
bound scope = map binding_view scope.bindings.items

-- the names that these bindings leave in scope
abbrev pub names : List Binding → s.Scope
names bs = reverse (map binding_view bs)

-- the names in scope
abbrev pub scope_view : Scope → s.Scope
scope_view scope = names scope.bindings.items

abbrev pub meaning_view : Meaning → s.Meaning
meaning_view m = record { number = m.number; of = ty_view m.of }

-- the last of these bindings that has a name is the one at this place
abbrev pub IsLatest : List Binding → List ℕ → Option ℕ → Type 0
IsLatest bs name None = s.meaning (names bs) name ≡ None
IsLatest bs name (Some i) = (i < length bs) × ((b : Binding) → b ≡ get_or bs i b → s.meaning (names bs) name ≡ Some (record { number = i; of = ty_view b.of }))

-- there is this value, or there is none; where memory ran out nothing is said
abbrev pub Gives : {A B : Type 0} → (B → A) → Option A → Result B Stop → Type 0
Gives look o (Ok x) = o ≡ Some (look x)
Gives look o (Err Outside) = o ≡ None
Gives look o (Err NoMemory) = Unit {0}

-- the typed items of a block
abbrev pub made_view : Vec TItem Global → t.Items
made_view made = items_view made.items

-- what a plain item is: `^` of a name, or no `^`, so that it is a grammar, or neither
abbrev pub IsAlone : ex.Expr → s.Scope → Result (Option TExpr) Stop → Type 0
IsAlone e scope (Ok (Some x)) = pure_at (bare e) scope ≡ Some (view x)
IsAlone e scope (Ok None) = pure_at (bare e) scope ≡ None
IsAlone e scope (Err Outside) = option_or (pure_at (bare e) scope) (grammar e scope) ≡ None
IsAlone e scope (Err NoMemory) = Unit {0}

-- whether a set of texts holds these bytes
abbrev pub has_text : {S : Type 0} → HashSet (Bor (List ℕ)) S → List ℕ → Bool
has_text seen q = contains_by (λ k. bytes_eq q k.now) seen

-- so many of the blocks that were left are left, or there were too few
abbrev pub LeavesBlocks : ℕ → ℕ → Option ℕ → Type 0
LeavesBlocks used before (Some left) = used + left ≡ before
LeavesBlocks used before None = before < used
