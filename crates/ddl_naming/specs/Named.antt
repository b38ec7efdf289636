-- Where a typing comes to a name, the next use of its list is the use of that name.
use Rattle.std.specs.Prelude.{◌≡◌, ℕ, suc, List, [], ◌∷◌, Bool, true, false, Some, None}
use Rattle.ddl_kinds.specs.declared.bound.Use.{Use}
use Rattle.ddl_tree.specs.declared.kind.Kind.{Kind}
use Rattle.ddl_tree.specs.declared.kind.Kind.TheVariants as k
use Rattle.ddl_tree.specs.declared.name.Name.{Name}
use Rattle.ddl_tree.specs.ClassTree as cls
use Rattle.ddl_tree.specs.ExprTree as ex
use Rattle.ddl_tree.specs.TypeTree as y
use Rattle.ddl_types.specs.Types.{Ty}
use Rattle.ddl_rules.specs.Asks.{Env, Known, State, after_variables, after_use, bound_next, unit_type, with_value}
use Rattle.ddl_rules.specs.ClassForms.{class_made}
use Rattle.ddl_rules.specs.Patterns.{with_names}
use Rattle.ddl_typing.specs.Typed.{Typed, TypedAll, TypedArgs, TypedBounds, TypedCases, TypedItems, TypedNamed, TypedType, first_type, rest_types}
use Rattle.ddl_typing.specs.Branches.{pattern_env, pattern_vars}
use Rattle.ddl_typing.specs.Names.{before_argument, behind_argument, class_argument, next_kind, rest_kinds, target, wanted_at}
use Rattle.ddl_typing.specs.Typing.{Typing, TypingAll, TypingArgs, TypingBounds, TypingCases, TypingItems, TypingMembers, TypingMore, TypingMoreCases, Writing}

-- there is a next use, and it stands at this name
abbrev pub IsNext : Name → List Use → Type 0
IsNext x [] = ⊥
IsNext x (u ∷ us) = u.span ≡ x.span

-- ---- types and classes

-- so it is at each name of a written type; of the parts of its typing each says in which state it begins
abbrev pub IsTypeNamed : (known : ℕ → Known) (t : y.TypeExpr) (z : State) (m : TypedType) → Writing known t z m → Type 0
IsTypeNamed known (y.Maybe t s) z m h = IsTypeNamed known t z h.0 h.1
IsTypeNamed known (y.ArrayOf t s) z m h = IsTypeNamed known t z h.0 h.1
IsTypeNamed known (y.MapOf t u s) z m h = IsTypeNamed known t z h.0 h.1 × IsTypeNamed known u h.0.state h.2.0 h.2.1
IsTypeNamed known (y.Named x) z m h = IsNext x z.uses
IsTypeNamed known (y.Within t s) z m h = IsTypeNamed known t z m h
IsTypeNamed known t z m h = Unit {0}

abbrev pub IsClassNamed : cls.Cls → Env → State → Type 0
IsClassNamed (cls.Union a b s) env z = IsClassNamed a env z × IsClassNamed b env (class_made a env z).state
IsClassNamed (cls.Known x) env z = IsNext x z.uses
IsClassNamed (cls.Other c s) env z = IsClassNamed c env z
IsClassNamed (cls.Grouped c s) env z = IsClassNamed c env z
IsClassNamed (cls.Set c s) env z = IsClassNamed c env z
IsClassNamed c env z = Unit {0}

-- an argument that is read as a class
abbrev pub IsClassArgumentNamed : ex.Expr → Env → State → Type 0
IsClassArgumentNamed (ex.Class x) env z = IsNext x z.uses
IsClassArgumentNamed (ex.Upper x) env z = IsNext x z.uses
IsClassArgumentNamed (ex.Lower x) env z = IsNext x z.uses
IsClassArgumentNamed (ex.CallGrammar x xs s) env z = IsNext x z.uses
IsClassArgumentNamed (ex.CallValue x xs s) env z = IsNext x z.uses
IsClassArgumentNamed (ex.Set c s) env z = IsClassNamed c env z
IsClassArgumentNamed (ex.Paren a u s) env z = IsClassArgumentNamed a env z
IsClassArgumentNamed e env z = Unit {0}

-- of an argument that is a class this, of any other one that
abbrev pub ByKind : Kind → Type 0 → Type 0 → Type 0
ByKind k.Class class form = class
ByKind kind class form = form

-- ---- expressions

abbrev mutual
  -- and at each name of an expression, in whatever typing of it
  pub IsNamed : (e : ex.Expr) (env : Env) (z : State) (m : Typed) → Typing e env z m → Type 0
  IsNamed (ex.Infix o a b s) env z m h = IsNamed a env z h.0 h.1 × IsNamed b env h.0.state h.2.0 h.2.1
  IsNamed (ex.Pure a s) env z m h = IsNamed a env z h.0 h.1
  IsNamed (ex.If c a b s) env z m h =
      IsNamed c env z h.0 h.1 × IsNamed a env h.0.state h.2.0 h.2.1 × IsNamed b env h.2.0.state h.2.2.0 h.2.2.1
  IsNamed (ex.For x i ns l b s) env z m h =
      let inner = with_value x.span h.0.of env in
      IsNamed i env z h.0 h.1 × IsNamed l env h.0.state h.2.0 h.2.1
      × IsNamed b (with_names ns.first.span ns.second h.2.2.0 h.2.2.1.0 inner) (after_variables 2 h.2.0.state) h.2.2.1.1.0 h.2.2.1.1.1
  IsNamed (ex.Map ns l b s) env z m h =
      IsNamed l env z h.0 h.1
      × IsNamed b (with_names ns.first.span ns.second h.2.0 h.2.1.0 env) (after_variables 3 h.0.state) h.2.1.1.1.0 h.2.1.1.1.1
  IsNamed (ex.Is a p s) env z m h = IsNamed a env z h.0 h.1
  IsNamed (ex.Prefix o a s) env z m h = IsNamed a env z h.0 h.1
  IsNamed (ex.Cast o a u s) env z m h = IsNamed a env z h.0 h.1 × IsTypeNamed env.known u h.0.state h.2.0 h.2.1
  IsNamed (ex.CallGrammar x xs s) env z m h =
      let it = target (bound_next z.uses) env in
      IsNext x z.uses × AreArgsNamed xs 0 it.kinds (wanted_at it h.0) env (after_variables it.vars (after_use z)) h.2.0 h.2.1
  IsNamed (ex.CallValue x xs s) env z m h =
      let it = target (bound_next z.uses) env in
      IsNext x z.uses × AreArgsNamed xs 0 it.kinds (wanted_at it h.0) env (after_variables it.vars (after_use z)) h.2.0 h.2.1
  IsNamed (ex.Just a s) env z m h = IsNamed a env z h.0 h.1
  IsNamed (ex.Many o n a s) env z m h = AreBoundsNamed n env z h.0 h.1 × IsNamed a env h.0.state h.2.0 h.2.1
  IsNamed (ex.Optional o a s) env z m h = IsNamed a env z h.0 h.1
  IsNamed (ex.Select a x s) env z m h = IsNamed a env z h.0 h.1
  IsNamed (ex.Upper x) env z m h = IsNext x z.uses
  IsNamed (ex.Lower x) env z m h = IsNext x z.uses
  IsNamed (ex.Class x) env z m h = IsNext x z.uses
  IsNamed (ex.Set c s) env z m h = IsClassNamed c env z
  IsNamed (ex.Paren a None s) env z m h = IsNamed a env z h.0 h.1
  IsNamed (ex.Paren a (Some u) s) env z m h = IsNamed a env z h.0 h.1 × IsTypeNamed env.known u h.0.state h.2.0 h.2.1
  IsNamed (ex.Array xs s) env z m h = AreNamed xs env z h.0 h.1
  IsNamed (ex.RecordOf bs s) env z m h = AreMembersNamed false bs env z h.0 h.1
  IsNamed (ex.TagWith x a s) env z m h = IsNamed a env (after_variables 1 z) h.1.0 h.1.1
  IsNamed (ex.Block is s) env z m h = AreItemsNamed is unit_type env z h.0 h.1
  IsNamed (ex.Choice o (ex.WithTags bs) s) env z m h = AreMembersNamed true bs env z h.0 h.1
  IsNamed (ex.Choice o (ex.Untagged xs) s) env z m h = AreNamed xs env z h.0 h.1
  IsNamed (ex.Case a xs s) env z m h = IsNamed a env z h.0 h.1 × AreCasesNamed xs h.0.of env h.0.state h.2.0 h.2.1
  IsNamed e env z m h = Unit {0}

  pub AreNamed : (xs : ex.Exprs) (env : Env) (z : State) (m : TypedAll) → TypingAll xs env z m → Type 0
  AreNamed ex.no_exprs env z m h = Unit {0}
  AreNamed (ex.an_expr a xs) env z m h = IsNamed a env z h.0 h.1 × AreMoreNamed xs h.0.of env h.0.state h.2.0 h.2.1

  pub AreMoreNamed : (xs : ex.Exprs) (u : Ty) (env : Env) (z : State) (m : TypedAll) → TypingMore xs u env z m → Type 0
  AreMoreNamed ex.no_exprs u env z m h = Unit {0}
  AreMoreNamed (ex.an_expr a xs) u env z m h = IsNamed a env z h.0 h.1 × AreMoreNamed xs u env h.0.state h.2.0 h.2.1

  pub AreMembersNamed : (free : Bool) (bs : ex.Bindings) (env : Env) (z : State) (m : TypedNamed) → TypingMembers free bs env z m → Type 0
  AreMembersNamed free ex.no_bindings env z m h = Unit {0}
  AreMembersNamed free (ex.a_binding x a s bs) env z m h = IsNamed a env z h.0 h.1 × AreMembersNamed free bs env h.0.state h.2.0 h.2.1

  -- an argument for a class is read as one, each other one as a form
  pub AreArgsNamed : (xs : ex.Exprs) (i : ℕ) (kinds : List Kind) (us : List Ty) (env : Env) (z : State) (m : TypedArgs) → TypingArgs xs i kinds us env z m
      → Type 0
  AreArgsNamed ex.no_exprs i kinds us env z m h = Unit {0}
  AreArgsNamed (ex.an_expr a xs) i kinds us env z m h =
      ByKind (next_kind kinds) (IsClassArgumentNamed a env z) (IsNamed a env (before_argument (next_kind kinds) z) h.0 h.1)
      × AreArgsNamed xs (suc i) (rest_kinds kinds) (rest_types us) env (behind_argument (next_kind kinds) (class_argument a env z) h.0) h.2.0 h.2.1

  pub AreBoundsNamed : (n : ex.Bound) (env : Env) (z : State) (m : TypedBounds) → TypingBounds n env z m → Type 0
  AreBoundsNamed ex.Free env z m h = Unit {0}
  AreBoundsNamed (ex.Exactly a) env z m h = IsNamed a env z h.0 h.1
  AreBoundsNamed (ex.AtLeast a s) env z m h = IsNamed a env z h.0 h.1
  AreBoundsNamed (ex.AtMost a s) env z m h = IsNamed a env z h.0 h.1
  AreBoundsNamed (ex.Between a b s) env z m h = IsNamed a env z h.0 h.1 × IsNamed b env h.0.state h.2.0 h.2.1

  -- a name that an item binds is in scope in those behind it
  pub AreItemsNamed : (is : ex.Items) (u : Ty) (env : Env) (z : State) (m : TypedItems) → TypingItems is u env z m → Type 0
  AreItemsNamed ex.no_items u env z m h = Unit {0}
  AreItemsNamed (ex.an_item (ex.Result a s) is) u env z m h = IsNamed a env z h.0 h.1 × AreItemsNamed is h.0.of env h.0.state h.2.0 h.2.1
  AreItemsNamed (ex.an_item (ex.Let x a s) is) u env z m h =
      IsNamed a env z h.0 h.1 × AreItemsNamed is unit_type (with_value x.span h.0.of env) h.0.state h.2.0 h.2.1
  AreItemsNamed (ex.an_item (ex.Field x a s) is) u env z m h =
      IsNamed a env z h.0 h.1 × AreItemsNamed is unit_type (with_value x.span h.0.of env) h.0.state h.2.0 h.2.1
  AreItemsNamed (ex.an_item (ex.Plain a) is) u env z m h = IsNamed a env z h.0 h.1 × AreItemsNamed is h.0.of env h.0.state h.2.0 h.2.1

  -- so is the name of the content of a pattern in its alternative
  pub AreCasesNamed : (xs : ex.Alts) (u : Ty) (env : Env) (z : State) (m : TypedCases) → TypingCases xs u env z m → Type 0
  AreCasesNamed ex.no_alts u env z m h = Unit {0}
  AreCasesNamed (ex.an_alt p a s xs) u env z m h =
      IsNamed a (pattern_env p (first_type h.0) env) (after_variables (pattern_vars p) z) h.2.0 h.2.1
      × AreMoreCasesNamed xs u h.2.0.of env h.2.0.state h.2.2.0 h.2.2.1

  pub AreMoreCasesNamed : (xs : ex.Alts) (u v : Ty) (env : Env) (z : State) (m : TypedCases) → TypingMoreCases xs u v env z m → Type 0
  AreMoreCasesNamed ex.no_alts u v env z m h = Unit {0}
  AreMoreCasesNamed (ex.an_alt p a s xs) u v env z m h =
      IsNamed a (pattern_env p (first_type h.0) env) (after_variables (pattern_vars p) z) h.2.0 h.2.1
      × AreMoreCasesNamed xs u v env h.2.0.state h.2.2.0 h.2.2.1
