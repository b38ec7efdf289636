-- Which typed forms, with which asks, are typings of a tree whose names are bound.
use Rattle.std.specs.Prelude.{◌≡◌, ℕ, suc, List, [], ◌∷◌, true, false, Bool, Option, Some, None, length}
use Rattle.ddl_base.specs.declared.span.Span.{Span}
use Rattle.ddl_kinds.specs.Kinds.{free_want}
use Rattle.ddl_kinds.specs.declared.bound.Bound.{Bound}
use Rattle.ddl_tree.specs.declared.kind.Kind.{Kind}
use Rattle.ddl_tree.specs.declared.kind.Kind.TheVariants as k
use Rattle.ddl_tree.specs.ExprTree as ex
use Rattle.ddl_tree.specs.TypeTree as y
use Rattle.ddl_types.specs.Types.{Ty, Ty.con, Tys.none, Head.int, Head.uint, Head.sint}
use Rattle.ddl_typed.specs.Tree as t
use Rattle.ddl_rules.specs.Asks.{Env, Known, State, after_variables, after_use, bound_next, with_value, unit_type, bool_type, stream_type, array, maybe}
use Rattle.ddl_rules.specs.Asks.{map_type}
use Rattle.ddl_rules.specs.Operators.{typing}
use Rattle.ddl_rules.specs.Patterns.{with_names}
use Rattle.ddl_rules.specs.Writing.{sized}
use Rattle.ddl_typing.specs.Typed.{Typed, TypedAll, TypedNamed, TypedItems, TypedArgs, TypedCases, TypedBounds, TypedType, first_type, rest_types}
use Rattle.ddl_typing.specs.Operators.{infix_vars, an_infix, a_prefix, a_cast}
use Rattle.ddl_typing.specs.Values.{a_number, a_character, a_text, a_truth, a_nothing, some_just, a_selection, some_parens, some_typed_parens, no_parts}
use Rattle.ddl_typing.specs.Values.{first_part, no_more, one_more, an_array, no_members, one_member, a_record, a_tag, a_union}
use Rattle.ddl_typing.specs.Grammars.{some_pure, some_optional, no_bounds, one_bound, two_bounds, a_repetition, a_choice, a_tagged_choice, no_more_items}
use Rattle.ddl_typing.specs.Grammars.{result_item, let_item, field_item, plain_item, a_block}
use Rattle.ddl_typing.specs.Branches.{an_if, pattern_vars, pattern_env, no_cases, no_more_cases, first_case, one_case, a_case, guard_vars, a_guard, a_fold}
use Rattle.ddl_typing.specs.Branches.{a_map}
use Rattle.ddl_typing.specs.Names.{target, no_arguments, wanted_at, next_kind, rest_kinds, before_argument, class_argument, an_argument, behind_argument}
use Rattle.ddl_typing.specs.Names.{texts_of, a_named, a_class, of_bound, bound_vars, a_type}

-- so many types, any ones
abbrev pub AreTypes : ℕ → List Ty → Type 0
AreTypes n us = length us ≡ n

-- a written type is this one; a name stands for its type at any types
abbrev pub Writing : (ℕ → Known) → y.TypeExpr → State → TypedType → Type 0
Writing known (y.Int s) z m = m ≡ a_type (con int none) z
Writing known (y.Uint n s) z m = m ≡ a_type (sized (uint n.value) n.value) z
Writing known (y.Sint n s) z m = m ≡ a_type (sized (sint n.value) n.value) z
Writing known (y.Bool s) z m = m ≡ a_type bool_type z
Writing known (y.Stream s) z m = m ≡ a_type stream_type z
Writing known (y.Float s) z m = m ≡ a_type unit_type z
Writing known (y.Double s) z m = m ≡ a_type unit_type z
Writing known (y.Maybe t s) z m = (r : TypedType) × Writing known t z r × (m ≡ a_type (maybe r.of) r.state)
Writing known (y.ArrayOf t s) z m = (r : TypedType) × Writing known t z r × (m ≡ a_type (array r.of) r.state)
Writing known (y.MapOf t u s) z m =
    (l : TypedType) × Writing known t z l × ((r : TypedType) × Writing known u l.state r × (m ≡ a_type (map_type l.of r.of) r.state))
Writing known (y.Empty s) z m = m ≡ a_type unit_type z
Writing known (y.Named x) z m =
    (us : List Ty) × AreTypes (bound_vars (bound_next z.uses) known) us
    × (m ≡ a_type (of_bound (bound_next z.uses) known us) (after_variables (bound_vars (bound_next z.uses) known) (after_use z)))
Writing known (y.Within t s) z m = Writing known t z m

-- a name without arguments: what it is bound to is at any types
abbrev pub TypingName : Option Bound → Kind → Span → Env → State → Typed → Type 0
TypingName o kind s env z m =
    (us : List Ty) × AreTypes (target o env).vars us × (m ≡ a_named o kind s [] env us (no_arguments (after_variables (target o env).vars z)))

abbrev mutual
  -- a form has this typing; each type that a rule leaves free is any type
  pub Typing : ex.Expr → Env → State → Typed → Type 0
  Typing (ex.Infix o a b s) env z m =
      (l : Typed) × Typing a env z l × ((r : Typed) × Typing b env l.state r
      × ((us : List Ty) × AreTypes (infix_vars (typing o)) us × (m ≡ an_infix (typing o) s l r (first_type us))))
  Typing (ex.Pure a s) env z m = (l : Typed) × Typing a env z l × (m ≡ some_pure s l)
  Typing (ex.If c a b s) env z m =
      (test : Typed) × Typing c env z test
      × ((l : Typed) × Typing a env test.state l × ((r : Typed) × Typing b env l.state r × (m ≡ an_if s test l r)))
  Typing (ex.For x i ns l b s) env z m =
      (begun : Typed) × Typing i env z begun × ((over : Typed) × Typing l env begun.state over × ((u : Ty) × ((v : Ty) × ((body : Typed)
      × Typing b (with_names ns.first.span ns.second u v (with_value x.span begun.of env)) (after_variables 2 over.state) body
      × (m ≡ a_fold ns env (with_value x.span begun.of env) s begun over u v body)))))
  Typing (ex.Map ns l b s) env z m =
      (over : Typed) × Typing l env z over × ((u : Ty) × ((v : Ty) × ((r : Ty) × ((body : Typed)
      × Typing b (with_names ns.first.span ns.second u v env) (after_variables 3 over.state) body × (m ≡ a_map ns env s over u v r body)))))
  Typing (ex.Is a p s) env z m =
      (l : Typed) × Typing a env z l × ((us : List Ty) × AreTypes (guard_vars p) us × (m ≡ a_guard p s l (first_type us)))
  Typing (ex.Prefix o a s) env z m = (l : Typed) × Typing a env z l × (m ≡ a_prefix o s l)
  Typing (ex.Cast o a u s) env z m =
      (l : Typed) × Typing a env z l × ((r : TypedType) × Writing env.known u l.state r × (m ≡ a_cast o s l r))
  Typing (ex.CallGrammar x xs s) env z m =
      (us : List Ty) × AreTypes (target (bound_next z.uses) env).vars us
      × ((r : TypedArgs) × TypingArgs xs 0 (target (bound_next z.uses) env).kinds (wanted_at (target (bound_next z.uses) env) us) env
      (after_variables (target (bound_next z.uses) env).vars (after_use z)) r
      × (m ≡ a_named (bound_next z.uses) k.Grammar s (texts_of xs) env us r))
  Typing (ex.CallValue x xs s) env z m =
      (us : List Ty) × AreTypes (target (bound_next z.uses) env).vars us
      × ((r : TypedArgs) × TypingArgs xs 0 (target (bound_next z.uses) env).kinds (wanted_at (target (bound_next z.uses) env) us) env
      (after_variables (target (bound_next z.uses) env).vars (after_use z)) r
      × (m ≡ a_named (bound_next z.uses) k.Value s (texts_of xs) env us r))
  Typing (ex.Just a s) env z m = (l : Typed) × Typing a env z l × (m ≡ some_just s l)
  Typing (ex.Many o n a s) env z m =
      (c : TypedBounds) × TypingBounds n env z c × ((l : Typed) × Typing a env c.state l × (m ≡ a_repetition o s c l))
  Typing (ex.Optional o a s) env z m = (l : Typed) × Typing a env z l × (m ≡ some_optional o s l)
  Typing (ex.Select a x s) env z m = (l : Typed) × Typing a env z l × ((u : Ty) × (m ≡ a_selection x s l u))
  Typing (ex.Num n) env z m = (u : Ty) × (m ≡ a_number n z u)
  Typing (ex.Char c s) env z m = m ≡ a_character c s z
  Typing (ex.Text bs s) env z m = m ≡ a_text bs s z
  Typing (ex.True s) env z m = m ≡ a_truth true s z
  Typing (ex.False s) env z m = m ≡ a_truth false s z
  Typing (ex.Nothing s) env z m = (u : Ty) × (m ≡ a_nothing s z u)
  Typing (ex.Upper x) env z m = TypingName (bound_next z.uses) k.Grammar x.span env (after_use z) m
  Typing (ex.Lower x) env z m = TypingName (bound_next z.uses) k.Value x.span env (after_use z) m
  Typing (ex.Class x) env z m = m ≡ a_class x.span (class_argument (ex.Class x) env z)
  Typing (ex.Set c s) env z m = m ≡ a_class s (class_argument (ex.Set c s) env z)
  Typing (ex.Paren a None s) env z m = (l : Typed) × Typing a env z l × (m ≡ some_parens s l)
  Typing (ex.Paren a (Some u) s) env z m =
      (l : Typed) × Typing a env z l × ((r : TypedType) × Writing env.known u l.state r × (m ≡ some_typed_parens s l r))
  Typing (ex.Array xs s) env z m = (r : TypedAll) × TypingAll xs env z r × (m ≡ an_array s r)
  Typing (ex.RecordOf bs s) env z m = (r : TypedNamed) × TypingMembers false bs env z r × (m ≡ a_record s r)
  Typing (ex.Tag x s) env z m = (u : Ty) × (m ≡ a_tag x s z u)
  Typing (ex.TagWith x a s) env z m = (u : Ty) × ((l : Typed) × Typing a env (after_variables 1 z) l × (m ≡ a_union x s u l))
  Typing (ex.Block is s) env z m = (r : TypedItems) × TypingItems is unit_type env z r × (m ≡ a_block s r)
  Typing (ex.Choice o (ex.WithTags bs) s) env z m = (r : TypedNamed) × TypingMembers true bs env z r × (m ≡ a_tagged_choice o s r)
  Typing (ex.Choice o (ex.Untagged xs) s) env z m = (r : TypedAll) × TypingAll xs env z r × (m ≡ a_choice o s r)
  Typing (ex.Case a xs s) env z m =
      (l : Typed) × Typing a env z l × ((r : TypedCases) × TypingCases xs l.of env l.state r × (m ≡ a_case s l r))

  -- parts of one type
  pub TypingAll : ex.Exprs → Env → State → TypedAll → Type 0
  TypingAll ex.no_exprs env z m = (u : Ty) × (m ≡ no_parts z u)
  TypingAll (ex.an_expr a xs) env z m =
      (l : Typed) × Typing a env z l × ((r : TypedAll) × TypingMore xs l.of env l.state r × (m ≡ first_part l r))

  pub TypingMore : ex.Exprs → Ty → Env → State → TypedAll → Type 0
  TypingMore ex.no_exprs u env z m = m ≡ no_more u z
  TypingMore (ex.an_expr a xs) u env z m =
      (l : Typed) × Typing a env z l × ((r : TypedAll) × TypingMore xs u env l.state r × (m ≡ one_more u l r))

  -- fields of a record form, or alternatives with tags, which are free
  pub TypingMembers : Bool → ex.Bindings → Env → State → TypedNamed → Type 0
  TypingMembers free ex.no_bindings env z m = m ≡ no_members z
  TypingMembers free (ex.a_binding x a s bs) env z m =
      (l : Typed) × Typing a env z l × ((r : TypedNamed) × TypingMembers free bs env l.state r × (m ≡ one_member free (free_want a) x l r))

  -- arguments from number i on, each with the kind of its parameter and the type that is wanted of it
  pub TypingArgs : ex.Exprs → ℕ → List Kind → List Ty → Env → State → TypedArgs → Type 0
  TypingArgs ex.no_exprs i kinds us env z m = m ≡ no_arguments z
  TypingArgs (ex.an_expr a xs) i kinds us env z m =
      (l : Typed) × Typing a env (before_argument (next_kind kinds) z) l
      × ((r : TypedArgs) × TypingArgs xs (suc i) (rest_kinds kinds) (rest_types us) env (behind_argument (next_kind kinds) (class_argument a env z) l) r
      × (m ≡ an_argument (next_kind kinds) i (first_type us) z.sites (class_argument a env z) l r))

  pub TypingBounds : ex.Bound → Env → State → TypedBounds → Type 0
  TypingBounds ex.Free env z m = m ≡ no_bounds z
  TypingBounds (ex.Exactly a) env z m = (l : Typed) × Typing a env z l × (m ≡ one_bound t.exactly l)
  TypingBounds (ex.AtLeast a s) env z m = (l : Typed) × Typing a env z l × (m ≡ one_bound t.from_ l)
  TypingBounds (ex.AtMost a s) env z m = (l : Typed) × Typing a env z l × (m ≡ one_bound t.up_to l)
  TypingBounds (ex.Between a b s) env z m =
      (l : Typed) × Typing a env z l × ((r : Typed) × Typing b env l.state r × (m ≡ two_bounds l r))

  -- items of a block, behind one of type u
  pub TypingItems : ex.Items → Ty → Env → State → TypedItems → Type 0
  TypingItems ex.no_items u env z m = m ≡ no_more_items u z
  TypingItems (ex.an_item (ex.Result a s) is) u env z m =
      (l : Typed) × Typing a env z l × ((r : TypedItems) × TypingItems is l.of env l.state r × (m ≡ result_item (free_want a) l r))
  TypingItems (ex.an_item (ex.Let x a s) is) u env z m =
      (l : Typed) × Typing a env z l
      × ((r : TypedItems) × TypingItems is unit_type (with_value x.span l.of env) l.state r × (m ≡ let_item (free_want a) (length env.locals) l r))
  TypingItems (ex.an_item (ex.Field x a s) is) u env z m =
      (l : Typed) × Typing a env z l
      × ((r : TypedItems) × TypingItems is unit_type (with_value x.span l.of env) l.state r × (m ≡ field_item (free_want a) x (length env.locals) l r))
  TypingItems (ex.an_item (ex.Plain a) is) u env z m =
      (l : Typed) × Typing a env z l × ((r : TypedItems) × TypingItems is l.of env l.state r × (m ≡ plain_item l r))

  -- the alternatives of a `case` of a subject of type u
  pub TypingCases : ex.Alts → Ty → Env → State → TypedCases → Type 0
  TypingCases ex.no_alts u env z m = (v : Ty) × (m ≡ no_cases z v)
  TypingCases (ex.an_alt p a s xs) u env z m =
      (us : List Ty) × AreTypes (pattern_vars p) us
      × ((l : Typed) × Typing a (pattern_env p (first_type us) env) (after_variables (pattern_vars p) z) l
      × ((r : TypedCases) × TypingMoreCases xs u l.of env l.state r × (m ≡ first_case p u env (first_type us) l r)))

  -- behind the first one, whose type v they have
  pub TypingMoreCases : ex.Alts → Ty → Ty → Env → State → TypedCases → Type 0
  TypingMoreCases ex.no_alts u v env z m = m ≡ no_more_cases v z
  TypingMoreCases (ex.an_alt p a s xs) u v env z m =
      (us : List Ty) × AreTypes (pattern_vars p) us
      × ((l : Typed) × Typing a (pattern_env p (first_type us) env) (after_variables (pattern_vars p) z) l
      × ((r : TypedCases) × TypingMoreCases xs u v env l.state r × (m ≡ one_case p u v env (first_type us) l r)))
