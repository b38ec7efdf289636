-- The typing of a form in which the n-th type that the rules leave free is that of a map at n.
use Rattle.std.specs.Prelude.{ℕ, zero, suc, List, [], ◌∷◌, true, false, Bool, Option, Some, None, length, map}
use Rattle.ddl_base.specs.declared.span.Span.{Span}
use Rattle.ddl_kinds.specs.Kinds.{free_want}
use Rattle.ddl_kinds.specs.declared.bound.Bound.{Bound}
use Rattle.ddl_tree.specs.declared.kind.Kind.{Kind}
use Rattle.ddl_tree.specs.declared.kind.Kind.TheVariants as k
use Rattle.ddl_tree.specs.ExprTree as ex
use Rattle.ddl_tree.specs.TypeTree as y
use Rattle.ddl_types.specs.Types.{Ty, Ty.var, Ty.con, Tys.none, Sub, Head.int, Head.uint, Head.sint}
use Rattle.ddl_typed.specs.Tree as t
use Rattle.ddl_rules.specs.Asks.{Env, Known, State, after_variables, after_use, bound_next, with_value, unit_type, bool_type, stream_type, array, maybe}
use Rattle.ddl_rules.specs.Asks.{map_type}
use Rattle.ddl_rules.specs.ClassForms.{class_made, named_class}
use Rattle.ddl_rules.specs.Operators.{typing}
use Rattle.ddl_rules.specs.Patterns.{with_names}
use Rattle.ddl_rules.specs.Writing.{sized}
use Rattle.ddl_typing.specs.Typed.{Typed, TypedAll, TypedNamed, TypedItems, TypedArgs, TypedCases, TypedBounds, TypedType, first_type, rest_types}
use Rattle.ddl_typing.specs.Operators.{infix_vars, an_infix, a_prefix, a_cast}
use Rattle.ddl_typing.specs.Values.{a_number, a_character, a_text, a_truth, a_nothing, some_just, a_selection, some_parens, some_typed_parens, no_parts}
use Rattle.ddl_typing.specs.Values.{first_part, no_more, one_more, an_array, no_members, one_member, a_record, a_tag, a_union}
use Rattle.ddl_typing.specs.Grammars.{some_pure, some_optional, no_bounds, one_bound, two_bounds, a_repetition, a_choice, a_tagged_choice, no_more_items}
use Rattle.ddl_typing.specs.Grammars.{result_item, let_item, field_item, plain_item, a_block}
use Rattle.ddl_typing.specs.Branches.{an_if, pattern_vars, pattern_env, no_cases, no_more_cases, first_case, one_case, a_case, guard_vars, a_guard, a_fold}
use Rattle.ddl_typing.specs.Branches.{a_map}
use Rattle.ddl_typing.specs.Names.{target, no_arguments, wanted_at, next_kind, rest_kinds, before_argument, class_argument, an_argument, behind_argument}
use Rattle.ddl_typing.specs.Names.{texts_of, a_named, a_class, of_bound, bound_vars, a_type, OneClass}

-- so many types of a map, from the n-th on
abbrev pub types_from : Sub → ℕ → ℕ → List Ty
types_from free n zero = []
types_from free n (suc k) = free n ∷ types_from free (suc n) k

-- ---- written types

-- a name takes a use, and the variables of its scheme are free
abbrev pub made_type : Sub → (ℕ → Known) → y.TypeExpr → State → TypedType
made_type free known (y.Int s) z = a_type (con int none) z
made_type free known (y.Uint n s) z = a_type (sized (uint n.value) n.value) z
made_type free known (y.Sint n s) z = a_type (sized (sint n.value) n.value) z
made_type free known (y.Bool s) z = a_type bool_type z
made_type free known (y.Stream s) z = a_type stream_type z
made_type free known (y.Float s) z = a_type unit_type z
made_type free known (y.Double s) z = a_type unit_type z
made_type free known (y.Maybe t s) z = let r = made_type free known t z in a_type (maybe r.of) r.state
made_type free known (y.ArrayOf t s) z = let r = made_type free known t z in a_type (array r.of) r.state
made_type free known (y.MapOf t u s) z = let l = made_type free known t z in let r = made_type free known u l.state in a_type (map_type l.of r.of) r.state
made_type free known (y.Empty s) z = a_type unit_type z
made_type free known (y.Named x) z =
    let n = bound_vars (bound_next z.uses) known in
    a_type (of_bound (bound_next z.uses) known (types_from free z.next n)) (after_variables n (after_use z))
made_type free known (y.Within t s) z = made_type free known t z

-- ---- names without arguments

abbrev pub made_name : Sub → Option Bound → Kind → Span → Env → State → Typed
made_name free o kind s env z =
    let n = (target o env).vars in a_named o kind s [] env (types_from free z.next n) (no_arguments (after_variables n z))

abbrev pub content_type : Sub → ℕ → ℕ → Ty
content_type free n k = first_type (types_from free n k)

-- ---- forms

abbrev mutual
  pub made : Sub → ex.Expr → Env → State → Typed
  made free (ex.Infix o a b s) env z =
      let l = made free a env z in let r = made free b env l.state in an_infix (typing o) s l r (content_type free r.state.next (infix_vars (typing o)))
  made free (ex.Pure a s) env z = some_pure s (made free a env z)
  made free (ex.If c a b s) env z =
      let test = made free c env z in let l = made free a env test.state in let r = made free b env l.state in an_if s test l r
  made free (ex.For x i ns l b s) env z =
      let begun = made free i env z in let over = made free l env begun.state in let n = over.state.next in
      let inner = with_value x.span begun.of env in
      let body = made free b (with_names ns.first.span ns.second (free n) (free (suc n)) inner) (after_variables 2 over.state) in
      a_fold ns env inner s begun over (free n) (free (suc n)) body
  made free (ex.Map ns l b s) env z =
      let over = made free l env z in let n = over.state.next in
      let body = made free b (with_names ns.first.span ns.second (free n) (free (suc n)) env) (after_variables 3 over.state) in
      a_map ns env s over (free n) (free (suc n)) (free (suc (suc n))) body
  made free (ex.Is a p s) env z = let l = made free a env z in a_guard p s l (content_type free l.state.next (guard_vars p))
  made free (ex.Prefix o a s) env z = a_prefix o s (made free a env z)
  made free (ex.Cast o a u s) env z = let l = made free a env z in a_cast o s l (made_type free env.known u l.state)
  made free (ex.CallGrammar x xs s) env z =
      let o = bound_next z.uses in let it = target o env in let us = types_from free z.next it.vars in
      a_named o k.Grammar s (texts_of xs) env us (made_args free xs 0 it.kinds (wanted_at it us) env (after_variables it.vars (after_use z)))
  made free (ex.CallValue x xs s) env z =
      let o = bound_next z.uses in let it = target o env in let us = types_from free z.next it.vars in
      a_named o k.Value s (texts_of xs) env us (made_args free xs 0 it.kinds (wanted_at it us) env (after_variables it.vars (after_use z)))
  made free (ex.Just a s) env z = some_just s (made free a env z)
  made free (ex.Many o n a s) env z = let c = made_bounds free n env z in a_repetition o s c (made free a env c.state)
  made free (ex.Optional o a s) env z = some_optional o s (made free a env z)
  made free (ex.Select a x s) env z = let l = made free a env z in a_selection x s l (free l.state.next)
  made free (ex.Num n) env z = a_number n z (free z.next)
  made free (ex.Char c s) env z = a_character c s z
  made free (ex.Text bs s) env z = a_text bs s z
  made free (ex.True s) env z = a_truth true s z
  made free (ex.False s) env z = a_truth false s z
  made free (ex.Nothing s) env z = a_nothing s z (free z.next)
  made free (ex.Upper x) env z = made_name free (bound_next z.uses) k.Grammar x.span env (after_use z)
  made free (ex.Lower x) env z = made_name free (bound_next z.uses) k.Value x.span env (after_use z)
  made free (ex.Class x) env z = a_class x.span (class_argument (ex.Class x) env z)
  made free (ex.Set c s) env z = a_class s (class_argument (ex.Set c s) env z)
  made free (ex.Paren a None s) env z = some_parens s (made free a env z)
  made free (ex.Paren a (Some u) s) env z = let l = made free a env z in some_typed_parens s l (made_type free env.known u l.state)
  made free (ex.Array xs s) env z = an_array s (made_all free xs env z)
  made free (ex.RecordOf bs s) env z = a_record s (made_members free false bs env z)
  made free (ex.Tag x s) env z = a_tag x s z (free z.next)
  made free (ex.TagWith x a s) env z = a_union x s (free z.next) (made free a env (after_variables 1 z))
  made free (ex.Block is s) env z = a_block s (made_items free is unit_type env z)
  made free (ex.Choice o (ex.WithTags bs) s) env z = a_tagged_choice o s (made_members free true bs env z)
  made free (ex.Choice o (ex.Untagged xs) s) env z = a_choice o s (made_all free xs env z)
  made free (ex.Case a xs s) env z = let l = made free a env z in a_case s l (made_cases free xs l.of env l.state)

  -- parts of one type
  pub made_all : Sub → ex.Exprs → Env → State → TypedAll
  made_all free ex.no_exprs env z = no_parts z (free z.next)
  made_all free (ex.an_expr a xs) env z = let l = made free a env z in first_part l (made_more free xs l.of env l.state)

  -- behind the first one, whose type they have
  pub made_more : Sub → ex.Exprs → Ty → Env → State → TypedAll
  made_more free ex.no_exprs u env z = no_more u z
  made_more free (ex.an_expr a xs) u env z = let l = made free a env z in one_more u l (made_more free xs u env l.state)

  -- fields of a record form, or alternatives with tags, which are free
  pub made_members : Sub → Bool → ex.Bindings → Env → State → TypedNamed
  made_members free open_ ex.no_bindings env z = no_members z
  made_members free open_ (ex.a_binding x a s bs) env z =
      let l = made free a env z in one_member open_ (free_want a) x l (made_members free open_ bs env l.state)

  -- arguments from number i on, each with the kind of its parameter and the type that is wanted of it
  pub made_args : Sub → ex.Exprs → ℕ → List Kind → List Ty → Env → State → TypedArgs
  made_args free ex.no_exprs i kinds us env z = no_arguments z
  made_args free (ex.an_expr a xs) i kinds us env z =
      let kind = next_kind kinds in let c = class_argument a env z in let l = made free a env (before_argument kind z) in
      an_argument kind i (first_type us) z.sites c l (made_args free xs (suc i) (rest_kinds kinds) (rest_types us) env (behind_argument kind c l))

  pub made_bounds : Sub → ex.Bound → Env → State → TypedBounds
  made_bounds free ex.Free env z = no_bounds z
  made_bounds free (ex.Exactly a) env z = one_bound t.exactly (made free a env z)
  made_bounds free (ex.AtLeast a s) env z = one_bound t.from_ (made free a env z)
  made_bounds free (ex.AtMost a s) env z = one_bound t.up_to (made free a env z)
  made_bounds free (ex.Between a b s) env z = let l = made free a env z in two_bounds l (made free b env l.state)

  -- items of a block, behind one of type u
  pub made_items : Sub → ex.Items → Ty → Env → State → TypedItems
  made_items free ex.no_items u env z = no_more_items u z
  made_items free (ex.an_item (ex.Result a s) is) u env z =
      let l = made free a env z in result_item (free_want a) l (made_items free is l.of env l.state)
  made_items free (ex.an_item (ex.Let x a s) is) u env z =
      let l = made free a env z in let_item (free_want a) (length env.locals) l (made_items free is unit_type (with_value x.span l.of env) l.state)
  made_items free (ex.an_item (ex.Field x a s) is) u env z =
      let l = made free a env z in field_item (free_want a) x (length env.locals) l (made_items free is unit_type (with_value x.span l.of env) l.state)
  made_items free (ex.an_item (ex.Plain a) is) u env z =
      let l = made free a env z in plain_item l (made_items free is l.of env l.state)

  -- the alternatives of a `case` of a subject of type u
  pub made_cases : Sub → ex.Alts → Ty → Env → State → TypedCases
  made_cases free ex.no_alts u env z = no_cases z (free z.next)
  made_cases free (ex.an_alt p a s xs) u env z =
      let c = content_type free z.next (pattern_vars p) in let l = made free a (pattern_env p c env) (after_variables (pattern_vars p) z) in
      first_case p u env c l (made_more_cases free xs u l.of env l.state)

  -- behind the first one, whose type v they have
  pub made_more_cases : Sub → ex.Alts → Ty → Ty → Env → State → TypedCases
  made_more_cases free ex.no_alts u v env z = no_more_cases v z
  made_more_cases free (ex.an_alt p a s xs) u v env z =
      let c = content_type free z.next (pattern_vars p) in let l = made free a (pattern_env p c env) (after_variables (pattern_vars p) z) in
      one_case p u v env c l (made_more_cases free xs u v env l.state)

-- ---- elaboration

-- each free type is a variable of its own: what code computes
abbrev pub elaborated : ex.Expr → Env → State → Typed
elaborated e env z = made var e env z
