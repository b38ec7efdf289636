-- What is made of a form at some types, with each type replaced, is what is made of it at the types replaced.
use Rattle.std.proofs.Common.{◌≡◌, ℕ, zero, suc, ◌+◌, List, [], ◌∷◌, length, Option, Some, None, Bool, true, false, ◌&&◌, nat_le, if◌then◌else◌, refl, ap, sym}
use Rattle.std.proofs.Common.{◌∙◌}
use Rattle.ddl_base.specs.declared.span.Span.{Span}
use Rattle.ddl_kinds.specs.Kinds.{free_want}
use Rattle.ddl_kinds.specs.declared.bound.Bound.{Bound}
use Rattle.ddl_tree.specs.declared.kind.Kind.{Kind}
use Rattle.ddl_tree.specs.declared.kind.Kind.TheVariants as k
use Rattle.ddl_tree.specs.ExprTree as ex
use Rattle.ddl_tree.specs.declared.name.Name.{Name}
use Rattle.ddl_tree.specs.declared.operator.Bias.TheVariants as bias
use Rattle.ddl_tree.specs.declared.pattern.Binder.TheVariants.{Called, Ignored}
use Rattle.ddl_tree.specs.declared.pattern.Pat.{Pat}
use Rattle.ddl_tree.specs.declared.pattern.Pat.TheVariants as pat
use Rattle.ddl_tree.specs.TypeTree as y
use Rattle.ddl_types.specs.Types.{Ty, Sub, on, Ty.con, Tys.none, Head, Head.uint, Head.sint}
use Rattle.ddl_typed.specs.Tree as t
use Rattle.ddl_rules.specs.Asks.{Env, Known, State, after_variables, after_use, bound_next, with_value, unit_type, array, maybe, map_type}
use Rattle.ddl_rules.specs.Operators.{typing}
use Rattle.ddl_rules.specs.Patterns.{with_names}
use Rattle.ddl_rules.specs.Writing.{sized}
use Rattle.ddl_typing.specs.Typed.{Typed, TypedAll, TypedNamed, TypedItems, TypedArgs, TypedCases, TypedBounds, TypedType, first_type, rest_types}
use Rattle.ddl_typing.specs.Operators.{infix_vars, an_infix, a_prefix, a_cast}
use Rattle.ddl_typing.specs.Values.{some_just, a_selection, some_parens, some_typed_parens, first_part, one_more, an_array, one_member, a_record, a_union}
use Rattle.ddl_typing.specs.Grammars.{some_pure, some_optional, one_bound, two_bounds, a_repetition, a_choice, a_tagged_choice, result_item, let_item}
use Rattle.ddl_typing.specs.Grammars.{field_item, plain_item, a_block}
use Rattle.ddl_typing.specs.Branches.{an_if, pattern_vars, pattern_env, first_case, one_case, a_case, guard_vars, a_guard, a_fold, a_map}
use Rattle.ddl_typing.specs.Names.{OneClass, target, no_arguments, wanted_at, next_kind, rest_kinds, before_argument, class_argument, an_argument}
use Rattle.ddl_typing.specs.Names.{behind_argument, texts_of, a_named, a_class, of_bound, bound_vars, a_type}
use Rattle.ddl_typing.specs.Closed.{Closes, AreClosed}
use Rattle.ddl_typing.specs.Making.{types_from, made_type, made_name, content_type, made, made_all, made_more, made_members, made_args, made_bounds, made_items}
use Rattle.ddl_typing.specs.Making.{made_cases, made_more_cases}
use Rattle.ddl_typing.specs.Replaced.{types_on, state_on, all_known_on, env_on, typed_on, all_on, named_on, items_on, args_on, cases_on, bounds_on, written_on}
use Rattle.ddl_typing.specs.Replaced.{class_on}
use Rattle.ddl_principal.proofs.Lists.{first_type_on, rest_types_on, with_value_on, locals_length}
use Rattle.ddl_principal.proofs.OnValues.{infix_on, prefix_on, cast_on, first_part_on, one_more_on, array_on, one_member_on, record_on, two_bounds_on}
use Rattle.ddl_principal.proofs.OnValues.{repetition_on, choice_on, tagged_choice_on, result_item_on, let_item_on, field_item_on, plain_item_on, block_on}
use Rattle.ddl_principal.proofs.OnBranches.{if_on, pattern_env_on, first_case_on, one_case_on, case_on, guard_on, with_names_on, fold_on, map_on}
use Rattle.ddl_principal.proofs.OnNames.{target_vars_on, target_kinds_on, wanted_on, a_named_on, before_argument_on, behind_argument_on, an_argument_on}
use Rattle.ddl_principal.proofs.OnNames.{class_argument_on, bound_vars_on, of_bound_on}

-- the types of a map, each replaced
abbrev pub then_on : Sub → Sub → Sub
then_on free f n = on (free n) f

pub types_from_on : (free : Sub) (n k : ℕ) (f : Sub) → types_on (types_from free n k) f ≡ types_from (then_on free f) n k
types_from_on free n zero f = refl
types_from_on free n (suc k) f = ap (λ us. on (free n) f ∷ us) (types_from_on free (suc n) k f)

pub types_from_length : (free : Sub) (n k : ℕ) → length (types_from free n k) ≡ k
types_from_length free n zero = refl
types_from_length free n (suc k) = ap suc (types_from_length free (suc n) k)

content_type_on : (free : Sub) (n k : ℕ) (f : Sub) → on (content_type free n k) f ≡ content_type (then_on free f) n k
content_type_on free n k f = first_type_on (types_from free n k) f ∙ ap first_type (types_from_on free n k f)

-- a rule of two parts, of which the second goes on from the first
both : {A B C : Type 0} (rule : A → B → C) (next : A → B) {l l2 : A} {r : B} → l ≡ l2 → r ≡ next l → rule l r ≡ rule l2 (next l2)
both rule next {l} p q = ap (rule l) q ∙ ap (λ w. rule w (next w)) p

three : {A B C D : Type 0} (rule : A → B → C → D) (next : A → B) (last : A → B → C) {l l2 : A} {r : B} {v : C} → l ≡ l2 → r ≡ next l → v ≡ last l r
    → rule l r v ≡ rule l2 (next l2) (last l2 (next l2))
three rule next last {l} {r = r} p q e = ap (rule l r) e ∙ both (λ x w. rule x w (last x w)) next p q

-- the names of a pattern and of turns leave what is known of declarations
pattern_closed : (p : Pat) (u : Ty) (env : Env) → AreClosed env → AreClosed (pattern_env p u env)
pattern_closed (pat.Just (Called x) s) u env c = c
pattern_closed (pat.Just (Ignored w) s) u env c = c
pattern_closed (pat.Tag x None s) u env c = c
pattern_closed (pat.Tag x (Some (Called w)) s) u env c = c
pattern_closed (pat.Tag x (Some (Ignored w)) s) u env c = c
pattern_closed (pat.Any s) u env c = c
pattern_closed (pat.Num n) u env c = c
pattern_closed (pat.Char b s) u env c = c
pattern_closed (pat.True s) u env c = c
pattern_closed (pat.False s) u env c = c
pattern_closed (pat.Nothing s) u env c = c

names_closed : (s : Span) (x : Option Name) (u v : Ty) (env : Env) → AreClosed env → AreClosed (with_names s x u v env)
names_closed s None u v env c = c
names_closed s (Some x) u v env c = c

-- ---- written types

sized_on : (h : Head) (n : ℕ) (f : Sub) → on (sized h n) f ≡ sized h n
sized_on h n f = by_test (nat_le 1 n && nat_le n 128)
  where
    by_test : (c : Bool) → on (if c then con h none else unit_type) f ≡ (if c then con h none else unit_type)
    by_test true = refl
    by_test false = refl

module _ (free f : Sub) where
  abbrev free2 : Sub
  free2 = then_on free f

  on_type : (t : y.TypeExpr) (known : ℕ → Known) (z : State) → ((d : ℕ) → Closes (known d))
      → written_on (made_type free known t z) f ≡ made_type free2 (all_known_on known f) t (state_on z f)
  on_type (y.Int s) known z c = refl
  on_type (y.Uint n s) known z c = ap (λ u. a_type u (state_on z f)) (sized_on (uint n.value) n.value f)
  on_type (y.Sint n s) known z c = ap (λ u. a_type u (state_on z f)) (sized_on (sint n.value) n.value f)
  on_type (y.Bool s) known z c = refl
  on_type (y.Stream s) known z c = refl
  on_type (y.Float s) known z c = refl
  on_type (y.Double s) known z c = refl
  on_type (y.Maybe t s) known z c = ap (λ w. a_type (maybe w.of) w.state) (on_type t known z c)
  on_type (y.ArrayOf t s) known z c = ap (λ w. a_type (array w.of) w.state) (on_type t known z c)
  on_type (y.MapOf t u s) known z c =
      let l = made_type free known t z in
      both (λ x w. a_type (map_type x.of w.of) w.state) (λ w. made_type free2 (all_known_on known f) u w.state) (on_type t known z c)
      (on_type u known l.state c)
  on_type (y.Empty s) known z c = refl
  on_type (y.Named x) known z c =
      let o = bound_next z.uses in let n = bound_vars o known in let us = types_from free z.next n in
      ap (λ u. a_type u (after_variables n (after_use (state_on z f)))) (of_bound_on o known us f c (types_from_length free z.next n)
      ∙ ap (of_bound o (all_known_on known f)) (types_from_on free z.next n f))
      ∙ ap (λ k. a_type (of_bound o (all_known_on known f) (types_from free2 z.next k)) (after_variables k (after_use (state_on z f))))
      (sym (bound_vars_on o known f))
  on_type (y.Within t s) known z c = on_type t known z c

  -- ---- names

  on_name : (o : Option Bound) (kind : Kind) (s : Span) (env : Env) (z : State) → AreClosed env
      → typed_on (made_name free o kind s env z) f ≡ made_name free2 o kind s (env_on env f) (state_on z f)
  on_name o kind s env z c =
      let n = (target o env).vars in let env2 = env_on env f in let z2 = state_on z f in
      a_named_on o kind s [] env (types_from free z.next n) (no_arguments (after_variables n z)) f c (types_from_length free z.next n)
      ∙ ap (λ us. a_named o kind s [] env2 us (no_arguments (after_variables n z2))) (types_from_on free z.next n f)
      ∙ ap (λ k. a_named o kind s [] env2 (types_from free2 z.next k) (no_arguments (after_variables k z2))) (sym (target_vars_on o env f))

  abbrev made_call : Sub → Option Bound → Kind → Span → ex.Exprs → Env → State → Typed
  made_call m o kind s xs env z = let it = target o env in let us = types_from m z.next it.vars in
      a_named o kind s (texts_of xs) env us (made_args m xs 0 it.kinds (wanted_at it us) env (after_variables it.vars z))

  -- given what becomes of the arguments
  on_call : (o : Option Bound) (kind : Kind) (s : Span) (xs : ex.Exprs) (env : Env) (z : State) → AreClosed env
      → args_on (made_args free xs 0 (target o env).kinds (wanted_at (target o env) (types_from free z.next (target o env).vars)) env
      (after_variables (target o env).vars z)) f
      ≡ made_args free2 xs 0 (target o env).kinds (types_on (wanted_at (target o env) (types_from free z.next (target o env).vars)) f) (env_on env f)
      (after_variables (target o env).vars (state_on z f))
      → typed_on (made_call free o kind s xs env z) f ≡ made_call free2 o kind s xs (env_on env f) (state_on z f)
  on_call o kind s xs env z c ih =
      let it = target o env in let n = it.vars in let us = types_from free z.next n in let env2 = env_on env f in let z2 = state_on z f in let it2 =
      target o env2 in let vs = types_from free2 z.next n in
      let r = made_args free xs 0 it.kinds (wanted_at it us) env (after_variables n z) in
      a_named_on o kind s (texts_of xs) env us r f c (types_from_length free z.next n)
      ∙ ap (λ ws. a_named o kind s (texts_of xs) env2 ws (args_on r f)) (types_from_on free z.next n f)
      ∙ ap (a_named o kind s (texts_of xs) env2 vs) ih
      ∙ ap (λ ws. a_named o kind s (texts_of xs) env2 vs (made_args free2 xs 0 it.kinds ws env2 (after_variables n z2)))
      (wanted_on o env us f c (types_from_length free z.next n) ∙ ap (wanted_at it2) (types_from_on free z.next n f))
      ∙ ap (λ ks. a_named o kind s (texts_of xs) env2 vs (made_args free2 xs 0 ks (wanted_at it2 vs) env2 (after_variables n z2)))
      (sym (target_kinds_on o env f))
      ∙ ap (λ k. a_named o kind s (texts_of xs) env2 (types_from free2 z.next k)
      (made_args free2 xs 0 it2.kinds (wanted_at it2 (types_from free2 z.next k)) env2 (after_variables k z2))) (sym (target_vars_on o env f))

  mutual
    pub on_made : (e : ex.Expr) (env : Env) (z : State) → AreClosed env → typed_on (made free e env z) f ≡ made free2 e (env_on env f) (state_on z f)
    on_made (ex.Infix o a b s) env z c =
        let l = made free a env z in let r = made free b env l.state in
        infix_on (typing o) s l r (content_type free r.state.next (infix_vars (typing o))) f
        ∙ ap (an_infix (typing o) s (typed_on l f) (typed_on r f)) (content_type_on free r.state.next (infix_vars (typing o)) f)
        ∙ both (λ x w. an_infix (typing o) s x w (content_type free2 w.state.next (infix_vars (typing o)))) (λ w. made free2 b (env_on env f) w.state)
        (on_made a env z c) (on_made b env l.state c)
    on_made (ex.Pure a s) env z c = ap (some_pure s) (on_made a env z c)
    on_made (ex.If q a b s) env z c =
        let t = made free q env z in let l = made free a env t.state in let r = made free b env l.state in
        if_on s t l r f ∙ three (an_if s) (λ w. made free2 a (env_on env f) w.state) (λ x w. made free2 b (env_on env f) w.state) (on_made q env z c)
        (on_made a env t.state c) (on_made b env l.state c)
    on_made (ex.For x i ns l b s) env z c =
        let begun = made free i env z in let over = made free l env begun.state in let n = over.state.next in let inner = with_value x.span begun.of env in
        let names = with_names ns.first.span ns.second (free n) (free (suc n)) inner in let body = made free b names (after_variables 2 over.state) in
        let env2 = env_on env f in
        fold_on ns env inner s begun over (free n) (free (suc n)) body f
        ∙ ap (λ w. a_fold ns env2 w s (typed_on begun f) (typed_on over f) (free2 n) (free2 (suc n)) (typed_on body f)) (with_value_on x.span begun.of env f)
        ∙ three (λ q w v. a_fold ns env2 (with_value x.span q.of env2) s q w (free2 w.state.next) (free2 (suc w.state.next)) v) (λ w. made free2 l env2 w.state)
        (λ q w. made free2 b (with_names ns.first.span ns.second (free2 w.state.next) (free2 (suc w.state.next)) (with_value x.span q.of env2))
        (after_variables 2 w.state))
        (on_made i env z c) (on_made l env begun.state c)
        (on_made b names (after_variables 2 over.state) (names_closed ns.first.span ns.second (free n) (free (suc n)) inner c)
        ∙ ap (λ w. made free2 b w (after_variables 2 (state_on over.state f))) (with_names_on ns.first.span ns.second (free n) (free (suc n)) inner f
        ∙ ap (with_names ns.first.span ns.second (free2 n) (free2 (suc n))) (with_value_on x.span begun.of env f)))
    on_made (ex.Map ns l b s) env z c =
        let over = made free l env z in let n = over.state.next in let env2 = env_on env f in
        let names = with_names ns.first.span ns.second (free n) (free (suc n)) env in let body = made free b names (after_variables 3 over.state) in
        map_on ns env s over (free n) (free (suc n)) (free (suc (suc n))) body f
        ∙ both (λ w v. a_map ns env2 s w (free2 w.state.next) (free2 (suc w.state.next)) (free2 (suc (suc w.state.next))) v)
        (λ w. made free2 b (with_names ns.first.span ns.second (free2 w.state.next) (free2 (suc w.state.next)) env2) (after_variables 3 w.state))
        (on_made l env z c)
        (on_made b names (after_variables 3 over.state) (names_closed ns.first.span ns.second (free n) (free (suc n)) env c)
        ∙ ap (λ w. made free2 b w (after_variables 3 (state_on over.state f))) (with_names_on ns.first.span ns.second (free n) (free (suc n)) env f))
    on_made (ex.Is a p s) env z c =
        let l = made free a env z in
        guard_on p s l (content_type free l.state.next (guard_vars p)) f ∙ ap (a_guard p s (typed_on l f)) (content_type_on free l.state.next (guard_vars p) f)
        ∙ ap (λ w. a_guard p s w (content_type free2 w.state.next (guard_vars p))) (on_made a env z c)
    on_made (ex.Prefix o a s) env z c = prefix_on o s (made free a env z) f ∙ ap (a_prefix o s) (on_made a env z c)
    on_made (ex.Cast o a u s) env z c =
        let l = made free a env z in
        cast_on o s l (made_type free env.known u l.state) f ∙ both (a_cast o s) (λ w. made_type free2 (all_known_on env.known f) u w.state) (on_made a env z c)
        (on_type u env.known l.state c)
    on_made (ex.CallGrammar x xs s) env z c =
        let o = bound_next z.uses in let it = target o env in
        on_call o k.Grammar s xs env (after_use z) c (on_args xs 0 it.kinds (wanted_at it (types_from free z.next it.vars)) env
        (after_variables it.vars (after_use z)) c)
    on_made (ex.CallValue x xs s) env z c =
        let o = bound_next z.uses in let it = target o env in
        on_call o k.Value s xs env (after_use z) c (on_args xs 0 it.kinds (wanted_at it (types_from free z.next it.vars)) env
        (after_variables it.vars (after_use z)) c)
    on_made (ex.Just a s) env z c = ap (some_just s) (on_made a env z c)
    on_made (ex.Many o n a s) env z c =
        let l = made_bounds free n env z in let r = made free a env l.state in
        repetition_on o s l r f ∙ both (a_repetition o s) (λ w. made free2 a (env_on env f) w.state) (on_bounds n env z c) (on_made a env l.state c)
    on_made (ex.Optional bias.Biased a s) env z c = ap (some_optional bias.Biased s) (on_made a env z c)
    on_made (ex.Optional bias.Unbiased a s) env z c = ap (some_optional bias.Unbiased s) (on_made a env z c)
    on_made (ex.Select a x s) env z c = ap (λ w. a_selection x s w (free2 w.state.next)) (on_made a env z c)
    on_made (ex.Num n) env z c = refl
    on_made (ex.Char b s) env z c = refl
    on_made (ex.Text bs s) env z c = refl
    on_made (ex.True s) env z c = refl
    on_made (ex.False s) env z c = refl
    on_made (ex.Nothing s) env z c = refl
    on_made (ex.Upper x) env z c = on_name (bound_next z.uses) k.Grammar x.span env (after_use z) c
    on_made (ex.Lower x) env z c = on_name (bound_next z.uses) k.Value x.span env (after_use z) c
    on_made (ex.Class x) env z c = ap (a_class x.span) (class_argument_on (ex.Class x) env z f)
    on_made (ex.Set q s) env z c = ap (a_class s) (class_argument_on (ex.Set q s) env z f)
    on_made (ex.Paren a None s) env z c = ap (some_parens s) (on_made a env z c)
    on_made (ex.Paren a (Some u) s) env z c =
        let l = made free a env z in
        both (some_typed_parens s) (λ w. made_type free2 (all_known_on env.known f) u w.state) (on_made a env z c) (on_type u env.known l.state c)
    on_made (ex.Array xs s) env z c = array_on s (made_all free xs env z) f ∙ ap (an_array s) (on_all_ xs env z c)
    on_made (ex.RecordOf bs s) env z c = record_on s (made_members free false bs env z) f ∙ ap (a_record s) (on_members false bs env z c)
    on_made (ex.Tag x s) env z c = refl
    on_made (ex.TagWith x a s) env z c = ap (a_union x s (free2 z.next)) (on_made a env (after_variables 1 z) c)
    on_made (ex.Block is s) env z c = block_on s (made_items free is unit_type env z) f ∙ ap (a_block s) (on_items is unit_type env z c)
    on_made (ex.Choice o (ex.WithTags bs) s) env z c = tagged_choice_on o s (made_members free true bs env z) f
        ∙ ap (a_tagged_choice o s) (on_members true bs env z c)
    on_made (ex.Choice o (ex.Untagged xs) s) env z c = choice_on o s (made_all free xs env z) f ∙ ap (a_choice o s) (on_all_ xs env z c)
    on_made (ex.Case a xs s) env z c =
        let l = made free a env z in
        case_on s l (made_cases free xs l.of env l.state) f ∙ both (a_case s) (λ w. made_cases free2 xs w.of (env_on env f) w.state) (on_made a env z c)
        (on_cases xs l.of env l.state c)

    on_all_ : (xs : ex.Exprs) (env : Env) (z : State) → AreClosed env → all_on (made_all free xs env z) f ≡ made_all free2 xs (env_on env f) (state_on z f)
    on_all_ ex.no_exprs env z c = refl
    on_all_ (ex.an_expr a xs) env z c =
        let l = made free a env z in
        first_part_on l (made_more free xs l.of env l.state) f
        ∙ both first_part (λ w. made_more free2 xs w.of (env_on env f) w.state) (on_made a env z c) (on_more xs l.of env l.state c)

    on_more : (xs : ex.Exprs) (u : Ty) (env : Env) (z : State) → AreClosed env
        → all_on (made_more free xs u env z) f ≡ made_more free2 xs (on u f) (env_on env f) (state_on z f)
    on_more ex.no_exprs u env z c = refl
    on_more (ex.an_expr a xs) u env z c =
        let l = made free a env z in
        one_more_on u l (made_more free xs u env l.state) f ∙ both (one_more (on u f)) (λ w. made_more free2 xs (on u f) (env_on env f) w.state)
        (on_made a env z c) (on_more xs u env l.state c)

    on_members : (o : Bool) (bs : ex.Bindings) (env : Env) (z : State) → AreClosed env
        → named_on (made_members free o bs env z) f ≡ made_members free2 o bs (env_on env f) (state_on z f)
    on_members o ex.no_bindings env z c = refl
    on_members o (ex.a_binding x a s bs) env z c =
        let l = made free a env z in
        one_member_on o (free_want a) x l (made_members free o bs env l.state) f
        ∙ both (one_member o (free_want a) x) (λ w. made_members free2 o bs (env_on env f) w.state) (on_made a env z c) (on_members o bs env l.state c)

    on_args : (xs : ex.Exprs) (i : ℕ) (ks : List Kind) (us : List Ty) (env : Env) (z : State) → AreClosed env
        → args_on (made_args free xs i ks us env z) f ≡ made_args free2 xs i ks (types_on us f) (env_on env f) (state_on z f)
    on_args ex.no_exprs i ks us env z c = refl
    on_args (ex.an_expr a xs) i ks us env z c =
        let kind = next_kind ks in let q = class_argument a env z in let l = made free a env (before_argument kind z) in let st =
        behind_argument kind q l in let env2 = env_on env f in
        let r = made_args free xs (suc i) (rest_kinds ks) (rest_types us) env st in let v = first_type (types_on us f) in
        let last : OneClass → Typed → TypedArgs = λ p x. made_args free2 xs (suc i) (rest_kinds ks) (rest_types (types_on us f)) env2 (behind_argument kind p x)
        in
        an_argument_on kind i (first_type us) z.sites q l r f
        ∙ ap (λ u. an_argument kind i u z.sites (class_on q f) (typed_on l f) (args_on r f)) (first_type_on us f)
        ∙ ap (an_argument kind i v z.sites (class_on q f) (typed_on l f)) (on_args xs (suc i) (rest_kinds ks) (rest_types us) env st c
        ∙ ap (λ w. made_args free2 xs (suc i) (rest_kinds ks) (types_on (rest_types us) f) env2 w) (behind_argument_on kind q l f)
        ∙ ap (λ ws. made_args free2 xs (suc i) (rest_kinds ks) ws env2 (behind_argument kind (class_on q f) (typed_on l f))) (rest_types_on us f))
        ∙ ap (λ x. an_argument kind i v z.sites (class_on q f) x (last (class_on q f) x)) (on_made a env (before_argument kind z) c
        ∙ ap (made free2 a env2) (before_argument_on kind z f))
        ∙ ap (λ p. an_argument kind i v z.sites p (made free2 a env2 (before_argument kind (state_on z f)))
        (last p (made free2 a env2 (before_argument kind (state_on z f))))) (class_argument_on a env z f)

    on_bounds : (n : ex.Bound) (env : Env) (z : State) → AreClosed env
        → bounds_on (made_bounds free n env z) f ≡ made_bounds free2 n (env_on env f) (state_on z f)
    on_bounds ex.Free env z c = refl
    on_bounds (ex.Exactly a) env z c = ap (one_bound t.exactly) (on_made a env z c)
    on_bounds (ex.AtLeast a s) env z c = ap (one_bound t.from_) (on_made a env z c)
    on_bounds (ex.AtMost a s) env z c = ap (one_bound t.up_to) (on_made a env z c)
    on_bounds (ex.Between a b s) env z c =
        let l = made free a env z in
        two_bounds_on l (made free b env l.state) f ∙ both two_bounds (λ w. made free2 b (env_on env f) w.state) (on_made a env z c) (on_made b env l.state c)

    on_items : (is : ex.Items) (u : Ty) (env : Env) (z : State) → AreClosed env
        → items_on (made_items free is u env z) f ≡ made_items free2 is (on u f) (env_on env f) (state_on z f)
    on_items ex.no_items u env z c = refl
    on_items (ex.an_item (ex.Result a s) is) u env z c =
        let l = made free a env z in
        result_item_on (free_want a) l (made_items free is l.of env l.state) f
        ∙ both (result_item (free_want a)) (λ w. made_items free2 is w.of (env_on env f) w.state) (on_made a env z c) (on_items is l.of env l.state c)
    on_items (ex.an_item (ex.Let x a s) is) u env z c =
        let l = made free a env z in let inner = with_value x.span l.of env in let env2 = env_on env f in
        let_item_on (free_want a) (length env.locals) l (made_items free is unit_type inner l.state) f
        ∙ both (let_item (free_want a) (length env.locals)) (λ w. made_items free2 is unit_type (with_value x.span w.of env2) w.state) (on_made a env z c)
        (on_items is unit_type inner l.state c ∙ ap (λ e. made_items free2 is unit_type e (state_on l.state f)) (with_value_on x.span l.of env f))
        ∙ ap (λ n. let w = made free2 a env2 (state_on z f) in let_item (free_want a) n w (made_items free2 is unit_type (with_value x.span w.of env2) w.state))
        (sym (locals_length env.locals f))
    on_items (ex.an_item (ex.Field x a s) is) u env z c =
        let l = made free a env z in let inner = with_value x.span l.of env in let env2 = env_on env f in
        field_item_on (free_want a) x (length env.locals) l (made_items free is unit_type inner l.state) f
        ∙ both (field_item (free_want a) x (length env.locals)) (λ w. made_items free2 is unit_type (with_value x.span w.of env2) w.state) (on_made a env z c)
        (on_items is unit_type inner l.state c ∙ ap (λ e. made_items free2 is unit_type e (state_on l.state f)) (with_value_on x.span l.of env f))
        ∙ ap (λ n. let w = made free2 a env2 (state_on z f) in field_item (free_want a) x n w
        (made_items free2 is unit_type (with_value x.span w.of env2) w.state)) (sym (locals_length env.locals f))
    on_items (ex.an_item (ex.Plain a) is) u env z c =
        let l = made free a env z in
        plain_item_on l (made_items free is l.of env l.state) f
        ∙ both plain_item (λ w. made_items free2 is w.of (env_on env f) w.state) (on_made a env z c) (on_items is l.of env l.state c)

    on_cases : (xs : ex.Alts) (u : Ty) (env : Env) (z : State) → AreClosed env
        → cases_on (made_cases free xs u env z) f ≡ made_cases free2 xs (on u f) (env_on env f) (state_on z f)
    on_cases ex.no_alts u env z c = refl
    on_cases (ex.an_alt p a s xs) u env z c =
        let q = content_type free z.next (pattern_vars p) in let q2 = content_type free2 z.next (pattern_vars p) in let l =
        made free a (pattern_env p q env) (after_variables (pattern_vars p) z) in
        let r = made_more_cases free xs u l.of env l.state in let env2 = env_on env f in
        first_case_on p u env q l r f ∙ ap (λ w. first_case p (on u f) env2 w (typed_on l f) (cases_on r f)) (content_type_on free z.next (pattern_vars p) f)
        ∙ both (first_case p (on u f) env2 q2) (λ w. made_more_cases free2 xs (on u f) w.of env2 w.state)
        (on_made a (pattern_env p q env) (after_variables (pattern_vars p) z) (pattern_closed p q env c)
        ∙ ap (λ e. made free2 a e (after_variables (pattern_vars p) (state_on z f))) (pattern_env_on p q env f
        ∙ ap (λ w. pattern_env p w env2) (content_type_on free z.next (pattern_vars p) f)))
        (on_more_cases xs u l.of env l.state c)

    on_more_cases : (xs : ex.Alts) (u v : Ty) (env : Env) (z : State) → AreClosed env
        → cases_on (made_more_cases free xs u v env z) f ≡ made_more_cases free2 xs (on u f) (on v f) (env_on env f) (state_on z f)
    on_more_cases ex.no_alts u v env z c = refl
    on_more_cases (ex.an_alt p a s xs) u v env z c =
        let q = content_type free z.next (pattern_vars p) in let q2 = content_type free2 z.next (pattern_vars p) in let l =
        made free a (pattern_env p q env) (after_variables (pattern_vars p) z) in
        let r = made_more_cases free xs u v env l.state in let env2 = env_on env f in
        one_case_on p u v env q l r f ∙ ap (λ w. one_case p (on u f) (on v f) env2 w (typed_on l f) (cases_on r f))
        (content_type_on free z.next (pattern_vars p) f)
        ∙ both (one_case p (on u f) (on v f) env2 q2) (λ w. made_more_cases free2 xs (on u f) (on v f) env2 w.state)
        (on_made a (pattern_env p q env) (after_variables (pattern_vars p) z) (pattern_closed p q env c)
        ∙ ap (λ e. made free2 a e (after_variables (pattern_vars p) (state_on z f))) (pattern_env_on p q env f
        ∙ ap (λ w. pattern_env p w env2) (content_type_on free z.next (pattern_vars p) f)))
        (on_more_cases xs u v env l.state c)
