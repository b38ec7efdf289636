-- What is made of a form at some types is a typing of it.
use Rattle.std.proofs.Common.{◌≡◌, ℕ, zero, suc, List, [], ◌∷◌, length, Option, Some, None, Bool, true, false, refl}
use Rattle.ddl_base.specs.declared.span.Span.{Span}
use Rattle.ddl_kinds.specs.declared.bound.Bound.{Bound}
use Rattle.ddl_tree.specs.declared.kind.Kind.{Kind}
use Rattle.ddl_tree.specs.declared.kind.Kind.TheVariants as k
use Rattle.ddl_tree.specs.ExprTree as ex
use Rattle.ddl_tree.specs.TypeTree as y
use Rattle.ddl_types.specs.Types.{Ty, Sub}
use Rattle.ddl_rules.specs.Asks.{Env, Known, State, after_variables, after_use, bound_next, with_value, unit_type}
use Rattle.ddl_rules.specs.Operators.{typing}
use Rattle.ddl_rules.specs.Patterns.{with_names}
use Rattle.ddl_typing.specs.Typed.{Typed, first_type, rest_types}
use Rattle.ddl_typing.specs.Operators.{infix_vars}
use Rattle.ddl_typing.specs.Branches.{pattern_vars, pattern_env, guard_vars}
use Rattle.ddl_typing.specs.Names.{target, wanted_at, next_kind, rest_kinds, before_argument, behind_argument, class_argument, bound_vars}
use Rattle.ddl_typing.specs.Making.{types_from, content_type, made_type, made_name, made, made_all, made_more, made_members, made_args, made_bounds, made_items}
use Rattle.ddl_typing.specs.Making.{made_cases, made_more_cases}
use Rattle.ddl_typing.specs.Typing.{AreTypes, Writing, TypingName, Typing, TypingAll, TypingMore, TypingMembers, TypingArgs, TypingBounds, TypingItems}
use Rattle.ddl_typing.specs.Typing.{TypingCases, TypingMoreCases}
use Rattle.ddl_principal.proofs.Commuting.{types_from_length}

module _ (free : Sub) where
  fits_type : (x : y.TypeExpr) (known : ℕ → Known) (z : State) → Writing known x z (made_type free known x z)
  fits_type (y.Int s) known z = refl
  fits_type (y.Uint n s) known z = refl
  fits_type (y.Sint n s) known z = refl
  fits_type (y.Bool s) known z = refl
  fits_type (y.Stream s) known z = refl
  fits_type (y.Float s) known z = refl
  fits_type (y.Double s) known z = refl
  fits_type (y.Maybe x s) known z = (made_type free known x z, fits_type x known z, refl)
  fits_type (y.ArrayOf x s) known z = (made_type free known x z, fits_type x known z, refl)
  fits_type (y.MapOf x w s) known z =
      let l = made_type free known x z in (l, fits_type x known z, (made_type free known w l.state, fits_type w known l.state, refl))
  fits_type (y.Empty s) known z = refl
  fits_type (y.Named x) known z = let n = bound_vars (bound_next z.uses) known in (types_from free z.next n, types_from_length free z.next n, refl)
  fits_type (y.Within x s) known z = fits_type x known z

  fits_name : (o : Option Bound) (kind : Kind) (s : Span) (env : Env) (z : State) → TypingName o kind s env z (made_name free o kind s env z)
  fits_name o kind s env z = let n = (target o env).vars in (types_from free z.next n, types_from_length free z.next n, refl)

  mutual
    pub fits : (e : ex.Expr) (env : Env) (z : State) → Typing e env z (made free e env z)
    fits (ex.Infix op a b s) env z =
        let l = made free a env z in let r = made free b env l.state in let n = infix_vars (typing op) in
        (l, fits a env z, (r, fits b env l.state, (types_from free r.state.next n, types_from_length free r.state.next n, refl)))
    fits (ex.Pure a s) env z = (made free a env z, fits a env z, refl)
    fits (ex.If q a b s) env z =
        let t = made free q env z in let l = made free a env t.state in
        (t, fits q env z, (l, fits a env t.state, (made free b env l.state, fits b env l.state, refl)))
    fits (ex.For x i ns l b s) env z =
        let begun = made free i env z in let over = made free l env begun.state in let n = over.state.next in
        let names = with_names ns.first.span ns.second (free n) (free (suc n)) (with_value x.span begun.of env) in let last = after_variables 2 over.state in
        (begun, fits i env z, (over, fits l env begun.state, (free n, (free (suc n), (made free b names last, fits b names last, refl)))))
    fits (ex.Map ns l b s) env z =
        let over = made free l env z in let n = over.state.next in
        let names = with_names ns.first.span ns.second (free n) (free (suc n)) env in let last = after_variables 3 over.state in
        (over, fits l env z, (free n, (free (suc n), (free (suc (suc n)), (made free b names last, fits b names last, refl)))))
    fits (ex.Is a p s) env z = let l = made free a env z in (
      l,
      fits a env z,
      (types_from free l.state.next (guard_vars p), types_from_length free l.state.next (guard_vars p), refl),
    )
    fits (ex.Prefix op a s) env z = (made free a env z, fits a env z, refl)
    fits (ex.Cast op a u s) env z = let l = made free a env z in (l, fits a env z, (made_type free env.known u l.state, fits_type u env.known l.state, refl))
    fits (ex.CallGrammar x xs s) env z =
        let it = target (bound_next z.uses) env in let us = types_from free z.next it.vars in let last = after_variables it.vars (after_use z) in (
          us,
          types_from_length free z.next it.vars,
          (
            made_args free xs 0 it.kinds (wanted_at it us) env last,
            fits_args xs 0 it.kinds (wanted_at it us) env last,
            refl,
          ),
        )
    fits (ex.CallValue x xs s) env z =
        let it = target (bound_next z.uses) env in let us = types_from free z.next it.vars in let last = after_variables it.vars (after_use z) in (
          us,
          types_from_length free z.next it.vars,
          (
            made_args free xs 0 it.kinds (wanted_at it us) env last,
            fits_args xs 0 it.kinds (wanted_at it us) env last,
            refl,
          ),
        )
    fits (ex.Just a s) env z = (made free a env z, fits a env z, refl)
    fits (ex.Many op n a s) env z = let c = made_bounds free n env z in (c, fits_bounds n env z, (made free a env c.state, fits a env c.state, refl))
    fits (ex.Optional op a s) env z = (made free a env z, fits a env z, refl)
    fits (ex.Select a x s) env z = let l = made free a env z in (l, fits a env z, (free l.state.next, refl))
    fits (ex.Num n) env z = (free z.next, refl)
    fits (ex.Char b s) env z = refl
    fits (ex.Text bs s) env z = refl
    fits (ex.True s) env z = refl
    fits (ex.False s) env z = refl
    fits (ex.Nothing s) env z = (free z.next, refl)
    fits (ex.Upper x) env z = fits_name (bound_next z.uses) k.Grammar x.span env (after_use z)
    fits (ex.Lower x) env z = fits_name (bound_next z.uses) k.Value x.span env (after_use z)
    fits (ex.Class x) env z = refl
    fits (ex.Set c s) env z = refl
    fits (ex.Paren a None s) env z = (made free a env z, fits a env z, refl)
    fits (ex.Paren a (Some u) s) env z = let l = made free a env z
        in (l, fits a env z, (made_type free env.known u l.state, fits_type u env.known l.state, refl))
    fits (ex.Array xs s) env z = (made_all free xs env z, fits_all xs env z, refl)
    fits (ex.RecordOf bs s) env z = (made_members free false bs env z, fits_members false bs env z, refl)
    fits (ex.Tag x s) env z = (free z.next, refl)
    fits (ex.TagWith x a s) env z = (free z.next, (made free a env (after_variables 1 z), fits a env (after_variables 1 z), refl))
    fits (ex.Block is s) env z = (made_items free is unit_type env z, fits_items is unit_type env z, refl)
    fits (ex.Choice op (ex.WithTags bs) s) env z = (made_members free true bs env z, fits_members true bs env z, refl)
    fits (ex.Choice op (ex.Untagged xs) s) env z = (made_all free xs env z, fits_all xs env z, refl)
    fits (ex.Case a xs s) env z = let l = made free a env z in (l, fits a env z, (made_cases free xs l.of env l.state, fits_cases xs l.of env l.state, refl))

    fits_all : (xs : ex.Exprs) (env : Env) (z : State) → TypingAll xs env z (made_all free xs env z)
    fits_all ex.no_exprs env z = (free z.next, refl)
    fits_all (ex.an_expr a xs) env z = let l = made free a env z in (l, fits a env z, (made_more free xs l.of env l.state, fits_more xs l.of env l.state, refl))

    fits_more : (xs : ex.Exprs) (u : Ty) (env : Env) (z : State) → TypingMore xs u env z (made_more free xs u env z)
    fits_more ex.no_exprs u env z = refl
    fits_more (ex.an_expr a xs) u env z = let l = made free a env z in (l, fits a env z, (made_more free xs u env l.state, fits_more xs u env l.state, refl))

    fits_members : (o : Bool) (bs : ex.Bindings) (env : Env) (z : State) → TypingMembers o bs env z (made_members free o bs env z)
    fits_members o ex.no_bindings env z = refl
    fits_members o (ex.a_binding x a s bs) env z = let l =
        made free a env z in (l, fits a env z, (made_members free o bs env l.state, fits_members o bs env l.state, refl))

    fits_args : (xs : ex.Exprs) (i : ℕ) (ks : List Kind) (us : List Ty) (env : Env) (z : State) → TypingArgs xs i ks us env z (made_args free xs i ks us env z)
    fits_args ex.no_exprs i ks us env z = refl
    fits_args (ex.an_expr a xs) i ks us env z =
        let kind = next_kind ks in let l = made free a env (before_argument kind z) in let last = behind_argument kind (class_argument a env z) l in (
          l,
          fits a env (before_argument kind z),
          (
            made_args free xs (suc i) (rest_kinds ks) (rest_types us) env last,
            fits_args xs (suc i) (rest_kinds ks) (rest_types us) env last,
            refl,
          ),
        )

    fits_bounds : (n : ex.Bound) (env : Env) (z : State) → TypingBounds n env z (made_bounds free n env z)
    fits_bounds ex.Free env z = refl
    fits_bounds (ex.Exactly a) env z = (made free a env z, fits a env z, refl)
    fits_bounds (ex.AtLeast a s) env z = (made free a env z, fits a env z, refl)
    fits_bounds (ex.AtMost a s) env z = (made free a env z, fits a env z, refl)
    fits_bounds (ex.Between a b s) env z = let l = made free a env z in (l, fits a env z, (made free b env l.state, fits b env l.state, refl))

    fits_items : (is : ex.Items) (u : Ty) (env : Env) (z : State) → TypingItems is u env z (made_items free is u env z)
    fits_items ex.no_items u env z = refl
    fits_items (ex.an_item (ex.Result a s) is) u env z = let l =
        made free a env z in (l, fits a env z, (made_items free is l.of env l.state, fits_items is l.of env l.state, refl))
    fits_items (ex.an_item (ex.Let x a s) is) u env z =
        let l = made free a env z in let inner = with_value x.span l.of env
        in (l, fits a env z, (made_items free is unit_type inner l.state, fits_items is unit_type inner l.state, refl))
    fits_items (ex.an_item (ex.Field x a s) is) u env z =
        let l = made free a env z in let inner = with_value x.span l.of env
        in (l, fits a env z, (made_items free is unit_type inner l.state, fits_items is unit_type inner l.state, refl))
    fits_items (ex.an_item (ex.Plain a) is) u env z = let l =
        made free a env z in (l, fits a env z, (made_items free is l.of env l.state, fits_items is l.of env l.state, refl))

    fits_cases : (xs : ex.Alts) (u : Ty) (env : Env) (z : State) → TypingCases xs u env z (made_cases free xs u env z)
    fits_cases ex.no_alts u env z = (free z.next, refl)
    fits_cases (ex.an_alt p a s xs) u env z =
        let n = pattern_vars p in let us = types_from free z.next n in let inner = pattern_env p (first_type us) env in let l =
        made free a inner (after_variables n z) in (
          us,
          types_from_length free z.next n,
          (
            l,
            fits a inner (after_variables n z),
            (made_more_cases free xs u l.of env l.state, fits_more_cases xs u l.of env l.state, refl),
          ),
        )

    fits_more_cases : (xs : ex.Alts) (u v : Ty) (env : Env) (z : State) → TypingMoreCases xs u v env z (made_more_cases free xs u v env z)
    fits_more_cases ex.no_alts u v env z = refl
    fits_more_cases (ex.an_alt p a s xs) u v env z =
        let n = pattern_vars p in let us = types_from free z.next n in let inner = pattern_env p (first_type us) env in let l =
        made free a inner (after_variables n z) in (
          us,
          types_from_length free z.next n,
          (
            l,
            fits a inner (after_variables n z),
            (made_more_cases free xs u v env l.state, fits_more_cases xs u v env l.state, refl),
          ),
        )
