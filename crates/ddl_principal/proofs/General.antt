-- Each typing of a form is what is made of it at some map of the types that the rules leave free.
use Rattle.std.proofs.Common.{◌≡◌, ◌≤◌, ℕ, zero, suc, ◌+◌, List, [], ◌∷◌, length, Option, Some, None, Bool, true, false, refl, ap, sym, ◌∙◌, arith}
use Rattle.ddl_base.specs.declared.span.Span.{Span}
use Rattle.ddl_kinds.specs.Kinds.{free_want}
use Rattle.ddl_kinds.specs.declared.builtin.BuiltIn.{BuiltIn}
use Rattle.ddl_kinds.specs.declared.builtin.BuiltIn.TheVariants as builtin
use Rattle.ddl_kinds.specs.declared.bound.Bound.{Bound}
use Rattle.ddl_kinds.specs.declared.bound.Bound.TheVariants as b
use Rattle.ddl_tree.specs.declared.kind.Kind.{Kind}
use Rattle.ddl_tree.specs.declared.kind.Kind.TheVariants as k
use Rattle.ddl_tree.specs.ClassTree as cls
use Rattle.ddl_tree.specs.ExprTree as ex
use Rattle.ddl_tree.specs.TypeTree as y
use Rattle.ddl_types.specs.Types.{Ty, Sub}
use Rattle.ddl_typed.specs.Tree as t
use Rattle.ddl_rules.specs.Asks.{Env, Known, State, after_variables, after_use, bound_next, with_value, unit_type, array, maybe, map_type}
use Rattle.ddl_rules.specs.ClassForms.{class_made}
use Rattle.ddl_rules.specs.Operators.{typing}
use Rattle.ddl_rules.specs.Patterns.{with_names}
use Rattle.ddl_typing.specs.Typed.{Typed, TypedAll, TypedNamed, TypedItems, TypedArgs, TypedCases, TypedBounds, TypedType, first_type, rest_types}
use Rattle.ddl_typing.specs.Operators.{infix_vars, an_infix, a_prefix, a_cast}
use Rattle.ddl_typing.specs.Values.{a_number, a_nothing, some_just, a_selection, some_parens, some_typed_parens, no_parts, first_part, one_more, an_array}
use Rattle.ddl_typing.specs.Values.{one_member, record_by, a_record, a_tag, a_union}
use Rattle.ddl_typing.specs.Grammars.{some_pure, some_optional, one_bound, two_bounds, a_repetition, a_choice, a_tagged_choice, result_item, let_item}
use Rattle.ddl_typing.specs.Grammars.{field_item, plain_item, block_by, a_block}
use Rattle.ddl_typing.specs.Branches.{an_if, pattern_vars, pattern_env, no_cases, first_case, one_case, a_case, guard_vars, a_guard, a_fold, a_map}
use Rattle.ddl_typing.specs.Names.{OneClass, target, no_arguments, wanted_at, next_kind, rest_kinds, before_argument, class_argument, an_argument}
use Rattle.ddl_typing.specs.Names.{behind_argument, texts_of, noted, a_named, a_class, of_bound, bound_vars, a_type}
use Rattle.ddl_typing.specs.Making.{types_from, content_type, made_type, made_name, made, made_all, made_more, made_members, made_args, made_bounds, made_items}
use Rattle.ddl_typing.specs.Making.{made_cases, made_more_cases}
use Rattle.ddl_typing.specs.Typing.{AreTypes, Writing, TypingName, Typing, TypingAll, TypingMore, TypingMembers, TypingArgs, TypingBounds, TypingItems}
use Rattle.ddl_typing.specs.Typing.{TypingCases, TypingMoreCases}
use Rattle.ddl_principal.proofs.Fronts.{Front, Opens, behind, Becomes, both, free_types, still, one, then_, so, up_to, opens_at}

-- ---- how many free types there were

prefix_next : (o : Rattle.ddl_tree.specs.declared.operator.PrefixOp.PrefixOp) (s : Span) (l : Typed) → l.state.next ≡ (a_prefix o s l).state.next
prefix_next Rattle.ddl_tree.specs.declared.operator.PrefixOp.TheVariants.Negate s l = refl
prefix_next Rattle.ddl_tree.specs.declared.operator.PrefixOp.TheVariants.Not s l = refl
prefix_next Rattle.ddl_tree.specs.declared.operator.PrefixOp.TheVariants.Complement s l = refl

cast_next : (o : Rattle.ddl_tree.specs.declared.operator.CastOp.CastOp) (s : Span) (l : Typed) (u : TypedType) → u.state.next ≡ (a_cast o s l u).state.next
cast_next Rattle.ddl_tree.specs.declared.operator.CastOp.TheVariants.Lossless s l u = refl
cast_next Rattle.ddl_tree.specs.declared.operator.CastOp.TheVariants.Cut s l u = refl
cast_next Rattle.ddl_tree.specs.declared.operator.CastOp.TheVariants.Fit s l u = refl

record_next : (xs : List (List ℕ)) (s : Span) (r : TypedNamed) → r.state.next ≡ (record_by xs s r).state.next
record_next [] s r = refl
record_next (x ∷ xs) s r = refl

block_next : (o : Option Ty) (xs : List (List ℕ)) (s : Span) (r : TypedItems) → r.state.next ≡ (block_by o xs s r).state.next
block_next (Some u) xs s r = refl
block_next None [] s r = refl
block_next None (x ∷ xs) s r = refl

noted_next : (o : Option Bound) (xs : List (List ℕ)) (z : State) → z.next ≡ (noted o xs z).next
noted_next (Some (b.Decl d)) xs z = refl
noted_next (Some (b.Local s)) xs z = refl
noted_next None xs z = refl
noted_next (Some (b.BuiltIn x)) xs z = of_builtin x xs
  where
    of_builtin : (x : BuiltIn) (xs : List (List ℕ)) → z.next ≡ (noted (Some (b.BuiltIn x)) xs z).next
    of_builtin builtin.Fail [] = refl
    of_builtin builtin.Fail (x ∷ []) = refl
    of_builtin builtin.Fail (x ∷ x2 ∷ xs) = refl
    of_builtin other xs = refl

class_made_next : (c : cls.Cls) (env : Env) (z : State) → z.next ≡ (class_made c env z).state.next
class_made_next (cls.Union l r s) env z = class_made_next l env z ∙ class_made_next r env (class_made l env z).state
class_made_next (cls.One x) env z = refl
class_made_next (cls.Range x w s) env z = refl
class_made_next (cls.Known x) env z = refl
class_made_next (cls.Other c s) env z = class_made_next c env z
class_made_next (cls.Grouped c s) env z = class_made_next c env z
class_made_next (cls.Set c s) env z = class_made_next c env z

class_next : (e : ex.Expr) (env : Env) (z : State) → z.next ≡ (class_argument e env z).state.next
class_next (ex.Class x) env z = refl
class_next (ex.Upper x) env z = refl
class_next (ex.Lower x) env z = refl
class_next (ex.CallGrammar x xs s) env z = refl
class_next (ex.CallValue x xs s) env z = refl
class_next (ex.Set c s) env z = class_made_next c env z
class_next (ex.Paren a u s) env z = class_next a env z
class_next e env z = refl

-- ---- written types

general_type : (x : y.TypeExpr) (known : ℕ → Known) (z : State) (m : TypedType) (φ : Front) → Opens z.next φ → Writing known x z m
    → Becomes m.state.next φ (λ f. made_type f known x z) m
general_type (y.Int s) known z m φ o h = so (λ w. w.state.next) h (still _ o)
general_type (y.Uint n s) known z m φ o h = so (λ w. w.state.next) h (still _ o)
general_type (y.Sint n s) known z m φ o h = so (λ w. w.state.next) h (still _ o)
general_type (y.Bool s) known z m φ o h = so (λ w. w.state.next) h (still _ o)
general_type (y.Stream s) known z m φ o h = so (λ w. w.state.next) h (still _ o)
general_type (y.Float s) known z m φ o h = so (λ w. w.state.next) h (still _ o)
general_type (y.Double s) known z m φ o h = so (λ w. w.state.next) h (still _ o)
general_type (y.Maybe x s) known z m φ o h = so (λ w. w.state.next) h.2 (one (λ w. a_type (maybe w.of) w.state) (general_type x known z h.0 φ o h.1))
general_type (y.ArrayOf x s) known z m φ o h = so (λ w. w.state.next) h.2 (one (λ w. a_type (array w.of) w.state) (general_type x known z h.0 φ o h.1))
general_type (y.MapOf x w s) known z m φ o h =
    let l = general_type x known z h.0 φ o h.1 in
    so (λ w. w.state.next) h.2.2 (then_ l (λ q f. made_type f known w q.state) (λ q r. a_type (map_type q.of r.of) r.state)
    (general_type w known h.0.state h.2.0 (behind φ l.given) l.opens h.2.1))
general_type (y.Empty s) known z m φ o h = so (λ w. w.state.next) h (still _ o)
general_type (y.Named x) known z m φ o h =
    let n = bound_vars (bound_next z.uses) known in
    so (λ w. w.state.next) h.2 (one (λ us. a_type (of_bound (bound_next z.uses) known us) (after_variables n (after_use z))) (free_types z.next n h.0 φ h.1 o))
general_type (y.Within x s) known z m φ o h = general_type x known z m φ o h

-- ---- names

general_name : (o : Option Bound) (kind : Kind) (s : Span) (env : Env) (z : State) (m : Typed) (φ : Front) → Opens z.next φ → TypingName o kind s env z m
    → Becomes m.state.next φ (λ f. made_name f o kind s env z) m
general_name o kind s env z m φ op h =
    let n = (target o env).vars in
    so (λ w. w.state.next) h.2 (up_to (noted_next o [] (after_variables n z))
    (one (λ us. a_named o kind s [] env us (no_arguments (after_variables n z))) (free_types z.next n h.0 φ h.1 op)))

abbrev Call : Option Bound → Kind → Span → ex.Exprs → Env → State → Typed → Type 0
Call o kind s xs env z m =
    (us : List Ty) × AreTypes (target o env).vars us
    × ((r : TypedArgs) × TypingArgs xs 0 (target o env).kinds (wanted_at (target o env) us) env (after_variables (target o env).vars z) r
    × (m ≡ a_named o kind s (texts_of xs) env us r))

abbrev made_call : Sub → Option Bound → Kind → Span → ex.Exprs → Env → State → Typed
made_call f o kind s xs env z = let it = target o env in let us = types_from f z.next it.vars in
    a_named o kind s (texts_of xs) env us (made_args f xs 0 it.kinds (wanted_at it us) env (after_variables it.vars z))

-- given what becomes of the arguments
abbrev ArgsAreGeneral : ex.Exprs → Type 0
ArgsAreGeneral xs = (i : ℕ) (ks : List Kind) (us : List Ty) (env : Env) (z : State) (m : TypedArgs) (φ : Front) → Opens z.next φ → TypingArgs xs i ks us env z m
    → Becomes m.state.next φ (λ f. made_args f xs i ks us env z) m

abbrev IsGeneral : ex.Expr → Type 0
IsGeneral e = (env : Env) (z : State) (m : Typed) (φ : Front) → Opens z.next φ → Typing e env z m → Becomes m.state.next φ (λ f. made f e env z) m

general_call : (o : Option Bound) (kind : Kind) (s : Span) (xs : ex.Exprs) (env : Env) (z : State) (m : Typed) (φ : Front) → ArgsAreGeneral xs → Opens z.next φ
    → Call o kind s xs env z m → Becomes m.state.next φ (λ f. made_call f o kind s xs env z) m
general_call o kind s xs env z m φ ih op h =
    let it = target o env in let n = it.vars in
    let us = free_types z.next n h.0 φ h.1 op in
    so (λ w. w.state.next) h.2.2 (up_to (noted_next o (texts_of xs) h.2.0.state)
    (then_ us (λ vs f. made_args f xs 0 it.kinds (wanted_at it vs) env (after_variables n z)) (λ vs r. a_named o kind s (texts_of xs) env vs r)
    (ih 0 it.kinds (wanted_at it h.0) env (after_variables n z) h.2.0 (behind φ us.given) us.opens h.2.1)))

abbrev Argument : Kind → ex.Expr → ex.Exprs → ℕ → List Kind → List Ty → Env → State → TypedArgs → Type 0
Argument kind a xs i ks us env z m =
    (l : Typed) × Typing a env (before_argument kind z) l
    × ((r : TypedArgs) × TypingArgs xs (suc i) (rest_kinds ks) (rest_types us) env (behind_argument kind (class_argument a env z) l) r
    × (m ≡ an_argument kind i (first_type us) z.sites (class_argument a env z) l r))

abbrev made_argument : Sub → Kind → ex.Expr → ex.Exprs → ℕ → List Kind → List Ty → Env → State → TypedArgs
made_argument f kind a xs i ks us env z = let c = class_argument a env z in let l = made f a env (before_argument kind z) in
    an_argument kind i (first_type us) z.sites c l (made_args f xs (suc i) (rest_kinds ks) (rest_types us) env (behind_argument kind c l))

general_argument : (kind : Kind) (a : ex.Expr) (xs : ex.Exprs) (i : ℕ) (ks : List Kind) (us : List Ty) (env : Env) (z : State) (m : TypedArgs) (φ : Front)
    → IsGeneral a → ArgsAreGeneral xs → Opens z.next φ
    → Argument kind a xs i ks us env z m → Becomes m.state.next φ (λ f. made_argument f kind a xs i ks us env z) m
general_argument k.Class a xs i ks us env z m φ ia ixs o h =
    let c = class_argument a env z in
    so (λ w. w.state.next) h.2.2 (one (λ r. an_argument k.Class i (first_type us) z.sites c h.0 r)
    (ixs (suc i) (rest_kinds ks) (rest_types us) env c.state h.2.0 φ (opens_at (class_next a env z) o) h.2.1))
general_argument k.Grammar a xs i ks us env z m φ ia ixs o h =
    let c = class_argument a env z in let l = ia env (before_argument k.Grammar z) h.0 φ o h.1 in
    so (λ w. w.state.next) h.2.2 (then_ l (λ q f. made_args f xs (suc i) (rest_kinds ks) (rest_types us) env q.state)
    (an_argument k.Grammar i (first_type us) z.sites c)
    (ixs (suc i) (rest_kinds ks) (rest_types us) env h.0.state h.2.0 (behind φ l.given) l.opens h.2.1))
general_argument k.Value a xs i ks us env z m φ ia ixs o h =
    let c = class_argument a env z in let l = ia env z h.0 φ o h.1 in
    so (λ w. w.state.next) h.2.2 (then_ l (λ q f. made_args f xs (suc i) (rest_kinds ks) (rest_types us) env q.state)
    (an_argument k.Value i (first_type us) z.sites c)
    (ixs (suc i) (rest_kinds ks) (rest_types us) env h.0.state h.2.0 (behind φ l.given) l.opens h.2.1))
general_argument k.Bits a xs i ks us env z m φ ia ixs o h =
    let c = class_argument a env z in let l = ia env z h.0 φ o h.1 in
    so (λ w. w.state.next) h.2.2 (then_ l (λ q f. made_args f xs (suc i) (rest_kinds ks) (rest_types us) env q.state)
    (an_argument k.Bits i (first_type us) z.sites c)
    (ixs (suc i) (rest_kinds ks) (rest_types us) env h.0.state h.2.0 (behind φ l.given) l.opens h.2.1))

-- ---- forms

mutual
  pub general : (e : ex.Expr) (env : Env) (z : State) (m : Typed) (φ : Front) → Opens z.next φ → Typing e env z m
      → Becomes m.state.next φ (λ f. made f e env z) m
  general (ex.Infix op a b s) env z m φ o h =
      let x = general a env z h.0 φ o h.1 in let r = general b env h.0.state h.2.0 (behind φ x.given) x.opens h.2.1 in let n = infix_vars (typing op) in
      let us = free_types h.2.0.state.next n h.2.2.0 (behind (behind φ x.given) r.given) h.2.2.1 r.opens in
      so (λ w. w.state.next) h.2.2.2
      (then_ x (λ l f. let q = made f b env l.state in both q (types_from f q.state.next n)) (λ l p. an_infix (typing op) s l p.0 (first_type p.1))
      (then_ r (λ q f. types_from f q.state.next n) (λ q us. both q us) us))
  general (ex.Pure a s) env z m φ o h = so (λ w. w.state.next) h.2 (one (some_pure s) (general a env z h.0 φ o h.1))
  general (ex.If q a b s) env z m φ o h =
      let x = general q env z h.0 φ o h.1 in let l = general a env h.0.state h.2.0 (behind φ x.given) x.opens h.2.1 in
      so (λ w. w.state.next) h.2.2.2
      (then_ x (λ q f. let l = made f a env q.state in both l (made f b env l.state)) (λ q p. an_if s q p.0 p.1)
      (then_ l (λ l f. made f b env l.state) (λ l r. both l r) (general b env h.2.0.state h.2.2.0 (behind (behind φ x.given) l.given) l.opens h.2.2.1)))
  general (ex.For x i ns l b s) env z m φ o h =
      let begun = h.0 in let over = h.2.0 in let u = h.2.2.0 in let v = h.2.2.1.0 in let body = h.2.2.1.1.0 in
      let p = general i env z begun φ o h.1 in let q = general l env begun.state over (behind φ p.given) p.opens h.2.1 in
      let us = free_types over.state.next 2 (u ∷ v ∷ []) (behind (behind φ p.given) q.given) refl q.opens in
      let inner = with_value x.span begun.of env in
      let r = general b (with_names ns.first.span ns.second u v inner) (after_variables 2 over.state) body (behind (behind (behind φ p.given) q.given) us.given)
      us.opens h.2.2.1.1.1 in
      so (λ w. w.state.next) h.2.2.1.1.2
      (then_ p (λ c f. let w = made f l env c.state in let ts =
      types_from f w.state.next 2 in both w (both ts (made f b
      (with_names ns.first.span ns.second (first_type ts) (first_type (rest_types ts)) (with_value x.span c.of env)) (after_variables 2 w.state))))
      (λ c d. a_fold ns env (with_value x.span c.of env) s c d.0 (first_type d.1.0) (first_type (rest_types d.1.0)) d.1.1)
      (then_ q (λ w f. let ts = types_from f w.state.next 2
      in both ts (made f b (with_names ns.first.span ns.second (first_type ts) (first_type (rest_types ts)) inner) (after_variables 2 w.state))) (λ w d.
      both w d)
      (then_ us (λ ts f. made f b (with_names ns.first.span ns.second (first_type ts) (first_type (rest_types ts)) inner) (after_variables 2 over.state))
      (λ ts d. both ts d) r)))
  general (ex.Map ns l b s) env z m φ o h =
      let over = h.0 in let u = h.2.0 in let v = h.2.1.0 in let w = h.2.1.1.0 in let body = h.2.1.1.1.0 in
      let q = general l env z over φ o h.1 in
      let us = free_types over.state.next 3 (u ∷ v ∷ w ∷ []) (behind φ q.given) refl q.opens in
      let r = general b (with_names ns.first.span ns.second u v env) (after_variables 3 over.state) body (behind (behind φ q.given) us.given) us.opens
      h.2.1.1.1.1 in
      so (λ w. w.state.next) h.2.1.1.1.2
      (then_ q (λ w f. let ts = types_from f w.state.next 3
      in both ts (made f b (with_names ns.first.span ns.second (first_type ts) (first_type (rest_types ts)) env) (after_variables 3 w.state)))
      (λ w d. a_map ns env s w (first_type d.0) (first_type (rest_types d.0)) (first_type (rest_types (rest_types d.0))) d.1)
      (then_ us (λ ts f. made f b (with_names ns.first.span ns.second (first_type ts) (first_type (rest_types ts)) env) (after_variables 3 over.state)) (λ ts d.
      both ts d) r))
  general (ex.Is a p s) env z m φ o h =
      let x = general a env z h.0 φ o h.1 in let us = free_types h.0.state.next (guard_vars p) h.2.0 (behind φ x.given) h.2.1 x.opens in
      so (λ w. w.state.next) h.2.2 (then_ x (λ l f. types_from f l.state.next (guard_vars p)) (λ l us. a_guard p s l (first_type us)) us)
  general (ex.Prefix op a s) env z m φ o h = so (λ w. w.state.next) h.2 (up_to (prefix_next op s h.0) (one (a_prefix op s) (general a env z h.0 φ o h.1)))
  general (ex.Cast op a u s) env z m φ o h =
      let x = general a env z h.0 φ o h.1 in
      so (λ w. w.state.next) h.2.2 (up_to (cast_next op s h.0 h.2.0)
      (then_ x (λ l f. made_type f env.known u l.state) (a_cast op s) (general_type u env.known h.0.state h.2.0 (behind φ x.given) x.opens h.2.1)))
  general (ex.CallGrammar x xs s) env z m φ o h = general_call (bound_next z.uses) k.Grammar s xs env (after_use z) m φ (λ i ks us env2 z2 m2 φ2 o2 h2.
      general_args xs i ks us env2 z2 m2 φ2 o2 h2) o h
  general (ex.CallValue x xs s) env z m φ o h = general_call (bound_next z.uses) k.Value s xs env (after_use z) m φ (λ i ks us env2 z2 m2 φ2 o2 h2.
      general_args xs i ks us env2 z2 m2 φ2 o2 h2) o h
  general (ex.Just a s) env z m φ o h = so (λ w. w.state.next) h.2 (one (some_just s) (general a env z h.0 φ o h.1))
  general (ex.Many op n a s) env z m φ o h =
      let x = general_bounds n env z h.0 φ o h.1 in
      so (λ w. w.state.next) h.2.2 (then_ x (λ c f. made f a env c.state) (a_repetition op s) (general a env h.0.state h.2.0 (behind φ x.given) x.opens h.2.1))
  general (ex.Optional op a s) env z m φ o h = so (λ w. w.state.next) h.2 (one (some_optional op s) (general a env z h.0 φ o h.1))
  general (ex.Select a x s) env z m φ o h =
      let l = general a env z h.0 φ o h.1 in let us = free_types h.0.state.next 1 (h.2.0 ∷ []) (behind φ l.given) refl l.opens in
      so (λ w. w.state.next) h.2.1 (then_ l (λ w f. types_from f w.state.next 1) (λ w us. a_selection x s w (first_type us)) us)
  general (ex.Num n) env z m φ o h = so (λ w. w.state.next) h.1 (one (λ us. a_number n z (first_type us)) (free_types z.next 1 (h.0 ∷ []) φ refl o))
  general (ex.Char b s) env z m φ o h = so (λ w. w.state.next) h (still _ o)
  general (ex.Text bs s) env z m φ o h = so (λ w. w.state.next) h (still _ o)
  general (ex.True s) env z m φ o h = so (λ w. w.state.next) h (still _ o)
  general (ex.False s) env z m φ o h = so (λ w. w.state.next) h (still _ o)
  general (ex.Nothing s) env z m φ o h = so (λ w. w.state.next) h.1 (one (λ us. a_nothing s z (first_type us)) (free_types z.next 1 (h.0 ∷ []) φ refl o))
  general (ex.Upper x) env z m φ o h = general_name (bound_next z.uses) k.Grammar x.span env (after_use z) m φ o h
  general (ex.Lower x) env z m φ o h = general_name (bound_next z.uses) k.Value x.span env (after_use z) m φ o h
  general (ex.Class x) env z m φ o h = so (λ w. w.state.next) h (still _ o)
  general (ex.Set c s) env z m φ o h = so (λ w. w.state.next) h (up_to (class_next (ex.Set c s) env z) (still _ o))
  general (ex.Paren a None s) env z m φ o h = so (λ w. w.state.next) h.2 (one (some_parens s) (general a env z h.0 φ o h.1))
  general (ex.Paren a (Some u) s) env z m φ o h =
      let x = general a env z h.0 φ o h.1 in
      so (λ w. w.state.next) h.2.2 (then_ x (λ l f. made_type f env.known u l.state) (some_typed_parens s)
      (general_type u env.known h.0.state h.2.0 (behind φ x.given) x.opens h.2.1))
  general (ex.Array xs s) env z m φ o h = so (λ w. w.state.next) h.2 (one (an_array s) (general_all xs env z h.0 φ o h.1))
  general (ex.RecordOf bs s) env z m φ o h = so (λ w. w.state.next) h.2
      (up_to (record_next h.0.names s h.0) (one (a_record s) (general_members false bs env z h.0 φ o h.1)))
  general (ex.Tag x s) env z m φ o h = so (λ w. w.state.next) h.1 (one (λ us. a_tag x s z (first_type us)) (free_types z.next 1 (h.0 ∷ []) φ refl o))
  general (ex.TagWith x a s) env z m φ o h =
      let us = free_types z.next 1 (h.0 ∷ []) φ refl o in
      so (λ w. w.state.next) h.1.2 (then_ us (λ us f. made f a env (after_variables 1 z)) (λ us l. a_union x s (first_type us) l)
      (general a env (after_variables 1 z) h.1.0 (behind φ us.given) us.opens h.1.1))
  general (ex.Block is s) env z m φ o h = so (λ w. w.state.next) h.2
      (up_to (block_next h.0.result h.0.names s h.0) (one (a_block s) (general_items is unit_type env z h.0 φ o h.1)))
  general (ex.Choice op (ex.WithTags bs) s) env z m φ o h = so (λ w. w.state.next) h.2 (one (a_tagged_choice op s) (general_members true bs env z h.0 φ o h.1))
  general (ex.Choice op (ex.Untagged xs) s) env z m φ o h = so (λ w. w.state.next) h.2 (one (a_choice op s) (general_all xs env z h.0 φ o h.1))
  general (ex.Case a xs s) env z m φ o h =
      let x = general a env z h.0 φ o h.1 in
      so (λ w. w.state.next) h.2.2 (then_ x (λ l f. made_cases f xs l.of env l.state) (a_case s)
      (general_cases xs h.0.of env h.0.state h.2.0 (behind φ x.given) x.opens h.2.1))

  general_all : (xs : ex.Exprs) (env : Env) (z : State) (m : TypedAll) (φ : Front) → Opens z.next φ → TypingAll xs env z m
      → Becomes m.state.next φ (λ f. made_all f xs env z) m
  general_all ex.no_exprs env z m φ o h = so (λ w. w.state.next) h.1 (one (λ us. no_parts z (first_type us)) (free_types z.next 1 (h.0 ∷ []) φ refl o))
  general_all (ex.an_expr a xs) env z m φ o h =
      let x = general a env z h.0 φ o h.1 in
      so (λ w. w.state.next) h.2.2 (then_ x (λ l f. made_more f xs l.of env l.state) first_part
      (general_more xs h.0.of env h.0.state h.2.0 (behind φ x.given) x.opens h.2.1))

  general_more : (xs : ex.Exprs) (u : Ty) (env : Env) (z : State) (m : TypedAll) (φ : Front) → Opens z.next φ → TypingMore xs u env z m
      → Becomes m.state.next φ (λ f. made_more f xs u env z) m
  general_more ex.no_exprs u env z m φ o h = so (λ w. w.state.next) h (still _ o)
  general_more (ex.an_expr a xs) u env z m φ o h =
      let x = general a env z h.0 φ o h.1 in
      so (λ w. w.state.next) h.2.2 (then_ x (λ l f. made_more f xs u env l.state) (one_more u)
      (general_more xs u env h.0.state h.2.0 (behind φ x.given) x.opens h.2.1))

  general_members : (free : Bool) (bs : ex.Bindings) (env : Env) (z : State) (m : TypedNamed) (φ : Front) → Opens z.next φ → TypingMembers free bs env z m
      → Becomes m.state.next φ (λ f. made_members f free bs env z) m
  general_members free ex.no_bindings env z m φ o h = so (λ w. w.state.next) h (still _ o)
  general_members free (ex.a_binding x a s bs) env z m φ o h =
      let l = general a env z h.0 φ o h.1 in
      so (λ w. w.state.next) h.2.2 (then_ l (λ l f. made_members f free bs env l.state) (one_member free (free_want a) x)
      (general_members free bs env h.0.state h.2.0 (behind φ l.given) l.opens h.2.1))

  general_args : (xs : ex.Exprs) (i : ℕ) (ks : List Kind) (us : List Ty) (env : Env) (z : State) (m : TypedArgs) (φ : Front) → Opens z.next φ
      → TypingArgs xs i ks us env z m → Becomes m.state.next φ (λ f. made_args f xs i ks us env z) m
  general_args ex.no_exprs i ks us env z m φ o h = so (λ w. w.state.next) h (still _ o)
  general_args (ex.an_expr a xs) i ks us env z m φ o h =
      general_argument (next_kind ks) a xs i ks us env z m φ (λ env2 z2 m2 φ2 o2 h2. general a env2 z2 m2 φ2 o2 h2) (λ i2 ks2 us2 env2 z2 m2 φ2 o2 h2.
      general_args xs i2 ks2 us2 env2 z2 m2 φ2 o2 h2) o h

  general_bounds : (n : ex.Bound) (env : Env) (z : State) (m : TypedBounds) (φ : Front) → Opens z.next φ → TypingBounds n env z m
      → Becomes m.state.next φ (λ f. made_bounds f n env z) m
  general_bounds ex.Free env z m φ o h = so (λ w. w.state.next) h (still _ o)
  general_bounds (ex.Exactly a) env z m φ o h = so (λ w. w.state.next) h.2 (one (one_bound t.exactly) (general a env z h.0 φ o h.1))
  general_bounds (ex.AtLeast a s) env z m φ o h = so (λ w. w.state.next) h.2 (one (one_bound t.from_) (general a env z h.0 φ o h.1))
  general_bounds (ex.AtMost a s) env z m φ o h = so (λ w. w.state.next) h.2 (one (one_bound t.up_to) (general a env z h.0 φ o h.1))
  general_bounds (ex.Between a b s) env z m φ o h =
      let x = general a env z h.0 φ o h.1 in
      so (λ w. w.state.next) h.2.2 (then_ x (λ l f. made f b env l.state) two_bounds (general b env h.0.state h.2.0 (behind φ x.given) x.opens h.2.1))

  general_items : (is : ex.Items) (u : Ty) (env : Env) (z : State) (m : TypedItems) (φ : Front) → Opens z.next φ → TypingItems is u env z m
      → Becomes m.state.next φ (λ f. made_items f is u env z) m
  general_items ex.no_items u env z m φ o h = so (λ w. w.state.next) h (still _ o)
  general_items (ex.an_item (ex.Result a s) is) u env z m φ o h =
      let x = general a env z h.0 φ o h.1 in
      so (λ w. w.state.next) h.2.2 (then_ x (λ l f. made_items f is l.of env l.state) (result_item (free_want a))
      (general_items is h.0.of env h.0.state h.2.0 (behind φ x.given) x.opens h.2.1))
  general_items (ex.an_item (ex.Let x a s) is) u env z m φ o h =
      let l = general a env z h.0 φ o h.1 in
      so (λ w. w.state.next) h.2.2 (then_ l (λ l f. made_items f is unit_type (with_value x.span l.of env) l.state) (let_item (free_want a) (length env.locals))
      (general_items is unit_type (with_value x.span h.0.of env) h.0.state h.2.0 (behind φ l.given) l.opens h.2.1))
  general_items (ex.an_item (ex.Field x a s) is) u env z m φ o h =
      let l = general a env z h.0 φ o h.1 in
      so (λ w. w.state.next) h.2.2 (then_ l (λ l f. made_items f is unit_type (with_value x.span l.of env) l.state)
      (field_item (free_want a) x (length env.locals))
      (general_items is unit_type (with_value x.span h.0.of env) h.0.state h.2.0 (behind φ l.given) l.opens h.2.1))
  general_items (ex.an_item (ex.Plain a) is) u env z m φ o h =
      let x = general a env z h.0 φ o h.1 in
      so (λ w. w.state.next) h.2.2 (then_ x (λ l f. made_items f is l.of env l.state) plain_item
      (general_items is h.0.of env h.0.state h.2.0 (behind φ x.given) x.opens h.2.1))

  general_cases : (xs : ex.Alts) (u : Ty) (env : Env) (z : State) (m : TypedCases) (φ : Front) → Opens z.next φ → TypingCases xs u env z m
      → Becomes m.state.next φ (λ f. made_cases f xs u env z) m
  general_cases ex.no_alts u env z m φ o h = so (λ w. w.state.next) h.1 (one (λ us. no_cases z (first_type us)) (free_types z.next 1 (h.0 ∷ []) φ refl o))
  general_cases (ex.an_alt p a s xs) u env z m φ o h =
      let n = pattern_vars p in let us = free_types z.next n h.0 φ h.1 o in let c = first_type h.0 in
      let x = general a (pattern_env p c env) (after_variables n z) h.2.0 (behind φ us.given) us.opens h.2.1 in
      so (λ w. w.state.next) h.2.2.2
      (then_ us (λ us f. let l = made f a (pattern_env p (first_type us) env) (after_variables n z) in both l (made_more_cases f xs u l.of env l.state))
      (λ us d. first_case p u env (first_type us) d.0 d.1)
      (then_ x (λ l f. made_more_cases f xs u l.of env l.state) (λ l r.
      both l r) (general_more_cases xs u h.2.0.of env h.2.0.state h.2.2.0 (behind (behind φ us.given) x.given) x.opens h.2.2.1)))

  general_more_cases : (xs : ex.Alts) (u v : Ty) (env : Env) (z : State) (m : TypedCases) (φ : Front) → Opens z.next φ → TypingMoreCases xs u v env z m
      → Becomes m.state.next φ (λ f. made_more_cases f xs u v env z) m
  general_more_cases ex.no_alts u v env z m φ o h = so (λ w. w.state.next) h (still _ o)
  general_more_cases (ex.an_alt p a s xs) u v env z m φ o h =
      let n = pattern_vars p in let us = free_types z.next n h.0 φ h.1 o in let c = first_type h.0 in
      let x = general a (pattern_env p c env) (after_variables n z) h.2.0 (behind φ us.given) us.opens h.2.1 in
      so (λ w. w.state.next) h.2.2.2
      (then_ us (λ us f. let l = made f a (pattern_env p (first_type us) env) (after_variables n z) in both l (made_more_cases f xs u v env l.state)) (λ us d.
      one_case p u v env (first_type us) d.0 d.1)
      (then_ x (λ l f. made_more_cases f xs u v env l.state) (λ l r.
      both l r) (general_more_cases xs u v env h.2.0.state h.2.2.0 (behind (behind φ us.given) x.given) x.opens h.2.2.1)))
