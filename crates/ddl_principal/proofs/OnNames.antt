-- The rules of names, arguments, classes and written types commute with replacing types.
use Rattle.std.proofs.Common.{◌≡◌, ℕ, zero, suc, ◌+◌, ◌<◌, ◌≤◌, List, [], ◌∷◌, ◌++◌, map, length, get_or, Option, Some, None, Bool, true, false, refl, ap, sym}
use Rattle.std.proofs.Common.{◌∙◌, arith, subst}
use Rattle.ddl_base.specs.declared.span.Span.{Span}
use Rattle.ddl_kinds.specs.declared.builtin.BuiltIn.{BuiltIn}
use Rattle.ddl_kinds.specs.declared.builtin.BuiltIn.TheVariants as builtin
use Rattle.ddl_kinds.specs.declared.bound.Bound.{Bound}
use Rattle.ddl_kinds.specs.declared.bound.Bound.TheVariants as b
use Rattle.ddl_tree.specs.declared.kind.Kind.{Kind}
use Rattle.ddl_tree.specs.declared.kind.Kind.TheVariants as k
use Rattle.ddl_tree.specs.declared.name.ByteLit.{ByteLit}
use Rattle.ddl_tree.specs.declared.name.ByteLit.TheVariants.{Code, Quoted}
use Rattle.ddl_tree.specs.ClassTree as y
use Rattle.ddl_tree.specs.ExprTree as ex
use Rattle.ddl_types.specs.Types.{Ty, Ty.var, Ty.con, Tys, Tys.none, Tys.more, Sub, on, on_all, arguments, Below, BelowAll}
use Rattle.ddl_types.specs.Conditions.{Condition, num, word, lit, key, lossless, cut, fit, cat, field, tag, loops, on_condition, ConditionBelow}
use Rattle.ddl_ops.specs.declared.operators.Builtin.TheVariants as bu
use Rattle.ddl_ops.specs.declared.operators.Primitive.TheVariants as pr
use Rattle.ddl_typed.specs.Tree as t
use Rattle.ddl_typed.specs.View.{exprs_of}
use Rattle.ddl_rules.specs.Asks.{Ask, Env, Known, Local, State, asks_for, wants, local_at, bound_next, unit_type, unknown}
use Rattle.ddl_rules.specs.BuiltInTypes.{builtin_form}
use Rattle.ddl_rules.specs.ClassForms.{MadeClass, byte_asks, class_made, named_class, number_of}
use Rattle.ddl_typing.specs.Retyped.{retyped, retyped_form, retyped_args, retyped_all}
use Rattle.ddl_typing.specs.Replaced.{types_on, tree_on, trees_on, asks_on, ask_on, state_on, local_on, locals_on, conditions_on, known_by, known_on}
use Rattle.ddl_typing.specs.Replaced.{all_known_on, env_on, typed_on, args_on, class_on}
use Rattle.ddl_typing.specs.Typed.{Typed, TypedArgs, typed, tree_of}
use Rattle.ddl_typing.specs.Closed.{EachIsBelow, EachConditionBelow, ClosesBy, Closes, AreClosed}
use Rattle.ddl_typing.specs.Names.{OneClass, at_types, condition_at, builtin_known, local_known, target, wanted_at, next_kind, before_argument, class_argument}
use Rattle.ddl_typing.specs.Names.{class_of_name, an_argument, behind_argument, types_first, calling, local_form, named_form, noted, a_named, of_bound}
use Rattle.ddl_typing.specs.Names.{bound_vars}
use Rattle.ddl_principal.proofs.Lists.{asks_append, same_typed, option_local, local_found}

-- ---- schemes at types

get_on : (us : List Ty) (f : Sub) (v : ℕ) (d e : Ty) → v < length us → on (get_or us v d) f ≡ get_or (types_on us f) v e
get_on [] f v d e h = absurd (omega (arith, h))
get_on (u ∷ us) f zero d e h = refl
get_on (u ∷ us) f (suc v) d e h = get_on us f v d e (omega (arith, h))

mutual
  pub instance_on : (u : Ty) (us : List Ty) (f : Sub) (n : ℕ) → Below u n → n ≤ length us → on (on u (arguments us)) f ≡ on u (arguments (types_on us f))
  instance_on (var v) us f n b h = get_on us f v (var v) (var v) (omega (arith, b, h))
  instance_on (con c ts) us f n b h = ap (con c) (instances_on ts us f n b h)

  instances_on : (ts : Tys) (us : List Ty) (f : Sub) (n : ℕ) → BelowAll ts n → n ≤ length us
      → on_all (on_all ts (arguments us)) f ≡ on_all ts (arguments (types_on us f))
  instances_on none us f n b h = refl
  instances_on (more u ts) us f n b h = let x = instance_on u us f n b.0 h in let z = instances_on ts us f n b.1 h in cc

condition_on : (c : Condition) (us : List Ty) (f : Sub) (n : ℕ) → ConditionBelow n c → n ≤ length us
    → on_condition f (on_condition (arguments us) c) ≡ on_condition (arguments (types_on us f)) c
condition_on (num x) us f n b h = ap num (instance_on x us f n b h)
condition_on (word x) us f n b h = ap word (instance_on x us f n b h)
condition_on (lit i x) us f n b h = ap (lit i) (instance_on x us f n b h)
condition_on (key x) us f n b h = ap key (instance_on x us f n b h)
condition_on (lossless x z) us f n b h = let a = instance_on x us f n b.0 h in let c = instance_on z us f n b.1 h in cc
condition_on (cut x z) us f n b h = let a = instance_on x us f n b.0 h in let c = instance_on z us f n b.1 h in cc
condition_on (fit x z) us f n b h = let a = instance_on x us f n b.0 h in let c = instance_on z us f n b.1 h in cc
condition_on (cat x z w) us f n b h = let a = instance_on x us f n b.0 h in let c = instance_on z us f n b.1 h in let d = instance_on w us f n b.2 h in cc
condition_on (field x i z) us f n b h = let a = instance_on x us f n b.0 h in let c = instance_on z us f n b.1 h in cc
condition_on (tag x i z) us f n b h = let a = instance_on x us f n b.0 h in let c = instance_on z us f n b.1 h in cc
condition_on (loops x z w) us f n b h = let a = instance_on x us f n b.0 h in let c = instance_on z us f n b.1 h in let d = instance_on w us f n b.2 h in cc

-- what a use of a scheme of so many variables is, asks and wants
of_on : (n : ℕ) (it : Known) (us : List Ty) (f : Sub) → ClosesBy n it → length us ≡ n
    → on (at_types n us it.of) f ≡ at_types n (types_on us f) (known_by n it f).of
of_on zero it us f c h = refl
of_on (suc n) it us f c h = instance_on it.of us f (suc n) c.1 (omega (arith, h))

-- the conditions of a use, and what is asked behind them
abbrev use_asks : ℕ → List Condition → List Ty → Span → List Ask → List Ask
use_asks n cs us s as_ = map (λ c. asks_for (condition_at n us c) s) cs ++ as_

asks_zero : (cs : List Condition) (us vs : List Ty) (s : Span) (as_ : List Ask) (f : Sub)
    → asks_on (use_asks 0 cs us s as_) f ≡ use_asks 0 (conditions_on cs f) vs s (asks_on as_ f)
asks_zero [] us vs s as_ f = refl
asks_zero (c ∷ cs) us vs s as_ f = ap (λ x. asks_for (on_condition f c) s ∷ x) (asks_zero cs us vs s as_ f)

asks_suc : (cs : List Condition) (us : List Ty) (s : Span) (as_ : List Ask) (f : Sub) (n : ℕ) → EachConditionBelow cs (suc n) → suc n ≤ length us
    → asks_on (use_asks (suc n) cs us s as_) f ≡ use_asks (suc n) cs (types_on us f) s (asks_on as_ f)
asks_suc [] us s as_ f n b h = refl
asks_suc (c ∷ cs) us s as_ f n b h = ap (λ d. asks_for d s ∷ asks_on (use_asks (suc n) cs us s as_) f) (condition_on c us f (suc n) b.0 h)
    ∙ ap (λ x. asks_for (condition_at (suc n) (types_on us f) c) s ∷ x) (asks_suc cs us s as_ f n b.1 h)

use_asks_on : (n : ℕ) (it : Known) (us : List Ty) (s : Span) (as_ : List Ask) (f : Sub) → ClosesBy n it → length us ≡ n
    → asks_on (use_asks n it.conditions us s as_) f ≡ use_asks n (known_by n it f).conditions (types_on us f) s (asks_on as_ f)
use_asks_on zero it us s as_ f c h = asks_zero it.conditions us (types_on us f) s as_ f
use_asks_on (suc n) it us s as_ f c h = asks_suc it.conditions us s as_ f n c.2 (omega (arith, h))

params_zero : (ps us vs : List Ty) (f : Sub) → types_on (map (at_types 0 us) ps) f ≡ map (at_types 0 vs) (types_on ps f)
params_zero [] us vs f = refl
params_zero (p ∷ ps) us vs f = ap (λ x. on p f ∷ x) (params_zero ps us vs f)

params_suc : (ps us : List Ty) (f : Sub) (n : ℕ) → EachIsBelow ps (suc n) → suc n ≤ length us
    → types_on (map (at_types (suc n) us) ps) f ≡ map (at_types (suc n) (types_on us f)) ps
params_suc [] us f n b h = refl
params_suc (p ∷ ps) us f n b h = let x = instance_on p us f (suc n) b.0 h in let z = params_suc ps us f n b.1 h in cc

params_on : (n : ℕ) (it : Known) (us : List Ty) (f : Sub) → ClosesBy n it → length us ≡ n
    → types_on (map (at_types n us) it.params) f ≡ map (at_types n (types_on us f)) (known_by n it f).params
params_on zero it us f c h = params_zero it.params us (types_on us f) f
params_on (suc n) it us f c h = params_suc it.params us f n c.0 (omega (arith, h))

pub vars_by : (n : ℕ) (it : Known) (f : Sub) → (known_by n it f).vars ≡ it.vars
vars_by zero it f = refl
vars_by (suc n) it f = refl

pub kinds_by : (n : ℕ) (it : Known) (f : Sub) → (known_by n it f).kinds ≡ it.kinds
kinds_by zero it f = refl
kinds_by (suc n) it f = refl

-- ---- what names are bound to

builtin_on : (x : BuiltIn) (f : Sub) → builtin_known x ≡ known_on (builtin_known x) f
builtin_on builtin.UInt8 f = refl
builtin_on builtin.Match f = refl
builtin_on builtin.End f = refl
builtin_on builtin.GetStream f = refl
builtin_on builtin.Offset f = refl
builtin_on builtin.SetStream f = refl
builtin_on builtin.Take f = refl
builtin_on builtin.Drop f = refl
builtin_on builtin.Index f = refl
builtin_on builtin.Lookup f = refl
builtin_on builtin.Insert f = refl
builtin_on builtin.Fail f = refl
builtin_on builtin.Length f = refl
builtin_on builtin.Concat f = refl
builtin_on builtin.ArrayStream f = refl
builtin_on builtin.BytesOfStream f = refl
builtin_on builtin.Empty f = refl
builtin_on builtin.Put f = refl
builtin_on builtin.Seek f = refl

local_known_on : (l : Option Local) (f : Sub) → local_known (option_local l f) ≡ known_on (local_known l) f
local_known_on None f = refl
local_known_on (Some l) f = refl

pub target_on : (o : Option Bound) (env : Env) (f : Sub) → target o (env_on env f) ≡ known_on (target o env) f
target_on (Some (b.Decl d)) env f = refl
target_on (Some (b.BuiltIn x)) env f = builtin_on x f
target_on (Some (b.Local s)) env f = ap local_known (local_found env.locals s f) ∙ local_known_on (local_at s env.locals) f
target_on None env f = refl

builtin_closes : (x : BuiltIn) → Closes (builtin_known x)
builtin_closes builtin.UInt8 = tt
builtin_closes builtin.Match = tt
builtin_closes builtin.End = tt
builtin_closes builtin.GetStream = tt
builtin_closes builtin.Offset = tt
builtin_closes builtin.SetStream = tt
builtin_closes builtin.Take = tt
builtin_closes builtin.Drop = tt
builtin_closes builtin.Index = let z : 0 < 1 = omega arith in (((z, tt), (tt, tt)), z, tt)
builtin_closes builtin.Lookup = let z : 0 < 2 = omega arith in let o : 1 < 2 = omega arith in ((z, ((z, (o, tt)), tt)), o, (z, tt))
builtin_closes builtin.Insert = let z : 0 < 2 = omega arith in let o : 1 < 2 = omega arith in ((z, (o, ((z, (o, tt)), tt))), (z, (o, tt)), (z, tt))
builtin_closes builtin.Fail = let z : 0 < 1 = omega arith in (((tt, tt), tt), z, tt)
builtin_closes builtin.Length = let z : 0 < 1 = omega arith in (((z, tt), tt), tt, tt)
builtin_closes builtin.Concat = let z : 0 < 1 = omega arith in ((((z, tt), tt), tt), (z, tt), tt)
builtin_closes builtin.ArrayStream = tt
builtin_closes builtin.BytesOfStream = tt
builtin_closes builtin.Empty = let z : 0 < 2 = omega arith in let o : 1 < 2 = omega arith in (tt, (z, (o, tt)), tt)
builtin_closes builtin.Put = let z : 0 < 2 = omega arith in let o : 1 < 2 = omega arith in ((z, (o, ((z, (o, tt)), tt))), (z, (o, tt)), (z, tt))
builtin_closes builtin.Seek = let z : 0 < 2 = omega arith in let o : 1 < 2 = omega arith in ((z, ((z, (o, tt)), tt)), (o, tt), (z, tt))

local_closes : (l : Option Local) → Closes (local_known l)
local_closes None = tt
local_closes (Some l) = tt

pub target_closes : (o : Option Bound) (env : Env) → AreClosed env → Closes (target o env)
target_closes (Some (b.Decl d)) env c = c d
target_closes (Some (b.BuiltIn x)) env c = builtin_closes x
target_closes (Some (b.Local s)) env c = local_closes (local_at s env.locals)
target_closes None env c = tt

-- ---- forms of names

types_first_on : (n : ℕ) (us : List Ty) (as_ : t.Args) (f : Sub)
    → retyped_args (types_first n us as_) (λ u. on u f) ≡ types_first n (types_on us f) (retyped_args as_ (λ u. on u f))
types_first_on n [] as_ f = refl
types_first_on n (u ∷ us) as_ f = ap (t.by_type n (on u f)) (types_first_on (suc n) us as_ f)

calling_on : (kind : Kind) (d : ℕ) (as_ : t.Args) (f : Sub) → retyped_form (calling kind d as_) (λ u. on u f) ≡ calling kind d (retyped_args as_ (λ u. on u f))
calling_on k.Grammar d as_ f = refl
calling_on k.Value d as_ f = refl
calling_on k.Class d as_ f = refl
calling_on k.Bits d as_ f = refl

values_on : (es : List t.Expr) (f : Sub) → retyped_all (exprs_of es) (λ u. on u f) ≡ exprs_of (trees_on es f)
values_on [] f = refl
values_on (e ∷ es) f = ap (t.more (tree_on e f)) (values_on es f)

matched_on : (n : ℕ) (es : List t.Expr) (f : Sub) → retyped_form (builtin_form builtin.Match n es) (λ u. on u f) ≡ builtin_form builtin.Match n (trees_on es f)
matched_on n [] f = refl
matched_on n (e ∷ []) f = refl
matched_on n (e ∷ e2 ∷ es) f = refl

builtin_form_on : (x : BuiltIn) (n : ℕ) (es : List t.Expr) (f : Sub) → retyped_form (builtin_form x n es) (λ u. on u f) ≡ builtin_form x n (trees_on es f)
builtin_form_on builtin.UInt8 n es f = refl
builtin_form_on builtin.Match n es f = matched_on n es f
builtin_form_on builtin.End n es f = refl
builtin_form_on builtin.GetStream n es f = ap (t.primitive pr.GetStream) (values_on es f)
builtin_form_on builtin.Offset n es f = ap (t.primitive pr.Offset) (values_on es f)
builtin_form_on builtin.SetStream n es f = ap (t.primitive pr.SetStream) (values_on es f)
builtin_form_on builtin.Take n es f = ap (t.primitive pr.Take) (values_on es f)
builtin_form_on builtin.Drop n es f = ap (t.primitive pr.Drop) (values_on es f)
builtin_form_on builtin.Index n es f = ap (t.primitive pr.Index) (values_on es f)
builtin_form_on builtin.Lookup n es f = ap (t.primitive pr.Lookup) (values_on es f)
builtin_form_on builtin.Insert n es f = ap (t.primitive pr.Insert) (values_on es f)
builtin_form_on builtin.Fail n es f = refl
builtin_form_on builtin.Length n es f = ap (t.builtin bu.Length) (values_on es f)
builtin_form_on builtin.Concat n es f = ap (t.builtin bu.Concat) (values_on es f)
builtin_form_on builtin.ArrayStream n es f = ap (t.builtin bu.ArrayStream) (values_on es f)
builtin_form_on builtin.BytesOfStream n es f = ap (t.builtin bu.BytesOfStream) (values_on es f)
builtin_form_on builtin.Empty n es f = ap (t.builtin bu.Empty) (values_on es f)
builtin_form_on builtin.Put n es f = ap (t.builtin bu.InsertInto) (values_on es f)
builtin_form_on builtin.Seek n es f = ap (t.builtin bu.LookupIn) (values_on es f)

local_form_on : (l : Option Local) (f : Sub) → retyped_form (local_form l) (λ u. on u f) ≡ local_form (option_local l f)
local_form_on None f = refl
local_form_on (Some l) f = by_kind l l.kind
  where
    by_kind : (l : Local) (kind : Kind) → (let m : Local = record l { kind = kind } in retyped_form (local_form (Some m)) (λ u. on u f)) ≡ (let m : Local =
        record l { kind = kind } in local_form (option_local (Some m) f))
    by_kind l k.Grammar = refl
    by_kind l k.Value = refl
    by_kind l k.Class = refl
    by_kind l k.Bits = refl

named_form_on : (o : Option Bound) (kind : Kind) (env : Env) (us : List Ty) (r : TypedArgs) (f : Sub)
    → retyped_form (named_form o kind env us r) (λ u. on u f) ≡ named_form o kind (env_on env f) (types_on us f) (args_on r f)
named_form_on (Some (b.Decl d)) kind env us r f = calling_on kind d (types_first 0 us r.args) f ∙ ap (calling kind d) (types_first_on 0 us r.args f)
named_form_on (Some (b.BuiltIn x)) kind env us r f = builtin_form_on x (length r.state.texts) r.values f
named_form_on (Some (b.Local s)) kind env us r f = local_form_on (local_at s env.locals) f ∙ ap local_form (sym (local_found env.locals s f))
named_form_on None kind env us r f = refl

noted_on : (o : Option Bound) (xs : List (List ℕ)) (z : State) (f : Sub) → state_on (noted o xs z) f ≡ noted o xs (state_on z f)
noted_on (Some (b.Decl d)) xs z f = refl
noted_on (Some (b.Local s)) xs z f = refl
noted_on None xs z f = refl
noted_on (Some (b.BuiltIn x)) xs z f = of_builtin x xs
  where
    of_builtin : (x : BuiltIn) (xs : List (List ℕ)) → state_on (noted (Some (b.BuiltIn x)) xs z) f ≡ noted (Some (b.BuiltIn x)) xs (state_on z f)
    of_builtin builtin.Fail [] = refl
    of_builtin builtin.Fail (x ∷ []) = refl
    of_builtin builtin.Fail (x ∷ x2 ∷ xs) = refl
    of_builtin other xs = refl

-- a name with its arguments
pub a_named_on : (o : Option Bound) (kind : Kind) (s : Span) (xs : List (List ℕ)) (env : Env) (us : List Ty) (r : TypedArgs) (f : Sub) → AreClosed env
    → length us ≡ (target o env).vars
    → typed_on (a_named o kind s xs env us r) f ≡ a_named o kind s xs (env_on env f) (types_on us f) (args_on r f)
a_named_on o kind s xs env us r f c h =
    let it = target o env in
    let p = of_on it.vars it us f (target_closes o env c) h in
    let q = use_asks_on it.vars it us s r.asks f (target_closes o env c) h in
    same_typed s (named_form_on o kind env us r f)
    (p ∙ ap (λ n. at_types n (types_on us f) (known_on it f).of) (sym (vars_by it.vars it f))
    ∙ ap (λ w. at_types w.vars (types_on us f) w.of) (sym (target_on o env f)))
    (q ∙ ap (λ n. use_asks n (known_on it f).conditions (types_on us f) s (asks_on r.asks f)) (sym (vars_by it.vars it f))
    ∙ ap (λ w. use_asks w.vars w.conditions (types_on us f) s (asks_on r.asks f)) (sym (target_on o env f)))
    (noted_on o xs r.state f)

pub target_vars_on : (o : Option Bound) (env : Env) (f : Sub) → (target o (env_on env f)).vars ≡ (target o env).vars
target_vars_on o env f = ap (λ w. w.vars) (target_on o env f) ∙ vars_by (target o env).vars (target o env) f

pub target_kinds_on : (o : Option Bound) (env : Env) (f : Sub) → (target o (env_on env f)).kinds ≡ (target o env).kinds
target_kinds_on o env f = ap (λ w. w.kinds) (target_on o env f) ∙ kinds_by (target o env).vars (target o env) f

pub wanted_on : (o : Option Bound) (env : Env) (us : List Ty) (f : Sub) → AreClosed env → length us ≡ (target o env).vars
    → types_on (wanted_at (target o env) us) f ≡ wanted_at (target o (env_on env f)) (types_on us f)
wanted_on o env us f c h =
    let it = target o env in
    params_on it.vars it us f (target_closes o env c) h
    ∙ ap (λ n. map (at_types n (types_on us f)) (known_on it f).params) (sym (vars_by it.vars it f))
    ∙ ap (λ w. wanted_at w (types_on us f)) (sym (target_on o env f))

-- ---- arguments and classes

pub before_argument_on : (kind : Kind) (z : State) (f : Sub) → state_on (before_argument kind z) f ≡ before_argument kind (state_on z f)
before_argument_on k.Grammar z f = refl
before_argument_on k.Value z f = refl
before_argument_on k.Class z f = refl
before_argument_on k.Bits z f = refl

pub behind_argument_on : (kind : Kind) (c : OneClass) (l : Typed) (f : Sub)
    → state_on (behind_argument kind c l) f ≡ behind_argument kind (class_on c f) (typed_on l f)
behind_argument_on k.Grammar c l f = refl
behind_argument_on k.Value c l f = refl
behind_argument_on k.Class c l f = refl
behind_argument_on k.Bits c l f = refl

same_args : (m : TypedArgs) {as_ : List Ask} → m.asks ≡ as_ → m ≡ record m { asks = as_ }
same_args m e = ap (λ x. let w : TypedArgs = record m { asks = x } in w) e

pub an_argument_on : (kind : Kind) (i : ℕ) (u : Ty) (n : ℕ) (c : OneClass) (l : Typed) (r : TypedArgs) (f : Sub)
    → args_on (an_argument kind i u n c l r) f ≡ an_argument kind i (on u f) n (class_on c f) (typed_on l f) (args_on r f)
an_argument_on k.Class i u n c l r f = same_args (args_on (an_argument k.Class i u n c l r) f) (asks_append c.asks r.asks f)
an_argument_on k.Grammar i u n c l r f = same_args (args_on (an_argument k.Grammar i u n c l r) f) (asks_append (wants u l.of l.at ∷ l.asks) r.asks f)
an_argument_on k.Value i u n c l r f = same_args (args_on (an_argument k.Value i u n c l r) f) (asks_append (wants u l.of l.at ∷ l.asks) r.asks f)
an_argument_on k.Bits i u n c l r f = same_args (args_on (an_argument k.Bits i u n c l r) f) (asks_append (wants u l.of l.at ∷ l.asks) r.asks f)

number_on : (l : Option Local) (f : Sub) → number_of (option_local l f) ≡ number_of l
number_on None f = refl
number_on (Some l) f = refl

named_class_on : (o : Option Bound) (env : Env) (f : Sub) → named_class (env_on env f) o ≡ named_class env o
named_class_on (Some (b.Decl n)) env f = refl
named_class_on (Some (b.Local s)) env f = ap (λ l. t.class_parameter (number_of l)) (local_found env.locals s f)
    ∙ ap t.class_parameter (number_on (local_at s env.locals) f)
named_class_on (Some (b.BuiltIn x)) env f = refl
named_class_on None env f = refl

abbrev made_class_on : MadeClass → Sub → MadeClass
made_class_on c f = record { class = c.class; asks = asks_on c.asks f; state = state_on c.state f }

byte_asks_on : (x : ByteLit) (f : Sub) → asks_on (byte_asks x) f ≡ byte_asks x
byte_asks_on (Code n) f = refl
byte_asks_on (Quoted c s) f = refl

abbrev either_class : MadeClass → MadeClass → MadeClass
either_class l r = record { class = t.or_ l.class r.class; asks = l.asks ++ r.asks; state = r.state }

abbrev other_class : MadeClass → MadeClass
other_class r = record { class = t.not_ r.class; asks = r.asks; state = r.state }

class_made_on : (c : y.Cls) (env : Env) (z : State) (f : Sub) → made_class_on (class_made c env z) f ≡ class_made c (env_on env f) (state_on z f)
class_made_on (y.Union l r s) env z f =
    let x = class_made l env z in let w = class_made r env x.state in
    ap (λ as_. let m : MadeClass = record { class = t.or_ x.class w.class; asks = as_; state = state_on w.state f } in m) (asks_append x.asks w.asks f)
    ∙ ap (either_class (made_class_on x f)) (class_made_on r env x.state f)
    ∙ ap (λ m. either_class m (class_made r (env_on env f) m.state)) (class_made_on l env z f)
class_made_on (y.One x) env z f = ap (λ as_. let m : MadeClass = record { class = (class_made (y.One x) env z).class; asks = as_; state = state_on z f }
    in m) (byte_asks_on x f)
class_made_on (y.Range x w s) env z f =
    ap (λ as_. let m : MadeClass = record { class = (class_made (y.Range x w s) env z).class; asks = as_; state = state_on z f } in m)
    (asks_append (byte_asks x) (byte_asks w) f ∙ ap (λ xs. xs ++ asks_on (byte_asks w) f) (byte_asks_on x f) ∙ ap (λ xs. byte_asks x ++ xs) (byte_asks_on w f))
class_made_on (y.Known x) env z f = ap (λ c. let m : MadeClass = record { class = c; asks = []; state = state_on (class_made (y.Known x) env z).state f }
    in m) (sym (named_class_on (bound_next z.uses) env f))
class_made_on (y.Other c s) env z f = ap other_class (class_made_on c env z f)
class_made_on (y.Grouped c s) env z f = class_made_on c env z f
class_made_on (y.Set c s) env z f = class_made_on c env z f

-- a class as an argument or as a form
abbrev of_class : MadeClass → OneClass
of_class m = record { class = m.class; asks = m.asks; state = m.state }

abbrev no_class : State → OneClass
no_class z = record { class = t.class_parameter 0; asks = []; state = z }

class_of_name_on : (env : Env) (z : State) (f : Sub) → class_on (class_of_name env z) f ≡ class_of_name (env_on env f) (state_on z f)
class_of_name_on env z f = ap (λ c. let m : OneClass = record { class = c; asks = []; state = state_on (class_of_name env z).state f } in m)
    (sym (named_class_on (bound_next z.uses) env f))

pub class_argument_on : (e : ex.Expr) (env : Env) (z : State) (f : Sub) → class_on (class_argument e env z) f ≡ class_argument e (env_on env f) (state_on z f)
class_argument_on (ex.Class x) env z f = class_of_name_on env z f
class_argument_on (ex.Upper x) env z f = class_of_name_on env z f
class_argument_on (ex.Lower x) env z f = class_of_name_on env z f
class_argument_on (ex.CallGrammar x xs s) env z f = class_of_name_on env z f
class_argument_on (ex.CallValue x xs s) env z f = class_of_name_on env z f
class_argument_on (ex.Set c s) env z f = ap of_class (class_made_on c env z f)
class_argument_on (ex.Paren a u s) env z f = class_argument_on a env z f
class_argument_on e env z f = refl

-- ---- written types

pub bound_vars_on : (o : Option Bound) (known : ℕ → Known) (f : Sub) → bound_vars o (all_known_on known f) ≡ bound_vars o known
bound_vars_on (Some (b.Decl d)) known f = vars_by (known d).vars (known d) f
bound_vars_on (Some (b.Local s)) known f = refl
bound_vars_on (Some (b.BuiltIn x)) known f = refl
bound_vars_on None known f = refl

pub of_bound_on : (o : Option Bound) (known : ℕ → Known) (us : List Ty) (f : Sub) → ((d : ℕ) → Closes (known d)) → length us ≡ bound_vars o known
    → on (of_bound o known us) f ≡ of_bound o (all_known_on known f) (types_on us f)
of_bound_on (Some (b.Decl d)) known us f c h = of_on (known d).vars (known d) us f (c d) h
    ∙ ap (λ n. at_types n (types_on us f) (known_on (known d) f).of) (sym (vars_by (known d).vars (known d) f))
of_bound_on (Some (b.Local s)) known us f c h = refl
of_bound_on (Some (b.BuiltIn x)) known us f c h = refl
of_bound_on None known us f c h = refl
