-- The rules of branches and turns commute with replacing types.
use Rattle.std.proofs.Common.{◌≡◌, ℕ, List, [], ◌∷◌, ◌++◌, ◌+◌, length, Option, Some, None, Bool, true, false, refl, ap, sym, ◌∙◌}
use Rattle.ddl_base.specs.declared.span.Span.{Span}
use Rattle.ddl_tree.specs.declared.name.Name.{Name}
use Rattle.ddl_tree.specs.declared.pattern.Binder.{Binder}
use Rattle.ddl_tree.specs.declared.pattern.Binder.TheVariants.{Called, Ignored}
use Rattle.ddl_tree.specs.declared.pattern.Names.{Names}
use Rattle.ddl_tree.specs.declared.pattern.Pat.{Pat}
use Rattle.ddl_tree.specs.declared.pattern.Pat.TheVariants as p
use Rattle.ddl_tree.specs.declared.pattern.Shape.{Shape}
use Rattle.ddl_tree.specs.declared.pattern.Shape.TheVariants as h
use Rattle.ddl_types.specs.Types.{Ty, Sub, on}
use Rattle.ddl_types.specs.Conditions.{loops}
use Rattle.ddl_judging.specs.Demands.{gather}
use Rattle.ddl_ops.specs.declared.pattern.Pattern.TheVariants as to
use Rattle.ddl_typed.specs.declared.parts.Binder as turn
use Rattle.ddl_typed.specs.Tree as t
use Rattle.ddl_rules.specs.Asks.{Ask, Env, State, asks_for, demands, wants, bool_type, with_value}
use Rattle.ddl_rules.specs.Patterns.{bound_number, content_number, turn_binder, with_binder, with_content, with_names}
use Rattle.ddl_typing.specs.Retyped.{retyped, retyped_cases}
use Rattle.ddl_typing.specs.Replaced.{tree_on, asks_on, state_on, typed_on, cases_on, env_on, locals_on}
use Rattle.ddl_typing.specs.Typed.{Typed, TypedCases, typed, tree_of}
use Rattle.ddl_typing.specs.Branches.{an_if, pattern_form, pattern_asks, pattern_env, first_case, one_case, a_case, guard_behind, guard_before, a_guard, a_fold}
use Rattle.ddl_typing.specs.Branches.{a_map}
use Rattle.ddl_principal.proofs.Lists.{asks_append, asks_append3, same_typed, same_asks, locals_length, with_value_on}

pub if_on : (s : Span) (c l r : Typed) (f : Sub) → typed_on (an_if s c l r) f ≡ an_if s (typed_on c f) (typed_on l f) (typed_on r f)
if_on s c l r f = same_asks (typed_on (an_if s c l r) f) (asks_append3 (wants bool_type c.of c.at ∷ c.asks) l.asks (wants l.of r.of r.at ∷ r.asks) f)

-- ---- patterns

pub bound_number_on : (x : Binder) (env : Env) (f : Sub) → bound_number x env ≡ bound_number x (env_on env f)
bound_number_on (Called x) env f = ap Some (sym (locals_length env.locals f))
bound_number_on (Ignored s) env f = refl

content_number_on : (x : Option Binder) (env : Env) (f : Sub) → content_number x env ≡ content_number x (env_on env f)
content_number_on None env f = refl
content_number_on (Some x) env f = bound_number_on x env f

pub pattern_form_on : (q : Pat) (env : Env) (f : Sub) → pattern_form q env ≡ pattern_form q (env_on env f)
pattern_form_on (p.Any s) env f = refl
pattern_form_on (p.Num n) env f = refl
pattern_form_on (p.Char b s) env f = refl
pattern_form_on (p.True s) env f = refl
pattern_form_on (p.False s) env f = refl
pattern_form_on (p.Nothing s) env f = refl
pattern_form_on (p.Just b s) env f = ap to.Just (bound_number_on b env f)
pattern_form_on (p.Tag x b s) env f = ap (to.Tag x.text) (content_number_on b env f)

pub pattern_asks_on : (q : Pat) (u c : Ty) (f : Sub) → asks_on (pattern_asks q u c) f ≡ pattern_asks q (on u f) (on c f)
pattern_asks_on (p.Any s) u c f = refl
pattern_asks_on (p.Num n) u c f = refl
pattern_asks_on (p.Char b s) u c f = refl
pattern_asks_on (p.True s) u c f = refl
pattern_asks_on (p.False s) u c f = refl
pattern_asks_on (p.Nothing s) u c f = refl
pattern_asks_on (p.Just b s) u c f = refl
pattern_asks_on (p.Tag x b s) u c f = refl

binder_on : (x : Binder) (c : Ty) (env : Env) (f : Sub) → env_on (with_binder x c env) f ≡ with_binder x (on c f) (env_on env f)
binder_on (Called x) c env f = with_value_on x.span c env f
binder_on (Ignored s) c env f = refl

content_on : (x : Option Binder) (c : Ty) (env : Env) (f : Sub) → env_on (with_content x c env) f ≡ with_content x (on c f) (env_on env f)
content_on None c env f = refl
content_on (Some x) c env f = binder_on x c env f

pub pattern_env_on : (q : Pat) (c : Ty) (env : Env) (f : Sub) → env_on (pattern_env q c env) f ≡ pattern_env q (on c f) (env_on env f)
pattern_env_on (p.Any s) c env f = refl
pattern_env_on (p.Num n) c env f = refl
pattern_env_on (p.Char b s) c env f = refl
pattern_env_on (p.True s) c env f = refl
pattern_env_on (p.False s) c env f = refl
pattern_env_on (p.Nothing s) c env f = refl
pattern_env_on (p.Just b s) c env f = binder_on b c env f
pattern_env_on (p.Tag x b s) c env f = content_on b c env f

-- ---- `case`

same_cases : {cs cs2 : t.Cases} (u : Ty) {as_ bs : List Ask} (z : State) → cs ≡ cs2 → as_ ≡ bs
    → (let x : TypedCases = record { cases = cs; of = u; asks = as_; state = z } in x) ≡ (let x : TypedCases =
    record { cases = cs2; of = u; asks = bs; state = z } in x)
same_cases {cs2 = cs2} u {as_} z p q = ap (λ y. let x : TypedCases = record { cases = y; of = u; asks = as_; state = z } in x) p
    ∙ ap (λ y. let x : TypedCases = record { cases = cs2; of = u; asks = y; state = z } in x) q

pub first_case_on : (q : Pat) (u : Ty) (env : Env) (c : Ty) (l : Typed) (r : TypedCases) (f : Sub)
    → cases_on (first_case q u env c l r) f ≡ first_case q (on u f) (env_on env f) (on c f) (typed_on l f) (cases_on r f)
first_case_on q u env c l r f = same_cases (on l.of f) (state_on r.state f)
    (ap (λ x. t.when x (tree_on (tree_of l) f) (retyped_cases r.cases (λ v. on v f))) (pattern_form_on q env f))
    (asks_append3 (pattern_asks q u c) l.asks r.asks f ∙ ap (λ xs. xs ++ asks_on l.asks f ++ asks_on r.asks f) (pattern_asks_on q u c f))

pub one_case_on : (q : Pat) (u v : Ty) (env : Env) (c : Ty) (l : Typed) (r : TypedCases) (f : Sub)
    → cases_on (one_case q u v env c l r) f ≡ one_case q (on u f) (on v f) (env_on env f) (on c f) (typed_on l f) (cases_on r f)
one_case_on q u v env c l r f = same_cases (on v f) (state_on r.state f)
    (ap (λ x. t.when x (tree_on (tree_of l) f) (retyped_cases r.cases (λ w. on w f))) (pattern_form_on q env f))
    (asks_append3 (pattern_asks q u c) (wants v l.of l.at ∷ l.asks) r.asks f
    ∙ ap (λ xs. xs ++ asks_on (wants v l.of l.at ∷ l.asks) f ++ asks_on r.asks f) (pattern_asks_on q u c f))

pub case_on : (s : Span) (l : Typed) (r : TypedCases) (f : Sub) → typed_on (a_case s l r) f ≡ a_case s (typed_on l f) (cases_on r f)
case_on s l r f = same_asks (typed_on (a_case s l r) f) (asks_append l.asks r.asks f)

-- ---- `is`

pub guard_on : (q : Shape) (s : Span) (l : Typed) (c : Ty) (f : Sub) → typed_on (a_guard q s l c) f ≡ a_guard q s (typed_on l f) (on c f)
guard_on (h.IsTag x) s l c f = same_asks (typed_on (a_guard (h.IsTag x) s l c) f) (asks_append (guard_before (h.IsTag x) l.of c s ++ l.asks) [] f)
guard_on (h.IsTrue w) s l c f = same_asks (typed_on (a_guard (h.IsTrue w) s l c) f) (asks_append l.asks (guard_behind (h.IsTrue w) l.of c) f)
guard_on (h.IsFalse w) s l c f = same_asks (typed_on (a_guard (h.IsFalse w) s l c) f) (asks_append l.asks (guard_behind (h.IsFalse w) l.of c) f)
guard_on (h.IsJust w) s l c f = same_asks (typed_on (a_guard (h.IsJust w) s l c) f) (asks_append l.asks (guard_behind (h.IsJust w) l.of c) f)
guard_on (h.IsNothing w) s l c f = same_asks (typed_on (a_guard (h.IsNothing w) s l c) f) (asks_append l.asks (guard_behind (h.IsNothing w) l.of c) f)

-- ---- turns

pub turn_binder_on : (x : Option Name) (env : Env) (f : Sub) → turn_binder x env ≡ turn_binder x (env_on env f)
turn_binder_on None env f = ap (λ n. let y : turn.Binder = record { key = None; element = n } in y) (sym (locals_length env.locals f))
turn_binder_on (Some x) env f = ap (λ n. let y : turn.Binder = record { key = Some n; element = n + 1 } in y) (sym (locals_length env.locals f))

pub with_names_on : (s : Span) (x : Option Name) (k v : Ty) (env : Env) (f : Sub)
    → env_on (with_names s x k v env) f ≡ with_names s x (on k f) (on v f) (env_on env f)
with_names_on s None k v env f = with_value_on s v env f
with_names_on s (Some x) k v env f = with_value_on x.span v (with_value s k env) f ∙ ap (with_value x.span (on v f)) (with_value_on s k env f)

pub fold_on : (ns : Names) (env inner : Env) (s : Span) (i l : Typed) (k v : Ty) (b : Typed) (f : Sub)
    → typed_on (a_fold ns env inner s i l k v b) f ≡ a_fold ns (env_on env f) (env_on inner f) s (typed_on i f) (typed_on l f) (on k f) (on v f) (typed_on b f)
fold_on ns env inner s i l k v b f = same_typed s
    (ap (λ n. t.for_ n (tree_on (tree_of i) f) (turn_binder ns.second inner) (tree_on (tree_of l) f) (tree_on (tree_of b) f)) (sym (locals_length env.locals f))
    ∙ ap (λ x. t.for_ (length (locals_on env.locals f)) (tree_on (tree_of i) f) x (tree_on (tree_of l) f) (tree_on (tree_of b) f))
    (turn_binder_on ns.second inner f))
    refl (asks_append3 (asks_for (loops l.of k v) s ∷ i.asks) l.asks (wants i.of b.of b.at ∷ b.asks) f) refl

pub map_on : (ns : Names) (env : Env) (s : Span) (l : Typed) (k v r : Ty) (b : Typed) (f : Sub)
    → typed_on (a_map ns env s l k v r b) f ≡ a_map ns (env_on env f) s (typed_on l f) (on k f) (on v f) (on r f) (typed_on b f)
map_on ns env s l k v r b f = same_typed s (ap (λ x. t.map_ x (tree_on (tree_of l) f) (tree_on (tree_of b) f)) (turn_binder_on ns.second env f)) refl
    (asks_append (demands (gather l.of k v b.of r) s ∷ l.asks) b.asks f) refl
