-- The rules of forms with branches and turns: `if`, `case`, `is`, `for` and `map`.
use Rattle.std.specs.Prelude.{ℕ, List, [], ◌∷◌, ◌++◌, true, false, Option, Some, None, length}
use Rattle.ddl_base.specs.declared.span.Span.{Span}
use Rattle.ddl_tree.specs.declared.pattern.Names.{Names}
use Rattle.ddl_tree.specs.declared.pattern.Pat.{Pat}
use Rattle.ddl_tree.specs.declared.pattern.Pat.TheVariants as p
use Rattle.ddl_tree.specs.declared.pattern.Shape.{Shape}
use Rattle.ddl_tree.specs.declared.pattern.Shape.TheVariants as h
use Rattle.ddl_types.specs.Types.{Ty}
use Rattle.ddl_types.specs.Conditions.{lit, tag, loops}
use Rattle.ddl_judging.specs.Demands.{gather}
use Rattle.ddl_ops.specs.declared.pattern.Pattern.{Pattern}
use Rattle.ddl_ops.specs.declared.pattern.Pattern.TheVariants as to
use Rattle.ddl_typed.specs.Tree as t
use Rattle.ddl_rules.specs.Asks.{Ask, Env, State, demands, asks_for, wants, after_variables, unit_type, bool_type, word, maybe}
use Rattle.ddl_rules.specs.Patterns.{bound_number, content_number, turn_binder, with_binder, with_content}
use Rattle.ddl_typing.specs.Typed.{Typed, TypedCases, typed, tree_of}

-- both branches have the type of the first one
abbrev pub an_if : Span → Typed → Typed → Typed → Typed
an_if s c l r = typed (t.if_ (tree_of c) (tree_of l) (tree_of r)) l.of s (wants bool_type c.of c.at ∷ c.asks ++ l.asks ++ wants l.of r.of r.at ∷ r.asks) r.state

-- ---- patterns

-- the type of the content of what a pattern fits is left free
abbrev pub pattern_vars : Pat → ℕ
pattern_vars (p.Nothing s) = 1
pattern_vars (p.Just b s) = 1
pattern_vars (p.Tag x b s) = 1
pattern_vars q = 0

abbrev pub pattern_form : Pat → Env → Pattern
pattern_form (p.Any s) env = to.Any
pattern_form (p.Num n) env = to.Number n.value
pattern_form (p.Char b s) env = to.Number b
pattern_form (p.True s) env = to.Truth true
pattern_form (p.False s) env = to.Truth false
pattern_form (p.Nothing s) env = to.Nothing
pattern_form (p.Just b s) env = to.Just (bound_number b env)
pattern_form (p.Tag x b s) env = to.Tag x.text (content_number b env)

-- what it asks of a subject of type u, for content of type c; it stands at the pattern, with the subject's type on the left
abbrev pub pattern_asks : Pat → Ty → Ty → List Ask
pattern_asks (p.Any s) u c = []
pattern_asks (p.Num n) u c = asks_for (lit n.value u) n.span ∷ []
pattern_asks (p.Char b s) u c = wants u (word 8) s ∷ []
pattern_asks (p.True s) u c = wants u bool_type s ∷ []
pattern_asks (p.False s) u c = wants u bool_type s ∷ []
pattern_asks (p.Nothing s) u c = wants u (maybe c) s ∷ []
pattern_asks (p.Just b s) u c = wants u (maybe c) s ∷ []
pattern_asks (p.Tag x b s) u c = asks_for (tag u x.text c) s ∷ []

-- the content's name is in scope in the alternative
abbrev pub pattern_env : Pat → Ty → Env → Env
pattern_env (p.Just b s) c env = with_binder b c env
pattern_env (p.Tag x b s) c env = with_content b c env
pattern_env q c env = env

-- ---- `case`

-- without alternatives the type is left free
abbrev pub no_cases : State → Ty → TypedCases
no_cases z u = record { cases = t.no_cases; of = u; asks = []; state = after_variables 1 z }

abbrev pub no_more_cases : Ty → State → TypedCases
no_more_cases v z = record { cases = t.no_cases; of = v; asks = []; state = z }

-- all alternatives have the type of the first one
abbrev pub first_case : Pat → Ty → Env → Ty → Typed → TypedCases → TypedCases
first_case q u env c l r = record {
  cases = t.when (pattern_form q env) (tree_of l) r.cases;
  of = l.of;
  asks = pattern_asks q u c ++ l.asks ++ r.asks;
  state =
      r.state;
}

abbrev pub one_case : Pat → Ty → Ty → Env → Ty → Typed → TypedCases → TypedCases
one_case q u v env c l r = record {
  cases = t.when (pattern_form q env) (tree_of l) r.cases;
  of = v;
  asks =
      pattern_asks q u c ++ wants v l.of l.at ∷ l.asks ++ r.asks;
  state = r.state;
}

abbrev pub a_case : Span → Typed → TypedCases → Typed
a_case s l r = typed (t.case_ (tree_of l) r.cases) r.of s (l.asks ++ r.asks) r.state

-- ---- `is`

abbrev pub guard_vars : Shape → ℕ
guard_vars (h.IsTag x) = 1
guard_vars (h.IsJust s) = 1
guard_vars (h.IsNothing s) = 1
guard_vars q = 0

abbrev pub guard_form : Shape → Pattern
guard_form (h.IsTag x) = to.Tag x.text None
guard_form (h.IsTrue s) = to.Truth true
guard_form (h.IsFalse s) = to.Truth false
guard_form (h.IsJust s) = to.Just None
guard_form (h.IsNothing s) = to.Nothing

-- a tag is asked for by the whole form, before what its subject asks
abbrev pub guard_before : Shape → Ty → Ty → Span → List Ask
guard_before (h.IsTag x) u c s = asks_for (tag u x.text c) s ∷ []
guard_before q u c s = []

-- an equation stands at the word behind the subject
abbrev pub guard_behind : Shape → Ty → Ty → List Ask
guard_behind (h.IsTag x) u c = []
guard_behind (h.IsTrue s) u c = wants u bool_type s ∷ []
guard_behind (h.IsFalse s) u c = wants u bool_type s ∷ []
guard_behind (h.IsJust s) u c = wants u (maybe c) s ∷ []
guard_behind (h.IsNothing s) u c = wants u (maybe c) s ∷ []

-- its value is the content, or `{}`
abbrev pub guard_type : Shape → Ty → Ty
guard_type (h.IsTag x) c = c
guard_type (h.IsJust s) c = c
guard_type q c = unit_type

abbrev pub a_guard : Shape → Span → Typed → Ty → Typed
a_guard q s l c = typed (t.is_ (tree_of l) (guard_form q)) (guard_type q c) s (guard_before q l.of c s ++ l.asks ++ guard_behind q l.of c)
    (after_variables (guard_vars q) l.state)

-- ---- turns

-- a fold has the type of its start; k and v are the types of a turn's names
abbrev pub a_fold : Names → Env → Env → Span → Typed → Typed → Ty → Ty → Typed → Typed
a_fold ns env inner s i l k v b = typed (t.for_ (length env.locals) (tree_of i) (turn_binder ns.second inner) (tree_of l) (tree_of b)) i.of s
    (asks_for (loops l.of k v) s ∷ i.asks ++ l.asks ++ wants i.of b.of b.at ∷ b.asks) b.state

abbrev pub a_map : Names → Env → Span → Typed → Ty → Ty → Ty → Typed → Typed
a_map ns env s l k v r b = typed (t.map_ (turn_binder ns.second env) (tree_of l) (tree_of b)) r s (demands (gather l.of k v b.of r) s ∷ l.asks ++ b.asks)
    b.state
