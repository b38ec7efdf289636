-- The typing of patterns, of what `is` wants, and of the names of turns.
use Rattle.std.specs.Prelude.{◌≡◌, ℕ, ◌+◌, List, [], ◌∷◌, ◌++◌, length, true, false, Option, Some, None}
use Rattle.std.proofs.Math.ListN.{set}
use Rattle.ddl_base.specs.declared.span.Span.{Span}
use Rattle.ddl_tree.specs.declared.pattern.Binder.{Binder}
use Rattle.ddl_tree.specs.declared.pattern.Binder.TheVariants.{Called, Ignored}
use Rattle.ddl_tree.specs.declared.pattern.Names.{Names}
use Rattle.ddl_tree.specs.declared.pattern.Pat.{Pat}
use Rattle.ddl_tree.specs.declared.pattern.Pat.TheVariants as p
use Rattle.ddl_tree.specs.declared.pattern.Shape.{Shape}
use Rattle.ddl_tree.specs.declared.pattern.Shape.TheVariants as h
use Rattle.ddl_tree.specs.declared.name.Name.{Name}
use Rattle.ddl_types.specs.Types.{Ty, Ty.var}
use Rattle.ddl_types.specs.TyView.{ty_view}
use Rattle.ddl_types.specs.declared.ty.Ty as program
use Rattle.ddl_types.specs.Conditions.{lit, tag}
use Rattle.ddl_ops.specs.declared.pattern.Pattern.{Pattern}
use Rattle.ddl_ops.specs.declared.pattern.Pattern.TheVariants as t
use Rattle.ddl_typed.specs.declared.parts.Binder as turn
use Rattle.ddl_rules.specs.declared.elaboration.Elaboration.{Elaboration}
use Rattle.ddl_rules.specs.Asks.{Ask, Env, State, wants, asks_for, unit_type, bool_type, word, maybe, after_variables, with_value}
use Rattle.ddl_rules.specs.Steps.{GoesOn, held}
use Rattle.ddl_rules.specs.Views.{asks_of, env_of, state_of}

-- a pattern of a value of this type: what it asks, the names that it gives, and what is left
pub record Fitted : Type 0 where
  pub pattern : Pattern
  pub asks : List Ask
  pub env : Env
  pub state : State

abbrev pub bound_number : Binder → Env → Option ℕ
bound_number (Called x) env = Some (length env.locals)
bound_number (Ignored s) env = None

abbrev pub with_binder : Binder → Ty → Env → Env
with_binder (Called x) t env = with_value x.span t env
with_binder (Ignored s) t env = env

abbrev pub content_number : Option Binder → Env → Option ℕ
content_number None env = None
content_number (Some b) env = bound_number b env

abbrev pub with_content : Option Binder → Ty → Env → Env
with_content None t env = env
with_content (Some b) t env = with_binder b t env

-- an equation or a demand of a pattern stands at the pattern, with the subject's type on the left
abbrev pub fitted : Pat → Ty → Env → State → Fitted
fitted (p.Any s) u env z = record { pattern = t.Any; asks = []; env = env; state = z }
fitted (p.Num n) u env z = record { pattern = t.Number n.value; asks = asks_for (lit n.value u) n.span ∷ []; env = env; state = z }
fitted (p.Char b s) u env z = record { pattern = t.Number b; asks = wants u (word 8) s ∷ []; env = env; state = z }
fitted (p.True s) u env z = record { pattern = t.Truth true; asks = wants u bool_type s ∷ []; env = env; state = z }
fitted (p.False s) u env z = record { pattern = t.Truth false; asks = wants u bool_type s ∷ []; env = env; state = z }
fitted (p.Nothing s) u env z = record { pattern = t.Nothing; asks = wants u (maybe (var z.next)) s ∷ []; env = env; state = after_variables 1 z }
fitted (p.Just b s) u env z = record {
  pattern = t.Just (bound_number b env);
  asks = wants u (maybe (var z.next)) s ∷ [];
  env =
      with_binder b (var z.next) env;
  state = after_variables 1 z;
}
fitted (p.Tag x b s) u env z = record {
  pattern = t.Tag x.text (content_number b env);
  asks = asks_for (tag u x.text (var z.next)) s ∷ [];
  env =
      with_content b (var z.next) env;
  state = after_variables 1 z;
}

-- this is the pattern, and elaboration goes on so
pub record IsFitted (p : Pattern) (f : Fitted) (old now : Elaboration) : Type 0 where
  pub fits : p ≡ f.pattern
  pub goes_on : GoesOn f.asks f.state f.env old now

-- ---- `is`

-- what it asks before what its subject asks, and behind it: a tag is asked for by the whole form, and an equation stands at the
-- word behind the subject; its value is the content
pub record Guarded : Type 0 where
  pub pattern : Pattern
  pub before : List Ask
  pub behind : List Ask
  pub of : Ty
  pub state : State

abbrev pub guarded : Shape → Ty → Span → State → Guarded
guarded (h.IsTag x) u s z = record {
  pattern = t.Tag x.text None;
  before = asks_for (tag u x.text (var z.next)) s ∷ [];
  behind = [];
  of = var z.next;
  state = after_variables 1 z;
}
guarded (h.IsTrue w) u s z = record { pattern = t.Truth true; before = []; behind = wants u bool_type w ∷ []; of = unit_type; state = z }
guarded (h.IsFalse w) u s z = record { pattern = t.Truth false; before = []; behind = wants u bool_type w ∷ []; of = unit_type; state = z }
guarded (h.IsJust w) u s z = record {
  pattern = t.Just None;
  before = [];
  behind = wants u (maybe (var z.next)) w ∷ [];
  of = var z.next;
  state = after_variables 1 z;
}
guarded (h.IsNothing w) u s z = record {
  pattern = t.Nothing;
  before = [];
  behind = wants u (maybe (var z.next)) w ∷ [];
  of = unit_type;
  state = after_variables 1 z;
}

-- where a tag is asked for, its place is held before the subject
abbrev pub guard_held : Shape → Span → List Ask
guard_held (h.IsTag x) s = held s ∷ []
guard_held q s = []

abbrev pub guard_slot : Shape → ℕ → Option ℕ
guard_slot (h.IsTag x) n = Some n
guard_slot q n = None

-- what is asked before the subject stands in the place that was held for it
abbrev pub with_before : List Ask → Option ℕ → List Ask → List Ask
with_before [] slot as_ = as_
with_before (a ∷ bs) None as_ = as_
with_before (a ∷ bs) (Some slot) as_ = set as_ slot a

-- the ask of a tag stands in the place that was held, where one was, and one more type is free
pub record IsTagFilled (slot : Option ℕ) (ask : Ask) (old now : Elaboration) : Type 0 where
  pub asked : asks_of now ≡ with_before (ask ∷ []) slot (asks_of old)
  pub stated : state_of now ≡ after_variables 1 (state_of old)
  pub scoped : env_of now ≡ env_of old

-- this is the pattern, and the type of the content
pub record IsGuarded (p : Pattern) (t : program.Ty) (g : Guarded) (slot : Option ℕ) (env : Env) (old now : Elaboration) : Type 0 where
  pub fits : p ≡ g.pattern
  pub typed : ty_view t ≡ g.of
  pub asked : asks_of now ≡ with_before g.before slot (asks_of old) ++ g.behind
  pub stated : state_of now ≡ g.state
  pub scoped : env_of now ≡ env

-- ---- turns

-- one name alone is that of the element, else the first is that of the key or position
abbrev pub turn_binder : Option Name → Env → turn.Binder
turn_binder None env = record { key = None; element = length env.locals }
turn_binder (Some x) env = record { key = Some (length env.locals); element = length env.locals + 1 }

abbrev pub with_names : Span → Option Name → Ty → Ty → Env → Env
with_names s None k v env = with_value s v env
with_names s (Some x) k v env = with_value x.span v (with_value s k env)

-- this is the binder of a turn, and its names are in scope
pub record IsTurn (b : turn.Binder) (ns : Names) (k v : Ty) (old : Env) (state : State) (before now : Elaboration) : Type 0 where
  pub binds : b ≡ turn_binder ns.second old
  pub goes_on : GoesOn [] state (with_names ns.first.span ns.second k v old) before now
