-- What a name with arguments stands for.
use Rattle.std.specs.Prelude.{◌≡◌, ℕ, List, [], map, Option, Some, None}
use Rattle.ddl_base.specs.declared.span.Span.{Span}
use Rattle.ddl_kinds.specs.declared.builtin.BuiltIn.{BuiltIn}
use Rattle.ddl_kinds.specs.declared.bound.Bound.{Bound}
use Rattle.ddl_kinds.specs.declared.bound.Bound.TheVariants as b
use Rattle.ddl_tree.specs.declared.kind.Kind.{Kind}
use Rattle.ddl_types.specs.Types.{Ty, on}
use Rattle.ddl_types.specs.TyView.{ty_view}
use Rattle.ddl_types.specs.Conditions.{Condition, on_condition}
use Rattle.ddl_judging.specs.Shapes.{at}
use Rattle.ddl_rules.specs.declared.elaboration.Elaboration.{Elaboration}
use Rattle.ddl_rules.specs.declared.target.Meant.{Meant}
use Rattle.ddl_rules.specs.declared.target.Meant.TheVariants as m
use Rattle.ddl_rules.specs.declared.target.Target as program
use Rattle.ddl_rules.specs.Asks.{Env, Known, Local, State, after_variables, asks_for, local_at, unit_type}
use Rattle.ddl_rules.specs.BuiltInTypes.{builtin_row}
use Rattle.ddl_rules.specs.Steps.{GoesOn}

-- what is meant, the kinds of its parameters where it is declared, what its arguments have to be, what it is, and what it
-- asks, over new variables
pub record Target : Type 0 where
  pub meant : Meant
  pub kinds : List Kind
  pub params : List Ty
  pub of : Ty
  pub conditions : List Condition
  pub state : State

-- a declaration at new variables
abbrev pub of_declaration : ℕ → Known → State → Target
of_declaration d it z = let f = at it.vars z.next in
    record {
      meant = m.Declaration d it.vars z.next;
      kinds = it.kinds;
      params = map (λ u. on u f) it.params;
      of = on it.of f;
      conditions =
          map (on_condition f) it.conditions;
      state = after_variables it.vars z;
    }

abbrev pub of_builtin : BuiltIn → State → Target
of_builtin x z = let it = builtin_row x z.next in
    record { meant = m.BuiltIn x; kinds = []; params = it.params; of = it.of; conditions = it.conditions; state = after_variables it.vars z }

abbrev pub of_local : Option Local → State → Target
of_local None z = record { meant = m.Nothing; kinds = []; params = []; of = unit_type; conditions = []; state = z }
of_local (Some l) z = record { meant = m.Local l.kind l.number; kinds = []; params = []; of = l.of; conditions = []; state = z }

-- what a name that is bound so stands for
abbrev pub target : Option Bound → Env → State → Target
target (Some (b.Decl d)) env z = of_declaration d (env.known d) z
target (Some (b.BuiltIn x)) env z = of_builtin x z
target (Some (b.Local binder)) env z = of_local (local_at binder env.locals) z
target None env z = of_local None z

-- this is what the name stands for, and what it asks is asked at its form
pub record IsTarget (t : program.Target) (s : Target) (span : Span) (env : Env) (old now : Elaboration) : Type 0 where
  pub meant : t.meant ≡ s.meant
  pub kinds : t.kinds.items ≡ s.kinds
  pub params : map ty_view t.params.items ≡ s.params
  pub typed : ty_view t.of ≡ s.of
  pub goes_on : GoesOn (map (λ c. asks_for c span) s.conditions) s.state env old now
