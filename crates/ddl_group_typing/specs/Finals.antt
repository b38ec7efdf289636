-- A group's types once its equations are solved, for all types of its variables, as its own trees and all others see them.
use Rattle.std.specs.Prelude.{ℕ, zero, suc, ◌==◌, ◌||◌, List, [], ◌∷◌, ◌++◌, map, Bool, false, Option, Some, None}
use Rattle.ddl_types.specs.Types.{Ty}
use Rattle.ddl_types.specs.Conditions.{Condition, with_types}
use Rattle.ddl_judging.specs.Demands.{Asked, Demand, condition}
use Rattle.ddl_typed.specs.Specification.{Place}
use Rattle.ddl_typed.specs.Tree as t
use Rattle.ddl_rules.specs.Asks.{Known}
use Rattle.ddl_group_typing.specs.OwnCalls.{with_calls}
use Rattle.ddl_typing.specs.Retyped.{retyped}
use Rattle.ddl_group_typing.specs.Tables.{Done}

abbrev pub is_among : List ℕ → ℕ → Bool
is_among [] d = false
is_among (m ∷ ms) d = m == d || is_among ms d

-- the conditions of the demands at these places; a condition alone is ever kept
abbrev pub condition_of : Demand → List Condition
condition_of (condition c) = c ∷ []
condition_of d = []

abbrev pub at_place : List Asked → ℕ → List Condition
at_place [] k = []
at_place (a ∷ as_) zero = condition_of a.what
at_place (a ∷ as_) (suc k) = at_place as_ k

abbrev pub kept_of : List Asked → List ℕ → List Condition
kept_of asked [] = []
kept_of asked (k ∷ ks) = at_place asked k ++ kept_of asked ks

-- a group of n variables, whose types are changed so
module _ (n : ℕ) (final : Ty → Ty) where
  abbrev pub final_place : Place → Place
  final_place p = record p { vars = n; types = map final p.types }

  -- the places before the first one of the group stay
  abbrev pub final_places : ℕ → List Place → List Place
  final_places zero ps = map final_place ps
  final_places (suc k) [] = []
  final_places (suc k) (p ∷ ps) = p ∷ final_places k ps

  -- what is known of a member from then on, of whose group these conditions are kept
  abbrev pub final_known : List Condition → Known → Known
  final_known cs it = record { vars = n; kinds = it.kinds; params = map final it.params; of = final it.of; conditions = map (with_types final) cs }

  abbrev pub or_final : List Condition → Option Known → Known → Known
  or_final cs None it = it
  or_final cs (Some own) it = final_known cs own

  abbrev pub with_final : List Condition → (ℕ → Option Known) → (ℕ → Known) → ℕ → Known
  with_final cs own known d = or_final cs (own d) (known d)

  -- a typed body, in which each call of a member hands on the group's variables
  abbrev pub final_tree : List ℕ → t.Expr → t.Expr
  final_tree members e = with_calls (is_among members) n (retyped e final)

  abbrev pub final_bodies : List ℕ → List ℕ → List t.Expr → List Done
  final_bodies members (d ∷ ds) (e ∷ es) = record { number = d; tree = final_tree members e } ∷ final_bodies members ds es
  final_bodies members ds es = []
