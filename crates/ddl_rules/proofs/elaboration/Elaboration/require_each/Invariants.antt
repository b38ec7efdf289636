use Rattle.std.proofs.Common.{◌≡◌, ◌++◌, map, take}
use Rattle.ddl_types.specs.CondView.{cond_view}
use Rattle.ddl_types.specs.Conditions.{on_condition}
use Rattle.ddl_judging.specs.Shapes.{at}
use Rattle.ddl_rules.specs.Asks.{asks_for}
use Rattle.ddl_rules.specs.Views.{asks_of, env_of, state_of}
use Rattle.ddl_rules.proofs.elaboration.Elaboration.require_each.Given as goal

abbrev pub invariant-loop-cond : goal.invariant-loop-cond
invariant-loop-cond l = (asks_of l.self ≡ asks_of l.fn.self
    ++ map (λ c. asks_for c l.span) (map (on_condition (at l.vars l.first)) (map cond_view (take l.cond-index l.conds))))
    × (state_of l.self ≡ state_of l.fn.self) × (env_of l.self ≡ env_of l.fn.self)
