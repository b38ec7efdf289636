use Rattle.std.proofs.Common.{◌∙◌, ◌+◌, ◌++◌, ◌∷◌, [], ap, sym, drop, Bool, List, ℕ}
use Rattle.ddl_modules.specs.Levels.{joined}
use Rattle.ddl_modules.proofs.LevelLemmas.{joined_step}
use Rattle.ddl_modules.proofs.levels.joined.Goals as goal

pub loop-unit-preserved : goal.loop-unit-preserved
loop-unit-preserved c =
    let i : ℕ = c.loop-unit.unit in
    let rest : List Bool = joined (drop (i + 1) c.args.flags.now) (drop (i + 1) c.args.others.now) in
    joined_step c.args.flags.now c.args.others.now c.loop-unit.both.items i c.requires c.loop-unit-test.true c.loop-unit.invariant
    ∙ ap (λ (l : List Bool). l ++ rest) (sym (c.in_ok-push.ensures.items ∙ ap (λ (b : Bool). c.loop-unit.both.items ++ b ∷ []) c.either_up.ensures))
