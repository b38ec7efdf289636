use Rattle.std.proofs.Common.{ap, refl}
use Rattle.ddl_growing.specs.SolverView.{solved}
use Rattle.ddl_growing.proofs.Added.{refused_at_once, as_it_was}
use Rattle.ddl_growing.proofs.adding.add.Goals as goal

pub returns-in-Err-Clash-clause-added : goal.returns-in-Err-Clash-clause-added
returns-in-Err-Clash-clause-added c =
    let h = rw c.in-Err-Clash.field-0-is at c.in-Err-Clash.ensures.refused in
    as_it_was _ _ _ _ _ (ap solved c.in-Err-Clash.ensures.unchanged) (refused_at_once _ _ _ _ (refl, h))

pub returns-in-Err-Endless-clause-added : goal.returns-in-Err-Endless-clause-added
returns-in-Err-Endless-clause-added c =
    let h = rw c.in-Err-Endless.field-0-is at c.in-Err-Endless.ensures.refused in
    as_it_was _ _ _ _ _ (ap solved c.in-Err-Endless.ensures.unchanged) (refused_at_once _ _ _ _ (refl, h))
