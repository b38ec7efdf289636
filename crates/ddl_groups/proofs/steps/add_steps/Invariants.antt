use Rattle.std.proofs.Common.{take}
use Rattle.ddl_groups.specs.Searching.{StepsMore}
use Rattle.ddl_groups.proofs.steps.add_steps.Given as goal

abbrev pub invariant-loop-declaration : goal.invariant-loop-declaration
invariant-loop-declaration l = StepsMore l.initial.pending.items l.from (take l.declaration-index l.used) l.pending.items
