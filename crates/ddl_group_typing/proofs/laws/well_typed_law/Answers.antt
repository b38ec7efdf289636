use Rattle.ddl_group_typing.proofs.Closing.{tables_close}
use Rattle.ddl_group_typing.proofs.GroupWellTyped.{groups_well_typed, groups_well_typed_at_all, own_calls, trees_of_group}
use Rattle.ddl_group_typing.proofs.laws.well_typed_law.Goals as goal

pub returns : goal.returns
returns c = record { own = groups_well_typed; all = groups_well_typed_at_all; trees = trees_of_group; calls = own_calls; closes = tables_close }
