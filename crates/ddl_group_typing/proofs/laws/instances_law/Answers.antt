use Rattle.ddl_group_typing.proofs.Instances.{instances, own_instances}
use Rattle.ddl_group_typing.proofs.laws.instances_law.Goals as goal

pub returns : goal.returns
returns c = record { instances = instances; own = own_instances }
