use Rattle.std.proofs.Common.{refl}
use Rattle.ddl_value.proofs.InPlace.{pushes_in}
use Rattle.ddl_value.proofs.builders.push_inside.Goals as goal

pub returns-in-Ok-clause-pushed : goal.returns-in-Ok-clause-pushed
returns-in-Ok-clause-pushed c =
    pushes_in c.args.slots.now c.push.new.self c.args.id c.args.item _ refl c.requires.builder.0 c.requires.builder.1 c.requires.alone c.requires.counts
    c.in-Ok.ensures.pushed
