use Rattle.std.proofs.Common.{refl}
use Rattle.ddl_modules.proofs.reading.add_unit.Goals as goal

pub returns-clause-added : goal.returns-clause-added
returns-clause-added c = (
  record { name = c.args.name; tree = c.args.tree; imports = c.in_ok-imports.imports },
  record {
    name_of = refl;
    tree_of = refl;
    imports = (rw c.deref.ensures.value at c.in_ok-imports.ensures.places, rw c.deref.ensures.value at c.in_ok-imports.ensures.room);
    units = c.in_ok-push.ensures.items;
    names = rw c.deref.ensures.value at c.in_ok-imports.ensures.added;
    few = c.in_ok-imports.ensures.few;
  },
)
