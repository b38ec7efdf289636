-- What the code gives at the end of the tokens is what the machine gives, unless memory runs out.
use Rattle.std.specs.Prelude.{◌≡◌, Option, Some, None, Result, Ok, Err}
use Rattle.ddl_tree.specs.declared.module.Module as code_module
use Rattle.ddl_tree.specs.ModuleTree.{Module}
use Rattle.ddl_tree.specs.ViewModule.{module_view}
use Rattle.ddl_states.specs.declared.refusal.Refusal as code_refusal
use Rattle.ddl_states.specs.declared.refusal.Refusal.TheVariants as r

abbrev pub Finishes : Option Module → Result code_module.Module code_refusal.Refusal → Type 0
Finishes o (Ok a) = o ≡ Some (module_view a)
Finishes o (Err r.NoMemory) = Unit {0}
Finishes o (Err r.Unexpected) = o ≡ None
