use Rattle.std.proofs.Common.{rules}
use Rattle.ddl_modules.proofs.TextLemmas.{shown-text, shown-bytes}
use Rattle.ddl_modules.proofs.names.text_of.Goals as goal

pub returns-in_ok-from_str-in-Ok : goal.returns-in_ok-from_str-in-Ok
returns-in_ok-from_str-in-Ok c = rw (shown-text c.args.bytes.now c.in-Ok.ensures.cases.1) (search rules)

pub returns-in-Err : goal.returns-in-Err
returns-in-Err c = rw (shown-bytes c.args.bytes.now c.in-Err.ensures.cases.0) (search rules)
