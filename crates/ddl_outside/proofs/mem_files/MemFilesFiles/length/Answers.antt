use Rattle.std.proofs.Common.{rules}
use Rattle.ddl_outside.proofs.MemFilesLemmas.{Later-told, TouchesOnly-told, reach_told, absent_told}
use Rattle.ddl_outside.proofs.mem_files.MemFilesFiles.length.Goals as goal

pub returns-in-Some-clause-later : goal.returns-in-Some-clause-later
returns-in-Some-clause-later c = Later-told c.args.self.now c.told.new.self c.args.name.now (search rules) (search rules) (search rules) (search rules)

pub returns-in-Some-clause-only : goal.returns-in-Some-clause-only
returns-in-Some-clause-only c = TouchesOnly-told c.args.self.now c.told.new.self c.args.name.now (search rules)

pub returns-in-Some-clause-reach : goal.returns-in-Some-clause-reach
returns-in-Some-clause-reach c = reach_told c.args.self.now c.told.new.self c.args.name.now (search rules)

pub returns-in-None-clause-later : goal.returns-in-None-clause-later
returns-in-None-clause-later c = Later-told c.args.self.now c.miss.new.self c.args.name.now (search rules) (search rules) (search rules) (search rules)

pub returns-in-None-clause-only : goal.returns-in-None-clause-only
returns-in-None-clause-only c = TouchesOnly-told c.args.self.now c.miss.new.self c.args.name.now (search rules)

pub returns-in-None-clause-reach : goal.returns-in-None-clause-reach
returns-in-None-clause-reach c = reach_told c.args.self.now c.miss.new.self c.args.name.now (search rules)

pub returns-in-None-clause-answer : goal.returns-in-None-clause-answer
returns-in-None-clause-answer c = (search rules, absent_told c.args.self.now c.miss.new.self c.args.name.now (search rules) (search rules))
