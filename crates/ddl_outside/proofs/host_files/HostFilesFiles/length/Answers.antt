use Rattle.std.proofs.Common.{◌≡◌, None, rules}
use Rattle.ddl_outside.specs.Named.{at_name}
use Rattle.ddl_outside.proofs.HostFilesLemmas.{Later-kept, TouchesOnly-kept, reaches_kept}
use Rattle.ddl_outside.proofs.host_files.HostFilesFiles.length.Goals as goal

pub returns-in-Ok-keep-clause-later : goal.returns-in-Ok-keep-clause-later
returns-in-Ok-keep-clause-later g c =
    let anew : at_name c.args.self.now.seen c.args.name.now ≡ None = search rules in
    Later-kept c.args.self.now c.keep.new.self c.args.name.now c.len-length.result anew c.in-Ok-keep.ensures.ok

pub returns-in-Ok-keep-clause-only : goal.returns-in-Ok-keep-clause-only
returns-in-Ok-keep-clause-only g c = TouchesOnly-kept c.args.self.now c.keep.new.self c.args.name.now c.len-length.result c.in-Ok-keep.ensures.ok

pub returns-in-Ok-keep-clause-reach : goal.returns-in-Ok-keep-clause-reach
returns-in-Ok-keep-clause-reach g c =
    let anew : at_name c.args.self.now.seen c.args.name.now ≡ None = search rules in
    reaches_kept c.args.self.now c.keep.new.self c.args.name.now c.len-length.result anew c.in-Ok-keep.ensures.ok
