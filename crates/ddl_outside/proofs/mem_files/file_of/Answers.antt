use Rattle.std.proofs.Common.{Some, ap, sym, ◌∙◌, rules}
use Rattle.ddl_outside.specs.MemFiles.{entry_of, named_entry, told_entry}
use Rattle.ddl_outside.specs.declared.mem_files.MemFile.{MemFile}
use Rattle.ddl_outside.specs.declared.named.Named.{Named}
use Rattle.ddl_outside.proofs.NamedLemmas.{place_none, place_within, place_thing}
use Rattle.ddl_outside.proofs.mem_files.file_of.Goals as goal

pub returns-in_err-at : goal.returns-in_err-at
returns-in_err-at c = rw c.from_residual.ensures (sym (place_none (λ f. entry_of f.thing) told_entry c.args.files.now c.args.name.now (sym c.place.ensures
    ∙ c.in_err-at.was)).0)

pub offset_bounds-files-at : goal.offset_bounds-files-at
offset_bounds-files-at c = let within = place_within named_entry c.args.files.now c.args.name.now c.in_ok-at.at (sym c.place.ensures ∙ c.in_ok-at.was)
    in search rules

pub bounds-files-at : goal.bounds-files-at
bounds-files-at c = place_within named_entry c.args.files.now c.args.name.now c.in_ok-at.at (sym c.place.ensures ∙ c.in_ok-at.was)

pub returns : goal.returns
returns c =
    ap (λ (f : Named MemFile). Some (entry_of f.thing)) (sym c.index-files-at.is)
    ∙ sym (place_thing (λ f. entry_of f.thing) c.args.files.now c.args.name.now c.in_ok-at.at c.index-files-at.result (sym c.place.ensures
    ∙ c.in_ok-at.was) c.index-files-at.is)
