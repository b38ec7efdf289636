use Rattle.std.proofs.Common.{length, Some, ap, sym, ◌∙◌, rules}
use Rattle.ddl_outside.specs.Named.{name_of}
use Rattle.ddl_outside.specs.MemFiles.{entry_of, named_entry, told_entry}
use Rattle.ddl_outside.specs.declared.mem_files.MemFile.{MemFile}
use Rattle.ddl_outside.specs.declared.named.Named.{Named}
use Rattle.ddl_outside.proofs.NamedLemmas.{place_none, place_within, place_thing, place_change}
use Rattle.ddl_outside.proofs.mem_files.tell.Goals as goal

pub returns-in_err-at-clause-length : goal.returns-in_err-at-clause-length
returns-in_err-at-clause-length c = rw (place_none (λ f. entry_of f.thing) told_entry c.args.files.now c.args.name.now (sym c.place.ensures
    ∙ c.in_err-at.was)).0 c.from_residual.ensures

pub returns-in_err-at-clause-files : goal.returns-in_err-at-clause-files
returns-in_err-at-clause-files c = sym (place_none (λ f. entry_of f.thing) told_entry c.args.files.now c.args.name.now (sym c.place.ensures
    ∙ c.in_err-at.was)).1

pub offset_bounds-files-at : goal.offset_bounds-files-at
offset_bounds-files-at c = let within = place_within named_entry c.args.files.now c.args.name.now c.in_ok-at.at (sym c.place.ensures ∙ c.in_ok-at.was)
    in search rules

pub bounds-files-at : goal.bounds-files-at
bounds-files-at c = place_within named_entry c.args.files.now c.args.name.now c.in_ok-at.at (sym c.place.ensures ∙ c.in_ok-at.was)

pub returns-clause-length : goal.returns-clause-length
returns-clause-length c =
    rw (place_thing (λ f. entry_of f.thing) c.args.files.now c.args.name.now c.in_ok-at.at c.index-files-at.result (sym c.place.ensures
    ∙ c.in_ok-at.was) c.index-files-at.is)
    (ap Some (c.length.ensures ∙ ap (λ (f : Named MemFile). length (entry_of f.thing).bytes) (sym c.index-files-at.is)))

pub returns-clause-files : goal.returns-clause-files
returns-clause-files c =
    place_change (λ f. entry_of f.thing) told_entry c.args.files.now c.args.name.now c.in_ok-at.at c.index-files-at.result _ (sym c.place.ensures
    ∙ c.in_ok-at.was) c.index-files-at.is
    (ap (λ (f : Named MemFile). name_of f) (sym c.index-files-at.is))
    (ap (λ (f : Named MemFile). told_entry (entry_of f.thing)) (sym c.index-files-at.is))
