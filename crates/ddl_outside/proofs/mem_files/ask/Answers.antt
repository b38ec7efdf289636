use Rattle.std.proofs.Common.{◌≡◌, ◌+◌, length, get_or, min, max, ℕ, ap, refl, sym, ◌∙◌, arith, rules}
use Rattle.ddl_outside.specs.MemFiles.{Entry, entry_of, named_entry, asked_entry, bytes_of}
use Rattle.ddl_outside.specs.declared.mem_files.MemFile.{MemFile}
use Rattle.ddl_outside.specs.declared.named.Named.{Named}
use Rattle.ddl_outside.proofs.NamedLemmas.{place_none, place_within, place_change}
use Rattle.ddl_outside.proofs.mem_files.ask.Goals as goal

pub returns-in-Some : goal.returns-in-Some
returns-in-Some c =
    let file : Named MemFile = get_or c.args.files.now c.in-Some.found c.index-files-found.result in
    let reach : c.max-file.result ≡ max file.thing.reach (min (c.args.at + c.args.count) (length (bytes_of file.thing.content))) =
    omega (arith, c.max-file.ensures, c.min-end.ensures, c.saturating_add.ensures, c.length.ensures, c.length.type_inv) in
    place_change (λ f. entry_of f.thing) (asked_entry c.args.at c.args.count) c.args.files.now c.args.name.now c.in-Some.found file _ (sym c.place.ensures
    ∙ c.in-Some.is)
    (ap (λ (f : Named MemFile). get_or c.args.files.now c.in-Some.found f) c.index-files-found.is)
    refl
    (ap (λ (n : ℕ). let entry : Entry = record { bytes = bytes_of file.thing.content; told = file.thing.told; reach = n } in entry) reach)

pub returns-in_default : goal.returns-in_default
returns-in_default c = sym (place_none (λ f. entry_of f.thing) (asked_entry c.args.at c.args.count) c.args.files.now c.args.name.now (sym c.place.ensures
    ∙ c.in_default.is)).1

pub offset_bounds-files-found : goal.offset_bounds-files-found
offset_bounds-files-found c = let within = place_within named_entry c.args.files.now c.args.name.now c.in-Some.found (sym c.place.ensures ∙ c.in-Some.is)
    in search rules

pub bounds-files-found : goal.bounds-files-found
bounds-files-found c = place_within named_entry c.args.files.now c.args.name.now c.in-Some.found (sym c.place.ensures ∙ c.in-Some.is)
