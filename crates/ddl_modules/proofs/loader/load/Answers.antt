use Rattle.std.proofs.Common.{List, subst, sym}
use Rattle.std.specs.List.{All}
use Rattle.std.proofs.lemmas.Result.{err_from_is_err_and}
use Rattle.ddl_tree.specs.declared.module.SourceUnit.{SourceUnit}
use Rattle.ddl_modules.specs.Loaded.{HasPlaces, IsCycleOf}
use Rattle.ddl_modules.proofs.LoadLemmas.{all_places, not_loaded, read_without_memory, told_cycle}
use Rattle.ddl_modules.proofs.loader.load.Goals as goal

pub returns-in_err-units-clause-none : goal.returns-in_err-units-clause-none
returns-in_err-units-clause-none g c =
    let p = err_from_is_err_and c.from_residual.result c.from_residual.ensures.1 in
    rw (p.1, p.2) (not_loaded (g.F.Files.state c.args.files.now) (g.F.Files.state c.load_all.new.files) c.args.root.now c.in_err-units.field-0.0
    c.in_err-units.ensures.none)

pub returns-in_err-cycle-clause-none : goal.returns-in_err-cycle-clause-none
returns-in_err-cycle-clause-none g c =
    let p = err_from_is_err_and c.from_residual-in_err-cycle.result c.from_residual-in_err-cycle.ensures.1 in
    rw (p.1, p.2) (read_without_memory (g.F.Files.state c.args.files.now) (g.F.Files.state c.load_all.new.files) c.args.root.now c.in_ok-units.units.items
    c.in_ok-units.ensures.read)

pub refusal-requires-clause-places : goal.refusal-requires-clause-places
refusal-requires-clause-places g c =
    let read = c.in_ok-units.ensures.read in
    let P : List SourceUnit → Type 0 = λ us. All HasPlaces us in
    subst P (sym c.deref-in-Some.ensures.value) (all_places (g.F.Files.state c.load_all.new.files) c.args.root.now c.in_ok-units.units.items read.0 read.1
    read.2)

pub returns-in_err-refusal-in-Some-clause-none : goal.returns-in_err-refusal-in-Some-clause-none
returns-in_err-refusal-in-Some-clause-none g c =
    let p = err_from_is_err_and c.from_residual-in_err-refusal-in-Some.result c.from_residual-in_err-refusal-in-Some.ensures.1 in
    rw (p.1, p.2) (read_without_memory (g.F.Files.state c.args.files.now) (g.F.Files.state c.load_all.new.files) c.args.root.now c.in_ok-units.units.items
    c.in_ok-units.ensures.read)

pub returns-in_ok-refusal-in-Some-clause-none : goal.returns-in_ok-refusal-in-Some-clause-none
returns-in_ok-refusal-in-Some-clause-none g c =
    let P : List SourceUnit → Type 0 = λ us. IsCycleOf us c.in_ok-refusal-in-Some.field-0 in
    told_cycle (g.F.Files.state c.args.files.now) (g.F.Files.state c.load_all.new.files) c.args.root.now c.in_ok-units.units.items
    c.in_ok-refusal-in-Some.field-0 c.in_ok-units.ensures.read
    (subst P c.deref-in-Some.ensures.value c.in_ok-refusal-in-Some.ensures)
