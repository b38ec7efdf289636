use Rattle.std.proofs.Common.{◌≡◌, ◌∙◌, length, inr}
use Rattle.std.proofs.lemmas.Result.{err_from_is_err_and}
use Rattle.ddl_modules.proofs.TurnLemmas.{takes_file, tree_at}
use Rattle.ddl_modules.proofs.reading.load_file.Goals as goal

pub returns-in_err-add_unit-clause-none : goal.returns-in_err-add_unit-clause-none
returns-in_err-add_unit-clause-none g c =
    let number : c.len-number.result ≡ length c.args.loading.now.units.items = c.len-number.ensures ∙ c.args.loading.now.units.ok.0 in
    let p = err_from_is_err_and c.from_residual-in_err-add_unit.result c.from_residual-in_err-add_unit.ensures.1 in
    rw (p.1, p.2) (inr (
      c.in_ok-parsed.parsed.length,
      c.in_ok-parsed.parsed.tree,
      tree_at (g.F.Files.state c.read_tree.new.files) c.args.file.now c.len-number.result (length c.args.loading.now.units.items) c.args.loading.now.length
          c.in_ok-parsed.parsed.length c.in_ok-parsed.parsed.tree number c.in_ok-parsed.ensures.tree,
      c.in_err-add_unit.ensures.full,
    ))

pub returns-clause-taken : goal.returns-clause-taken
returns-clause-taken g c =
    let number : c.len-number.result ≡ length c.args.loading.now.units.items = c.len-number.ensures ∙ c.args.loading.now.units.ok.0 in
    let added = c.in_ok-add_unit.ensures.added in
    takes_file (g.F.Files.state c.read_tree.new.files) c.args.file.now c.args.name c.len-number.result c.args.loading.now c.add_unit.new.loading
    c.in_ok-parsed.parsed.tree c.in_ok-parsed.parsed.length
    added.0 number added.1 c.in_ok-parsed.ensures.tree c.in_ok-add_unit.ensures.length
