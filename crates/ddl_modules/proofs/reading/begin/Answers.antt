use Rattle.std.proofs.Common.{inl, inr, refl}
use Rattle.std.proofs.lemmas.Result.{err_from_is_err_and}
use Rattle.ddl_modules.proofs.BeginLemmas.{begun}
use Rattle.ddl_modules.proofs.reading.begin.Goals as goal

pub returns-in_err-names-clause-none : goal.returns-in_err-names-clause-none
returns-in_err-names-clause-none c =
    let p = err_from_is_err_and c.from_residual.result c.from_residual.ensures.1 in
    rw (p.1, p.2) (inl tt)

pub returns-in_err-tree-clause-none : goal.returns-in_err-tree-clause-none
returns-in_err-tree-clause-none c =
    let p = err_from_is_err_and c.from_residual-in_err-tree.result c.from_residual-in_err-tree.ensures.1 in
    rw (p.1, p.2) (inl c.in_err-tree.ensures.none)

pub returns-in_err-name-clause-none : goal.returns-in_err-name-clause-none
returns-in_err-name-clause-none c =
    let p = err_from_is_err_and c.from_residual-in_err-name.result c.from_residual-in_err-name.ensures.1 in
    rw (p.1, p.2) (inl tt)

pub returns-in_err-add_unit-clause-none : goal.returns-in_err-add_unit-clause-none
returns-in_err-add_unit-clause-none c =
    let p = err_from_is_err_and c.from_residual-in_err-add_unit.result c.from_residual-in_err-add_unit.ensures.1 in
    rw (p.1, p.2) (inr (
      c.in_ok-tree.tree,
      c.in_ok-tree.ensures.tree,
      rw c.in_ok-names.ensures.names at (rw c.in_ok-name.ensures at c.in_err-add_unit.ensures.full),
    ))

pub returns-clause-begun : goal.returns-clause-begun
returns-clause-begun c =
    let added = c.in_ok-add_unit.ensures.added in
    begun c.args.root.now c.in_ok-name.name (record { names = c.in_ok-names.names; units = c.new.result; length = 0 }) c.add_unit.new.loading c.in_ok-tree.tree
    added.0
    c.in_ok-name.ensures c.new.ensures.items c.in_ok-names.ensures.names refl c.in_ok-tree.ensures.tree added.1 c.in_ok-add_unit.ensures.length
