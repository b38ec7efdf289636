use Rattle.std.proofs.Common.{◌≡◌, ◌∙◌, ℕ, ap, List}
use Rattle.ddl_modules.specs.Levels.{has}
use Rattle.ddl_modules.specs.declared.rows.Row.{Row}
use Rattle.ddl_modules.proofs.RowLemmas.{rows_more}
use Rattle.ddl_modules.proofs.rows.rows_of.Goals as goal

pub loop-unit-preserved : goal.loop-unit-preserved
loop-unit-preserved c =
    let row : Row = record { units = c.in_ok-distinct.field-0 } in
    let same : (b : ℕ) → has row.units.items b ≡ has c.unit-item.result.imports.items b =
    λ b. c.in_ok-distinct.ensures b ∙ ap (λ (l : List ℕ). has l b) c.deref.ensures.value in
    rw c.in_ok-push.ensures.items
    (rows_more c.args.units.now c.loop-unit.rows.items c.loop-unit.unit-index c.unit-item.result row c.loop-unit-test.true c.unit-item.is c.loop-unit.invariant
    same)
