use Rattle.std.proofs.Common.{◌<◌, ◌∙◌, ap, sym, Bool, List, ℕ, length, take, get_or}
use Rattle.std.specs.Prelude.{◌||◌, ◌==◌}
use Rattle.std.proofs.lemmas.List.{take_more}
use Rattle.ddl_modules.specs.Levels.{has}
use Rattle.ddl_modules.proofs.RowLemmas.{has-push}
use Rattle.ddl_modules.proofs.rows.distinct.Goals as goal

pub loop-number-preserved : goal.loop-number-preserved
loop-number-preserved c =
    let xs : List ℕ = c.args.numbers.now in
    let i : ℕ = c.loop-number.number-index in
    let x : ℕ = get_or xs i 0 in
    let within : i < length xs = c.loop-number-test.true in
    λ n. c.in_ok-add_once.ensures n ∙ (ap (λ (b : Bool). b || (x == n)) (c.loop-number.invariant n)
    ∙ (sym (has-push (take i xs) x n) ∙ ap (λ (l : List ℕ). has l n) (sym (take_more xs i 0 within))))
