use Rattle.std.proofs.Common.{◌≡◌, ◌∙◌, sym, true, ap, List, ℕ}
use Rattle.ddl_modules.specs.Levels.{has}
use Rattle.ddl_modules.proofs.RowLemmas.{has-old, has-push}
use Rattle.ddl_modules.proofs.rows.add_once.Goals as goal

pub returns-then-has : goal.returns-then-has
returns-then-has c =
    let found : has c.deref.result.now c.args.number ≡ true = sym c.has.ensures ∙ c.if-has.true in
    let there : has c.args.numbers.now.items c.args.number ≡ true = rw c.deref.ensures.value at found in
    λ n. sym (has-old c.args.numbers.now.items c.args.number n there)

pub returns : goal.returns
returns c = λ n. ap (λ (l : List ℕ). has l n) c.in_ok-push.ensures.items ∙ has-push c.args.numbers.now.items c.args.number n
