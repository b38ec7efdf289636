use Rattle.std.proofs.Common.{◌≡◌, ℕ, List, Contains, subst, sym}
use Rattle.std.specs.Ordering.{nat_cmp}
use Rattle.std.specs.BTreeSet.{insert_key}
use Rattle.ddl_groups.proofs.ReadyLemmas.{is_in, put_in}
use Rattle.ddl_groups.proofs.ready.add.Goals as goal

pub returns : goal.returns
returns c d =
    let e : c.insert.new.self.keys ≡ insert_key nat_cmp c.args.ready.now.keys c.args.first = c.in_ok-insert.ensures.keys in
    let P : List ℕ → Type 0 = λ ks. Contains ks d in
    ((λ m. is_in c.args.first c.args.ready.now.keys d (subst P e m)), (λ m. subst P (sym e) (put_in c.args.first c.args.ready.now.keys d m)))
