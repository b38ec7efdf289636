use Rattle.std.proofs.Common.{◌≡◌, ℕ, List, [], ◌∷◌, ◌++◌, set, ap, sym, ◌∙◌}
use Rattle.std.proofs.lemmas.List.{map-set}
use Rattle.ddl_groups.specs.Groups.{group_at}
use Rattle.ddl_groups.specs.Placing.{lists_of}
use Rattle.ddl_groups.proofs.Settled.{list_at}
use Rattle.ddl_groups.proofs.lists.add_to.Goals as goal

pub returns : goal.returns
returns c =
    let e : group_at (lists_of c.args.lists.now.items) c.args.at ≡ c.index_mut.result.now.items =
    list_at c.args.lists.now.items c.args.at c.index_mut.result.now c.requires c.index_mut.ensures.value in
    let f : c.push.new.self.items ≡ group_at (lists_of c.args.lists.now.items) c.args.at ++ c.args.value ∷ [] =
    c.in_ok-push.ensures.items ∙ ap (λ (ys : List ℕ). ys ++ c.args.value ∷ []) (sym e) in
    map-set (λ v. v.items) c.args.lists.now.items c.args.at c.push.new.self ∙ ap (λ (xs : List ℕ). set (lists_of c.args.lists.now.items) c.args.at xs) f
