use Rattle.std.proofs.Common.{◌≡◌, ℕ, slice_index, subst, sym, ◌∙◌}
use Rattle.ddl_groups.specs.Groups.{group_at}
use Rattle.ddl_groups.specs.Numbered.{AreNeedsMore}
use Rattle.ddl_groups.specs.Placing.{lists_of}
use Rattle.ddl_groups.proofs.Numbering.{group_needs_more}
use Rattle.ddl_groups.proofs.Settled.{list_at, lists_long}
use Rattle.ddl_groups.proofs.uses.group_uses.Goals as goal

pub add_uses-requires-clause-known : goal.add_uses-requires-clause-known
add_uses-requires-clause-known c =
    let a : ℕ = c.loop-declaration.declaration in
    let e : group_at (lists_of c.args.needs.now) a ≡ c.index-needs-declaration.result.items =
    list_at c.args.needs.now a c.index-needs-declaration.result c.loop-declaration-test.true c.index-needs-declaration.is in
    rw (c.requires.long, c.deref.ensures.value, ← e) (c.requires.known a)

pub loop-declaration-preserved : goal.loop-declaration-preserved
loop-declaration-preserved c =
    let a : ℕ = c.loop-declaration.declaration in
    let e : group_at (lists_of c.args.needs.now) a ≡ c.index-needs-declaration.result.items =
    list_at c.args.needs.now a c.index-needs-declaration.result c.loop-declaration-test.true c.index-needs-declaration.is in
    let M : AreNeedsMore (lists_of c.loop-declaration.uses.needs.items) (slice_index c.args.labels.now a) (group_at (lists_of c.args.needs.now) a)
    c.args.labels.now (lists_of c.add_uses.new.uses.needs.items) =
    subst (λ xs. AreNeedsMore (lists_of c.loop-declaration.uses.needs.items) (slice_index c.args.labels.now a) xs c.args.labels.now
    (lists_of c.add_uses.new.uses.needs.items))
    (c.deref.ensures.value ∙ sym e) c.in_ok-add_uses.ensures.needs in
    record {
      long = sym (lists_long c.add_uses.new.uses.needs.items) ∙ M.long ∙ lists_long c.loop-declaration.uses.needs.items ∙ c.loop-declaration.invariant.long;
      users = c.in_ok-add_uses.ensures.users;
      needs = group_needs_more (lists_of c.args.needs.now) c.args.labels.now a (lists_of c.loop-declaration.uses.needs.items)
          (lists_of c.add_uses.new.uses.needs.items) c.loop-declaration.invariant.needs M;
    }
