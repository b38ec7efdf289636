use Rattle.std.proofs.Common.{◌≡◌, ℕ, ◌<◌, ◌++◌, ◌∷◌, [], length, slice_index, subst, sym, ◌∙◌, arith, length-set}
use Rattle.ddl_groups.specs.Groups.{group_at}
use Rattle.ddl_groups.specs.Numbered.{AreMembers, added}
use Rattle.ddl_groups.specs.Placing.{lists_of}
use Rattle.ddl_groups.proofs.Numbering.{members_more}
use Rattle.ddl_groups.proofs.Settled.{lists_long}
use Rattle.ddl_groups.proofs.members.members.Goals as goal

pub loop-declaration-preserved : goal.loop-declaration-preserved
loop-declaration-preserved c =
    let a : ℕ = c.loop-declaration.declaration in
    let l : ℕ = slice_index c.args.labels.now a in
    let e : lists_of c.add_to.new.lists.items ≡ added (lists_of c.loop-declaration.lists.items) l a = c.in_ok-add_to.ensures in
    let l_in : l < length (lists_of c.loop-declaration.lists.items) =
    rw (lists_long c.loop-declaration.lists.items, c.loop-declaration.invariant.long) (c.requires.known a 0 c.loop-declaration-test.true) in
    record {
      long = sym (lists_long c.add_to.new.lists.items) ∙ rw e
          (length-set (lists_of c.loop-declaration.lists.items) l (group_at (lists_of c.loop-declaration.lists.items) l ++ a ∷ [])
          ∙ lists_long c.loop-declaration.lists.items ∙ c.loop-declaration.invariant.long);
      are = rw e (members_more c.args.labels.now a (lists_of c.loop-declaration.lists.items) c.loop-declaration.invariant.are l_in);
    }

pub returns : goal.returns
returns c =
    let e : c.loop-declaration.declaration ≡ length c.args.labels.now = omega arith in (
      c.loop-declaration.invariant.long,
      subst (λ n. AreMembers c.args.labels.now n (lists_of c.loop-declaration.lists.items)) e
          c.loop-declaration.invariant.are,
    )
