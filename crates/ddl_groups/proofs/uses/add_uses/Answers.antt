use Rattle.std.proofs.Common.{◌≡◌, ℕ, ◌<◌, List, length, slice_index}
use Rattle.ddl_groups.specs.Placing.{lists_of}
use Rattle.ddl_groups.proofs.Numbering.{needs_other, needs_same, users_more}
use Rattle.ddl_groups.proofs.Settled.{lists_long}
use Rattle.ddl_groups.proofs.uses.add_uses.Goals as goal
use Rattle.ddl_groups.proofs.uses.add_uses.Goals.{then-other-label+in_ok-add_to+in_ok-add_to-2, else-other-label}

pub loop-declaration-preserved : goal.loop-declaration-preserved
loop-declaration-preserved c =
    let before : List (List ℕ) = lists_of c.args.uses.now.needs.items in
    let needs : List (List ℕ) = lists_of c.loop-declaration.uses.needs.items in
    let users : List (List ℕ) = lists_of c.loop-declaration.uses.users.items in
    let i : ℕ = c.loop-declaration.declaration-index in
    let other : ℕ = slice_index c.args.labels.now (slice_index c.args.used.now i) in
    let long : length needs ≡ length before = c.loop-declaration.invariant.needs.long in
    let l_in : c.args.label < length needs = rw (long, lists_long c.args.uses.now.needs.items) c.requires.within in
    let h_in : other < length users =
    rw (c.loop-declaration.invariant.users.long, long, lists_long c.args.uses.now.needs.items)
    (c.requires.labelled (slice_index c.args.used.now i) 0 (c.requires.known i 0 c.loop-declaration-test.true)) in
    elim c.if-other-label.branch [
      | then-other-label+in_ok-add_to+in_ok-add_to-2 w ↦
          rw w.uses-is (rw (w.in_ok-add_to.ensures, w.in_ok-add_to-2.ensures) (record {
            users = users_more needs users c.loop-declaration.invariant.users c.args.label other l_in h_in;
            needs = needs_other before c.args.label c.args.used.now c.args.labels.now needs i c.loop-declaration-test.true c.loop-declaration.invariant.needs
                l_in w.if-other-label.true;
          }))
      | else-other-label w ↦
          rw w.uses-is (record {
            users = c.loop-declaration.invariant.users;
            needs = needs_same before c.args.label c.args.used.now c.args.labels.now needs i c.loop-declaration-test.true c.loop-declaration.invariant.needs
                w.if-other-label.false;
          })
    ]
