use Rattle.std.proofs.Common.{◌≡◌, ℕ, ◌<◌, ◌≤◌, List, length, slice_index, get_or, sym, ◌∙◌, arith}
use Rattle.std.proofs.lemmas.List.{get_or_default}
use Rattle.ddl_groups.specs.Groups.{group_at}
use Rattle.ddl_groups.specs.Placing.{IsOpen, IsPlaced, lists_of}
use Rattle.ddl_groups.proofs.Settled.{list_at, lists_long, member_at, now_ready, still_waiting}
use Rattle.ddl_groups.proofs.settling.settle.Goals as goal
use Rattle.ddl_groups.proofs.settling.settle.Goals.{then-rest-eq0+in_ok-add, else-rest-eq0}

pub open_needs-rest-requires-clause-known : goal.open_needs-rest-requires-clause-known
open_needs-rest-requires-clause-known c k d l =
    let hand_in : (get_or c.args.hand.now c.loop-group.group-index 0 < length c.args.needs.now)
    × IsOpen c.args.placed.now (get_or c.args.hand.now c.loop-group.group-index 0) =
    c.requires.in_hand c.loop-group.group-index 0 c.loop-group-test.true in
    let e : group_at (lists_of c.args.needs.now) (get_or c.args.hand.now c.loop-group.group-index 0) ≡ c.index-needs-group.result.items =
    list_at c.args.needs.now (get_or c.args.hand.now c.loop-group.group-index 0) c.index-needs-group.result hand_in.0 c.index-needs-group.is in
    let f : c.deref.result.now ≡ group_at (lists_of c.args.needs.now) (get_or c.args.hand.now c.loop-group.group-index 0) = c.deref.ensures.value ∙ sym e in
    let P : List ℕ → Type 0 = λ xs. get_or c.deref.result.now k d < get_or c.args.hand.now c.loop-group.group-index 0 in
    let lower : get_or c.deref.result.now k d < get_or c.args.hand.now c.loop-group.group-index 0 =
    c.requires.graph.lower (get_or c.args.hand.now c.loop-group.group-index 0) (get_or c.deref.result.now k d) (rw (← f) (member_at c.deref.result.now k d l))
    in
    let m : length c.args.placed.now ≡ length c.args.needs.now = c.requires.marks in
    let n : get_or c.args.hand.now c.loop-group.group-index 0 < length c.args.needs.now = hand_in.0 in
    omega arith

pub loop-group-preserved : goal.loop-group-preserved
loop-group-preserved c =
    let l : ℕ = get_or c.args.hand.now c.loop-group.group-index 0 in
    let needs : List (List ℕ) = lists_of c.args.needs.now in
    let hand_in : (l < length c.args.needs.now) × IsOpen c.args.placed.now l = c.requires.in_hand c.loop-group.group-index 0 c.loop-group-test.true in
    let e : group_at needs l ≡ c.index-needs-group.result.items = list_at c.args.needs.now l c.index-needs-group.result hand_in.0 c.index-needs-group.is in
    let f : c.deref.result.now ≡ group_at needs l = c.deref.ensures.value ∙ sym e in
    let l_in : l < length needs = rw (lists_long c.args.needs.now) hand_in.0 in
    let left_in : l < length c.loop-group.left.items = rw c.loop-group.invariant.long l_in in
    let was : c.index.result.now ≡ slice_index c.loop-group.left.items l = c.index.ensures
    ∙ get_or_default c.loop-group.left.items l c.index.result.now 0 left_in in
    let fewer : c.open_needs-rest.result ≤ slice_index c.loop-group.left.items l = rw (← was) c.open_needs-rest.ensures.fewer in
    let passed : (k : ℕ) → c.open_needs-rest.result ≤ k → k < slice_index c.loop-group.left.items l
    → IsPlaced c.args.placed.now (slice_index (group_at needs l) k) =
    rw (← was, ← f) c.open_needs-rest.ensures.passed in
    elim c.if-rest-eq0.branch [
      | then-rest-eq0+in_ok-add w ↦ rw w.ready-is (now_ready needs c.args.firsts.now c.args.labels.now c.args.placed.now c.loop-group.left.items
          c.loop-group.ready.keys
          c.args.hand.now c.loop-group.group-index c.loop-group.invariant c.requires.graph l c.open_needs-rest.result l_in c.loop-group-test.true (λ i.
          l) fewer passed
          w.if-rest-eq0.true hand_in.1 w.add.new.ready.keys w.in_ok-add.ensures)
      | else-rest-eq0 w ↦ rw w.ready-is (still_waiting needs c.args.firsts.now c.args.labels.now c.args.placed.now c.loop-group.left.items
          c.loop-group.ready.keys
          c.args.hand.now c.loop-group.group-index c.loop-group.invariant c.requires.graph l c.open_needs-rest.result l_in c.loop-group-test.true (λ i.
          l) fewer passed
          (omega (arith, w.if-rest-eq0.false)) (rw (← f) (c.open_needs-rest.ensures.open_one (omega (arith, w.if-rest-eq0.false)))))
    ]
