use Rattle.std.proofs.Common.{ℕ, ◌<◌, length, slice_index}
use Rattle.ddl_groups.specs.Placing.{lists_of}
use Rattle.ddl_groups.proofs.Placed.{hand_after, has_users, placed_one, users_open, whole_order}
use Rattle.ddl_groups.proofs.Settled.{list_at, lists_long}
use Rattle.ddl_groups.proofs.Started.{start_hand, start_placing, start_waiting}
use Rattle.ddl_groups.proofs.placing.group_order.Goals as goal

pub settle-requires-clause-in_hand : goal.settle-requires-clause-in_hand
settle-requires-clause-in_hand c =
    rw (c.deref.ensures.value, c.deref-2.ensures.value, ← lists_long c.args.needs.now)
    (start_hand (lists_of c.args.needs.now) (length c.args.needs.now) c.args.firsts.now c.args.labels.now c.in_ok-placed.placed.items
    (lists_long c.args.needs.now) c.in_ok-placed.ensures c.in_ok-left.left.items c.in_ok-every.every.items c.in_ok-left.ensures c.in_ok-every.ensures)

pub settle-requires-clause-waiting : goal.settle-requires-clause-waiting
settle-requires-clause-waiting c =
    rw (c.deref.ensures.value, c.deref-2.ensures.value, c.new-ready.ensures.empty)
    (start_waiting (lists_of c.args.needs.now) (length c.args.needs.now) c.args.firsts.now c.args.labels.now c.in_ok-placed.placed.items
    (lists_long c.args.needs.now) c.in_ok-placed.ensures c.in_ok-left.left.items c.in_ok-every.every.items c.in_ok-left.ensures c.in_ok-every.ensures)

pub loop-first-init : goal.loop-first-init
loop-first-init c = record {
  placing = rw c.new-order.ensures.items (start_placing (lists_of c.args.needs.now) (length c.args.needs.now) c.args.firsts.now c.args.labels.now
      c.in_ok-placed.placed.items
      (lists_long c.args.needs.now) c.in_ok-placed.ensures);
  waiting = rw (← c.deref-2.ensures.value) c.in_ok-settle.ensures;
}

pub bounds-labels-first : goal.bounds-labels-first
bounds-labels-first c = (c.loop-first.invariant.waiting.bound c.in-Some.first c.in-Some.ensures.0).0

pub settle-requires-in-Some-clause-in_hand : goal.settle-requires-in-Some-clause-in_hand
settle-requires-in-Some-clause-in_hand c =
    let l : ℕ = slice_index c.args.labels.now c.in-Some.first in
    let in_users : l < length c.args.users.now =
    rw (← lists_long c.args.users.now) (has_users (lists_of c.args.needs.now) c.args.firsts.now c.args.labels.now c.loop-first.placed.items
    c.loop-first.order.items c.loop-first.left.items
    c.loop-first.ready.keys c.take_least.new.ready.keys c.in-Some.first l c.loop-first.invariant.placing c.loop-first.invariant.waiting c.requires.numbered
    c.in-Some.ensures.0 (λ i. l)
    c.in-Some.ensures.1 c.in-Some.ensures.2 (lists_of c.args.users.now) c.requires.used) in
    rw (
      c.deref-in-Some.ensures.value,
      c.deref-in-Some-2.ensures.value,
      ← list_at c.args.users.now l c.index-users-group.result in_users c.index-users-group.is,
      ← lists_long c.args.needs.now,
    )
    (users_open (lists_of c.args.needs.now) c.args.firsts.now c.args.labels.now c.loop-first.placed.items c.loop-first.order.items c.loop-first.left.items
    c.loop-first.ready.keys
    c.take_least.new.ready.keys c.in-Some.first l c.loop-first.invariant.placing c.loop-first.invariant.waiting c.requires.numbered c.in-Some.ensures.0 (λ i. l)
    c.in-Some.ensures.1 c.in-Some.ensures.2 (lists_of c.args.users.now) c.requires.used)

pub settle-requires-in-Some-clause-waiting : goal.settle-requires-in-Some-clause-waiting
settle-requires-in-Some-clause-waiting c =
    let l : ℕ = slice_index c.args.labels.now c.in-Some.first in
    let in_users : l < length c.args.users.now =
    rw (← lists_long c.args.users.now) (has_users (lists_of c.args.needs.now) c.args.firsts.now c.args.labels.now c.loop-first.placed.items
    c.loop-first.order.items c.loop-first.left.items
    c.loop-first.ready.keys c.take_least.new.ready.keys c.in-Some.first l c.loop-first.invariant.placing c.loop-first.invariant.waiting c.requires.numbered
    c.in-Some.ensures.0 (λ i. l)
    c.in-Some.ensures.1 c.in-Some.ensures.2 (lists_of c.args.users.now) c.requires.used) in
    rw (c.deref-in-Some.ensures.value, c.deref-in-Some-2.ensures.value, ← list_at c.args.users.now l c.index-users-group.result in_users c.index-users-group.is)
    (hand_after (lists_of c.args.needs.now) c.args.firsts.now c.args.labels.now c.loop-first.placed.items c.loop-first.order.items c.loop-first.left.items
    c.loop-first.ready.keys
    c.take_least.new.ready.keys c.in-Some.first l c.loop-first.invariant.placing c.loop-first.invariant.waiting c.requires.numbered c.in-Some.ensures.0 (λ i. l)
    c.in-Some.ensures.1 c.in-Some.ensures.2 (lists_of c.args.users.now) c.requires.used)

pub loop-first-preserved : goal.loop-first-preserved
loop-first-preserved c =
    let l : ℕ = slice_index c.args.labels.now c.in-Some.first in
    record {
      placing = rw c.in_ok-push.ensures.items (placed_one (lists_of c.args.needs.now) c.args.firsts.now c.args.labels.now c.loop-first.placed.items
          c.loop-first.order.items c.loop-first.left.items
          c.loop-first.ready.keys c.take_least.new.ready.keys c.in-Some.first l c.loop-first.invariant.placing c.loop-first.invariant.waiting
          c.requires.numbered c.in-Some.ensures.0 (λ i. l)
          c.in-Some.ensures.1 c.in-Some.ensures.2);
      waiting = rw (← c.deref-in-Some-2.ensures.value) c.in_ok-settle-2.ensures;
    }

pub returns : goal.returns
returns c =
    whole_order (lists_of c.args.needs.now) c.args.firsts.now c.args.labels.now c.loop-first.placed.items c.loop-first.order.items c.loop-first.left.items
    c.loop-first.ready.keys
    c.loop-first.invariant.placing c.loop-first.invariant.waiting c.requires.numbered c.in_default.ensures
