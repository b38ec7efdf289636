use Rattle.std.proofs.Common.{◌≡◌, ◌-◌, ◌<◌, ◌≤◌, ◌^◌, length, get_or, take, vec_len, subst, ◌∙◌, arith, rules}
use Rattle.ddl_groups.specs.declared.marks.Mark.TheVariants.{Unseen, Open, Closed}
use Rattle.ddl_groups.specs.Placing.{lists_of}
use Rattle.ddl_groups.specs.Searching.{mark_at}
use Rattle.ddl_groups.proofs.Stepped.{joined_followed, joined_path, last_is, mark_is, none_later, reaches_it, seen_followed, to_declared, to_in}
use Rattle.ddl_groups.proofs.Stepped.{unseen_followed, unseen_path}
use Rattle.ddl_groups.proofs.steps.take_step.Goals as goal

pub overflow_add-step : goal.overflow_add-step
overflow_add-step c =
    let n : vec_len c.args.search.now.pending ≡ length c.args.search.now.pending.items = search rules in
    let is : get_or c.args.search.now.pending.items (length c.args.search.now.pending.items - 1) c.index-step.result.now ≡ c.index-step.result.now =
    last_is c.args.search.now.pending.items c.args.search.now.pending.items c.len.result c.index-step.result.now c.index-step.ensures (c.len.ensures
    ∙ n) (λ i. c.args.search.now.pending.items) in
    let some : 0 < length c.args.search.now.pending.items = c.requires.some in
    let l : c.index-step.result.now.from < length c.args.search.now.path.items =
    (c.requires.holds.path.steps_in c.index-step.result.now (length c.args.search.now.pending.items - 1, omega arith, is)).0 in
    let m : vec_len c.args.search.now.path ≡ length c.args.search.now.path.items = search rules in
    let k : vec_len c.args.search.now.path < 2 ^ 63 = search rules in
    omega arith

pub close_from-requires-clause-before : goal.close_from-requires-clause-before
close_from-requires-clause-before c t m =
    let n : vec_len c.args.search.now.pending ≡ length c.args.search.now.pending.items = search rules in
    let l : t.from ≤ c.index-step.result.now.from =
    none_later c.args.search.now.pending.items c.index-step.result.now c.requires.holds.path.sorted
    (last_is c.args.search.now.pending.items c.args.search.now.pending.items c.len.result c.index-step.result.now c.index-step.ensures (c.len.ensures
    ∙ n) (λ i. c.args.search.now.pending.items)) t m in
    omega arith

pub index-requires : goal.index-requires
index-requires c =
    let n : vec_len c.args.search.now.pending ≡ length c.args.search.now.pending.items = search rules in
    let is : get_or c.close_from.new.search.pending.items (length c.close_from.new.search.pending.items - 1) c.index-step.result.now ≡ c.index-step.result.now =
    last_is c.args.search.now.pending.items c.close_from.new.search.pending.items c.len.result c.index-step.result.now c.index-step.ensures (c.len.ensures
    ∙ n) c.close_from.ensures.pending in
    let some : 0 < length c.close_from.new.search.pending.items = rw c.close_from.ensures.pending c.requires.some in
    let h : c.index-step.result.now.to < length c.close_from.new.search.marks.items =
    to_in (lists_of c.args.needs.now) c.close_from.new.search.path.items c.close_from.new.search.heads.items c.close_from.new.search.pending.items
    c.close_from.new.search.marks.items c.close_from.new.search.labels.items c.close_from.new.search.count c.close_from.ensures.holds.path
    c.close_from.ensures.holds.followed some c.index-step.result.now is c.close_from.ensures.below c.requires.declared in
    search rules

pub returns-in-Unseen-clause-step : goal.returns-in-Unseen-clause-step
returns-in-Unseen-clause-step c =
    let n : vec_len c.args.search.now.pending ≡ length c.args.search.now.pending.items = search rules in
    let is : get_or c.close_from.new.search.pending.items (length c.close_from.new.search.pending.items - 1) c.index-step.result.now ≡ c.index-step.result.now =
    last_is c.args.search.now.pending.items c.close_from.new.search.pending.items c.len.result c.index-step.result.now c.index-step.ensures (c.len.ensures
    ∙ n) c.close_from.ensures.pending in
    let some : 0 < length c.close_from.new.search.pending.items = rw c.close_from.ensures.pending c.requires.some in
    let k : vec_len c.close_from.new.search.pending ≡ length c.close_from.new.search.pending.items = search rules in
    let rest : c.pop.new.self.items ≡ take (length c.close_from.new.search.pending.items - 1) c.close_from.new.search.pending.items =
    subst (λ m. c.pop.new.self.items ≡ take (m - 1) c.close_from.new.search.pending.items) k c.pop.ensures.rest in
    let to_in : c.index-step.result.now.to < length c.close_from.new.search.marks.items =
    to_in (lists_of c.args.needs.now) c.close_from.new.search.path.items c.close_from.new.search.heads.items c.close_from.new.search.pending.items
    c.close_from.new.search.marks.items c.close_from.new.search.labels.items c.close_from.new.search.count c.close_from.ensures.holds.path
    c.close_from.ensures.holds.followed some c.index-step.result.now is c.close_from.ensures.below c.requires.declared in
    record {
      path = rw rest (unseen_path (lists_of c.args.needs.now) c.close_from.new.search.path.items c.close_from.new.search.heads.items
          c.close_from.new.search.pending.items c.close_from.new.search.marks.items c.close_from.new.search.labels.items c.close_from.new.search.count
          c.close_from.ensures.holds.path c.close_from.ensures.holds.followed some c.index-step.result.now is c.close_from.ensures.below);
      followed = rw rest (unseen_followed (lists_of c.args.needs.now) c.close_from.new.search.path.items c.close_from.new.search.heads.items
          c.close_from.new.search.pending.items c.close_from.new.search.marks.items c.close_from.new.search.labels.items c.close_from.new.search.count
          c.close_from.ensures.holds.path c.close_from.ensures.holds.followed some c.index-step.result.now is c.close_from.ensures.below);
      new = mark_is c.close_from.new.search.marks.items c.index-step.result.now.to c.index.result.now Unseen to_in c.index.ensures c.in-Unseen.is;
      declared = to_declared (lists_of c.args.needs.now) c.close_from.new.search.path.items c.close_from.new.search.heads.items
          c.close_from.new.search.pending.items c.close_from.new.search.marks.items c.close_from.new.search.labels.items c.close_from.new.search.count
          c.close_from.ensures.holds.path c.close_from.ensures.holds.followed some c.index-step.result.now is c.close_from.ensures.below c.requires.declared;
      reached = reaches_it (lists_of c.args.needs.now) c.close_from.new.search.path.items c.close_from.new.search.heads.items
          c.close_from.new.search.pending.items c.close_from.new.search.marks.items c.close_from.new.search.labels.items c.close_from.new.search.count
          c.close_from.ensures.holds.path c.close_from.ensures.holds.followed some c.index-step.result.now is c.close_from.ensures.below;
    }

pub returns-in-Open-clause-step : goal.returns-in-Open-clause-step
returns-in-Open-clause-step c =
    let n : vec_len c.args.search.now.pending ≡ length c.args.search.now.pending.items = search rules in
    let is : get_or c.close_from.new.search.pending.items (length c.close_from.new.search.pending.items - 1) c.index-step.result.now ≡ c.index-step.result.now =
    last_is c.args.search.now.pending.items c.close_from.new.search.pending.items c.len.result c.index-step.result.now c.index-step.ensures (c.len.ensures
    ∙ n) c.close_from.ensures.pending in
    let some : 0 < length c.close_from.new.search.pending.items = rw c.close_from.ensures.pending c.requires.some in
    let k : vec_len c.close_from.new.search.pending ≡ length c.close_from.new.search.pending.items = search rules in
    let rest : c.pop.new.self.items ≡ take (length c.close_from.new.search.pending.items - 1) c.close_from.new.search.pending.items =
    subst (λ m. c.pop.new.self.items ≡ take (m - 1) c.close_from.new.search.pending.items) k c.pop.ensures.rest in
    let to_in : c.index-step.result.now.to < length c.close_from.new.search.marks.items =
    to_in (lists_of c.args.needs.now) c.close_from.new.search.path.items c.close_from.new.search.heads.items c.close_from.new.search.pending.items
    c.close_from.new.search.marks.items c.close_from.new.search.labels.items c.close_from.new.search.count c.close_from.ensures.holds.path
    c.close_from.ensures.holds.followed some c.index-step.result.now is c.close_from.ensures.below c.requires.declared in
    let at : mark_at c.close_from.new.search.marks.items c.index-step.result.now.to ≡ Open c.in-Open.place =
    mark_is c.close_from.new.search.marks.items c.index-step.result.now.to c.index.result.now (Open c.in-Open.place) to_in c.index.ensures c.in-Open.is in
    record {
      path = rw rest (joined_path (lists_of c.args.needs.now) c.close_from.new.search.path.items c.close_from.new.search.heads.items
          c.close_from.new.search.pending.items c.close_from.new.search.marks.items c.close_from.new.search.labels.items c.close_from.new.search.count
          c.close_from.ensures.holds.path c.close_from.ensures.holds.followed some c.index-step.result.now is c.close_from.ensures.below
          c.in-Open.place at c.join.new.heads.items c.join.ensures.sub c.join.ensures.kept c.join.ensures.rising c.join.ensures.fewer);
      followed = rw rest (joined_followed (lists_of c.args.needs.now) c.close_from.new.search.path.items c.close_from.new.search.heads.items
          c.close_from.new.search.pending.items c.close_from.new.search.marks.items c.close_from.new.search.labels.items c.close_from.new.search.count
          c.close_from.ensures.holds.path c.close_from.ensures.holds.followed some c.index-step.result.now is c.close_from.ensures.below
          c.in-Open.place at c.join.new.heads.items c.join.ensures.sub c.join.ensures.kept c.join.ensures.rising c.join.ensures.fewer);
    }

pub returns-in-Closed-clause-step : goal.returns-in-Closed-clause-step
returns-in-Closed-clause-step c =
    let n : vec_len c.args.search.now.pending ≡ length c.args.search.now.pending.items = search rules in
    let is : get_or c.close_from.new.search.pending.items (length c.close_from.new.search.pending.items - 1) c.index-step.result.now ≡ c.index-step.result.now =
    last_is c.args.search.now.pending.items c.close_from.new.search.pending.items c.len.result c.index-step.result.now c.index-step.ensures (c.len.ensures
    ∙ n) c.close_from.ensures.pending in
    let some : 0 < length c.close_from.new.search.pending.items = rw c.close_from.ensures.pending c.requires.some in
    let k : vec_len c.close_from.new.search.pending ≡ length c.close_from.new.search.pending.items = search rules in
    let rest : c.pop.new.self.items ≡ take (length c.close_from.new.search.pending.items - 1) c.close_from.new.search.pending.items =
    subst (λ m. c.pop.new.self.items ≡ take (m - 1) c.close_from.new.search.pending.items) k c.pop.ensures.rest in
    let to_in : c.index-step.result.now.to < length c.close_from.new.search.marks.items =
    to_in (lists_of c.args.needs.now) c.close_from.new.search.path.items c.close_from.new.search.heads.items c.close_from.new.search.pending.items
    c.close_from.new.search.marks.items c.close_from.new.search.labels.items c.close_from.new.search.count c.close_from.ensures.holds.path
    c.close_from.ensures.holds.followed some c.index-step.result.now is c.close_from.ensures.below c.requires.declared in
    record {
      path = rw rest (unseen_path (lists_of c.args.needs.now) c.close_from.new.search.path.items c.close_from.new.search.heads.items
          c.close_from.new.search.pending.items c.close_from.new.search.marks.items c.close_from.new.search.labels.items c.close_from.new.search.count
          c.close_from.ensures.holds.path c.close_from.ensures.holds.followed some c.index-step.result.now is c.close_from.ensures.below);
      followed = rw rest (seen_followed (lists_of c.args.needs.now) c.close_from.new.search.path.items c.close_from.new.search.heads.items
          c.close_from.new.search.pending.items c.close_from.new.search.marks.items c.close_from.new.search.labels.items c.close_from.new.search.count
          c.close_from.ensures.holds.path c.close_from.ensures.holds.followed some c.index-step.result.now is c.close_from.ensures.below
          (mark_is c.close_from.new.search.marks.items c.index-step.result.now.to c.index.result.now Closed to_in c.index.ensures c.in-Closed.is));
    }
