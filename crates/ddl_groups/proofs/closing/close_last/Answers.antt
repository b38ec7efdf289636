use Rattle.std.proofs.Common.{◌≡◌, ℕ, ◌<◌, ◌≤◌, ◌-◌, ◌≢◌, List, length, slice_index, take, vec_len, subst, arith, rules}
use Rattle.ddl_groups.specs.declared.marks.Mark.TheVariants.{Closed}
use Rattle.ddl_groups.specs.Placing.{lists_of}
use Rattle.ddl_groups.specs.Searching.{mark_at}
use Rattle.ddl_groups.proofs.Closed.{closed_followed, closed_path, closed_seen, head_in, path_declared}
use Rattle.ddl_groups.proofs.Fronts.{front_long}
use Rattle.ddl_groups.proofs.closing.close_last.Goals as goal

pub close_all-requires-clause-within : goal.close_all-requires-clause-within
close_all-requires-clause-within c = rw c.deref.ensures.value (omega (
  arith,
  head_in (lists_of c.args._needs.now) c.args.search.now.path.items c.args.search.now.heads.items
      c.args.search.now.pending.items c.args.search.now.marks.items c.args.search.now.labels.items c.args.search.now.count c.requires.holds.path
      c.requires.last.0 c.args.head c.requires.last.1,
))

pub close_all-requires-clause-known : goal.close_all-requires-clause-known
close_all-requires-clause-known c = rw c.deref.ensures.value
    (path_declared (lists_of c.args._needs.now) c.args.search.now.path.items c.args.search.now.heads.items
    c.args.search.now.pending.items c.args.search.now.marks.items c.args.search.now.labels.items c.args.search.now.count c.requires.holds.path)

pub returns : goal.returns
returns c =
    let heads : List ℕ = c.args.search.now.heads.items in
    let n : vec_len c.args.search.now.heads ≡ length c.args.search.now.heads.items = search rules in
    let rest : c.pop.new.self.items ≡ take (length c.args.search.now.heads.items - 1) c.args.search.now.heads.items =
    subst (λ m. c.pop.new.self.items ≡ take (m - 1) c.args.search.now.heads.items) n c.pop.ensures.rest in
    let path : c.deref.result.now ≡ c.args.search.now.path.items = c.deref.ensures.value in
    let closed : (p : ℕ) → c.args.head ≤ p → p < length c.args.search.now.path.items
    → (mark_at c.close_all.new.marks.items (slice_index c.args.search.now.path.items p) ≡ Closed)
    × (slice_index c.close_all.new.labels.items (slice_index c.args.search.now.path.items p) ≡ c.args.search.now.count) =
    subst (λ xs. (p : ℕ) → c.args.head ≤ p → p < length xs → (mark_at c.close_all.new.marks.items (slice_index xs p) ≡ Closed)
    × (slice_index c.close_all.new.labels.items (slice_index xs p) ≡ c.args.search.now.count))
    path c.close_all.ensures.closed in
    let others : (v : ℕ) → ((p : ℕ) → c.args.head ≤ p → p < length c.args.search.now.path.items → slice_index c.args.search.now.path.items p ≢ v)
    → (mark_at c.close_all.new.marks.items v ≡ mark_at c.args.search.now.marks.items v)
    × (slice_index c.close_all.new.labels.items v ≡ slice_index c.args.search.now.labels.items v) =
    subst (λ xs. (v : ℕ) → ((p : ℕ) → c.args.head ≤ p → p < length xs → slice_index xs p ≢ v)
    → (mark_at c.close_all.new.marks.items v ≡ mark_at c.args.search.now.marks.items v)
    × (slice_index c.close_all.new.labels.items v ≡ slice_index c.args.search.now.labels.items v))
    path c.close_all.ensures.others in
    record {
      holds = record {
        path = rw (rest, c.truncate.ensures.items) (closed_path (lists_of c.args._needs.now) c.args.search.now.path.items c.args.search.now.heads.items
            c.args.search.now.pending.items c.args.search.now.marks.items
            c.args.search.now.labels.items c.args.search.now.count c.requires.holds.path c.requires.last.0 c.args.head c.requires.last.1
            c.requires.holds.followed c.requires.before
            c.close_all.new.marks.items c.close_all.new.labels.items c.close_all.ensures.long closed others c.close_all.ensures.fewer);
        followed = rw (rest, c.truncate.ensures.items) (closed_followed (lists_of c.args._needs.now) c.args.search.now.path.items c.args.search.now.heads.items
            c.args.search.now.pending.items c.args.search.now.marks.items
            c.args.search.now.labels.items c.args.search.now.count c.requires.holds.path c.requires.last.0 c.args.head c.requires.last.1
            c.requires.holds.followed c.requires.before
            c.close_all.new.marks.items c.close_all.new.labels.items c.close_all.ensures.long closed others c.close_all.ensures.fewer);
      };
      pending = λ i. c.args.search.now.pending.items;
      seen = (
        c.close_all.ensures.fewer,
        closed_seen (lists_of c.args._needs.now) c.args.search.now.path.items c.args.search.now.heads.items c.args.search.now.pending.items
            c.args.search.now.marks.items
            c.args.search.now.labels.items c.args.search.now.count c.requires.holds.path c.requires.last.0 c.args.head c.requires.last.1
            c.requires.holds.followed c.requires.before
            c.close_all.new.marks.items c.close_all.new.labels.items c.close_all.ensures.long closed others c.close_all.ensures.fewer,
      );
      shorter = rw rest (omega (arith, front_long c.args.search.now.heads.items, c.requires.last.0));
    }
