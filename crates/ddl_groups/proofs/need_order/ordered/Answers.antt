use Rattle.std.proofs.Common.{◌≡◌, ℕ, ◌<◌, List, length, slice_index, get_or, subst, sym, ◌∙◌}
use Rattle.std.proofs.lemmas.List.{get_or_default}
use Rattle.ddl_groups.specs.Groups.{first_member, group_at}
use Rattle.ddl_groups.specs.Numbered.{AreGroupNeeds, AreMembers}
use Rattle.ddl_groups.specs.Placing.{IsOrder, lists_of}
use Rattle.ddl_groups.proofs.Grouping.{grouped, has_member, numbered}
use Rattle.ddl_groups.proofs.Settled.{lists_long, member_at}
use Rattle.ddl_groups.proofs.need_order.ordered.Goals as goal

pub firsts-requires : goal.firsts-requires
firsts-requires c l l_in =
    let M : AreMembers c.in_ok-found.found.of.items (length c.in_ok-found.found.of.items) (lists_of c.in_ok-by_label.by_label.items) =
    subst (λ xs. AreMembers xs (length xs) (lists_of c.in_ok-by_label.by_label.items)) c.deref.ensures.value c.in_ok-by_label.ensures.1 in
    let in_count : l < c.in_ok-found.found.count = subst (λ n. l < n) c.in_ok-by_label.ensures.0 (subst (λ xs. l < length xs) c.deref-2.ensures.value l_in) in
    rw c.deref-2.ensures.value (has_member (lists_of c.args.needs.now) c.in_ok-found.found.of.items (lists_of c.in_ok-by_label.by_label.items)
    c.in_ok-found.found.count M c.in_ok-found.ensures.some l in_count)

pub group_uses-requires-clause-known : goal.group_uses-requires-clause-known
group_uses-requires-clause-known c a k d l =
    let h : get_or (group_at (lists_of c.args.needs.now) a) k d < length (lists_of c.args.needs.now) =
    c.requires.known a (get_or (group_at (lists_of c.args.needs.now) a) k d) (member_at (group_at (lists_of c.args.needs.now) a) k d l) in
    subst (λ n. get_or (group_at (lists_of c.args.needs.now) a) k d < n) (lists_long c.args.needs.now) h

pub group_order-requires-clause-numbered : goal.group_order-requires-clause-numbered
group_order-requires-clause-numbered c =
    let needs : List (List ℕ) = lists_of c.args.needs.now in
    let labels : List ℕ = c.in_ok-found.found.of.items in
    let M : AreMembers labels (length labels) (lists_of c.in_ok-by_label.by_label.items) =
    subst (λ xs. AreMembers xs (length xs) (lists_of c.in_ok-by_label.by_label.items)) c.deref.ensures.value c.in_ok-by_label.ensures.1 in
    let G : AreGroupNeeds needs labels (length needs) (lists_of c.in_ok-uses.uses.needs.items) =
    subst (λ xs. AreGroupNeeds needs xs (length needs) (lists_of c.in_ok-uses.uses.needs.items)) c.deref-3.ensures.value
    (subst (λ n. AreGroupNeeds needs c.deref-3.result.now n (lists_of c.in_ok-uses.uses.needs.items)) (sym (lists_long c.args.needs.now))
    c.in_ok-uses.ensures.needs) in
    let firsts_long : length c.in_ok-first.first.items ≡ c.in_ok-found.found.count =
    subst (λ xs. length c.in_ok-first.first.items ≡ length xs) c.deref-2.ensures.value c.in_ok-first.ensures.0 ∙ c.in_ok-by_label.ensures.0 in
    let first : (l : ℕ) → l < c.in_ok-found.found.count → slice_index c.in_ok-first.first.items l ≡ first_member (lists_of c.in_ok-by_label.by_label.items) l =
    subst (λ n. (l : ℕ) → l < n → slice_index c.in_ok-first.first.items l ≡ first_member (lists_of c.in_ok-by_label.by_label.items) l)
    c.in_ok-by_label.ensures.0
    (subst (λ xs. (l : ℕ) → l < length xs → slice_index c.in_ok-first.first.items l ≡ first_member (lists_of xs) l) c.deref-2.ensures.value
    c.in_ok-first.ensures.1) in
    rw (c.deref-4.ensures.value, c.deref-6.ensures.value, c.deref-7.ensures.value)
    (numbered needs labels (lists_of c.in_ok-by_label.by_label.items) c.in_ok-found.found.count M c.in_ok-found.ensures.some
    (lists_of c.in_ok-uses.uses.needs.items) c.in_ok-first.first.items
    c.in_ok-found.ensures.are G (lists_long c.in_ok-uses.uses.needs.items ∙ c.in_ok-uses.ensures.long) firsts_long first)

pub in_order-requires : goal.in_order-requires
in_order-requires c k d l =
    let O : IsOrder (lists_of c.in_ok-uses.uses.needs.items) c.deref-6.result.now c.in_ok-order.order.items =
    subst (λ xs. IsOrder (lists_of xs) c.deref-6.result.now c.in_ok-order.order.items) c.deref-4.ensures.value c.in_ok-order.ensures in
    let k_in : k < length c.in_ok-order.order.items = subst (λ xs. k < length xs) c.deref-9.ensures.value l in
    let m : slice_index c.in_ok-order.order.items k < length (lists_of c.in_ok-uses.uses.needs.items) = O.known k k_in in
    let n : slice_index c.in_ok-order.order.items k < length c.in_ok-by_label.by_label.items =
    subst (λ n. slice_index c.in_ok-order.order.items k < n) (lists_long c.in_ok-uses.uses.needs.items ∙ c.in_ok-uses.ensures.long
    ∙ sym c.in_ok-by_label.ensures.0) m in
    rw (c.deref-8.ensures.value, c.deref-9.ensures.value, get_or_default c.in_ok-order.order.items k d 0 k_in) n

pub returns : goal.returns
returns c =
    let needs : List (List ℕ) = lists_of c.args.needs.now in
    let labels : List ℕ = c.in_ok-found.found.of.items in
    let members : List (List ℕ) = lists_of c.in_ok-by_label.by_label.items in
    let lists : List (List ℕ) = lists_of c.in_ok-uses.uses.needs.items in
    let M : AreMembers labels (length labels) members = subst (λ xs. AreMembers xs (length xs) members) c.deref.ensures.value c.in_ok-by_label.ensures.1 in
    let G : AreGroupNeeds needs labels (length needs) lists =
    subst (λ xs. AreGroupNeeds needs xs (length needs) lists) c.deref-3.ensures.value
    (subst (λ n. AreGroupNeeds needs c.deref-3.result.now n lists) (sym (lists_long c.args.needs.now)) c.in_ok-uses.ensures.needs) in
    let firsts_long : length c.in_ok-first.first.items ≡ c.in_ok-found.found.count =
    subst (λ xs. length c.in_ok-first.first.items ≡ length xs) c.deref-2.ensures.value c.in_ok-first.ensures.0 ∙ c.in_ok-by_label.ensures.0 in
    let first : (l : ℕ) → l < c.in_ok-found.found.count → slice_index c.in_ok-first.first.items l ≡ first_member members l =
    subst (λ n. (l : ℕ) → l < n → slice_index c.in_ok-first.first.items l ≡ first_member members l) c.in_ok-by_label.ensures.0
    (subst (λ xs. (l : ℕ) → l < length xs → slice_index c.in_ok-first.first.items l ≡ first_member (lists_of xs) l) c.deref-2.ensures.value
    c.in_ok-first.ensures.1) in
    let O : IsOrder lists c.in_ok-first.first.items c.in_ok-order.order.items =
    subst (λ xs. IsOrder lists xs c.in_ok-order.order.items) c.deref-6.ensures.value
    (subst (λ xs. IsOrder (lists_of xs) c.deref-6.result.now c.in_ok-order.order.items) c.deref-4.ensures.value c.in_ok-order.ensures) in
    let groups_long : length (lists_of c.in_ok-groups.groups.items) ≡ length c.in_ok-order.order.items =
    lists_long c.in_ok-groups.groups.items ∙ subst (λ xs. length c.in_ok-groups.groups.items ≡ length xs) c.deref-9.ensures.value c.in_ok-groups.ensures.0 in
    let same : (k : ℕ) → k < length c.in_ok-order.order.items
    → group_at (lists_of c.in_ok-groups.groups.items) k ≡ group_at members (slice_index c.in_ok-order.order.items k) =
    subst (λ xs. (k : ℕ) → k < length xs → group_at (lists_of c.in_ok-groups.groups.items) k ≡ group_at members (slice_index xs k)) c.deref-9.ensures.value
    (subst (λ ys. (k : ℕ) → k < length c.deref-9.result.now
    → group_at (lists_of c.in_ok-groups.groups.items) k ≡ group_at (lists_of ys) (slice_index c.deref-9.result.now k))
    c.deref-8.ensures.value c.in_ok-groups.ensures.1) in
    grouped needs labels members c.in_ok-found.found.count M c.in_ok-found.ensures.some lists c.in_ok-first.first.items c.in_ok-found.ensures.are G
    (lists_long c.in_ok-uses.uses.needs.items ∙ c.in_ok-uses.ensures.long) firsts_long first c.in_ok-order.order.items O (lists_of c.in_ok-groups.groups.items)
    groups_long
    c.in_ok-found.ensures.below same c.requires.known
