use Rattle.std.proofs.Common.{◌≡◌, ℕ, ◌-◌, ◌<◌, List, length, slice_index, get_or, take, vec_len, subst, ◌∙◌, arith, rules}
use Rattle.std.proofs.lemmas.List.{get_or_default}
use Rattle.ddl_groups.proofs.Fronts.{front_increases, front_keeps, front_long, front_sub}
use Rattle.ddl_groups.proofs.joining.join.Goals as goal

pub loop-heads-preserved : goal.loop-heads-preserved
loop-heads-preserved c =
    let xs : List ℕ = c.loop-heads.heads.items in
    let n : vec_len c.loop-heads.heads ≡ length c.loop-heads.heads.items = search rules in
    let some : 0 < length c.loop-heads.heads.items = search rules in
    let rest : c.pop.new.self.items ≡ take (length c.loop-heads.heads.items - 1) c.loop-heads.heads.items =
    subst (λ m. c.pop.new.self.items ≡ take (m - 1) c.loop-heads.heads.items) n c.pop.ensures.rest in
    let at : c.len.result ≡ length c.loop-heads.heads.items = c.len.ensures ∙ n in
    let last : c.index.result.now ≡ slice_index c.loop-heads.heads.items (length c.loop-heads.heads.items - 1) =
    c.index.ensures ∙ subst (λ m. get_or c.loop-heads.heads.items (c.len.result - 1) c.index.result.now ≡ slice_index c.loop-heads.heads.items (m - 1)) at
    (get_or_default c.loop-heads.heads.items (c.len.result - 1) c.index.result.now 0 (omega arith)) in
    let beyond : c.args.place < slice_index c.loop-heads.heads.items (length c.loop-heads.heads.items - 1) = rw (← last) c.if-index-place.false in
    rw rest (record {
      sub = λ h m. c.loop-heads.invariant.sub h (front_sub c.loop-heads.heads.items (length c.loop-heads.heads.items - 1) h (omega arith) m);
      kept = λ h m l. front_keeps c.loop-heads.heads.items c.args.place h beyond l (c.loop-heads.invariant.kept h m l);
      rising = front_increases c.loop-heads.heads.items c.loop-heads.invariant.rising;
      fewer = omega (arith, front_long c.loop-heads.heads.items, c.loop-heads.invariant.fewer);
    })
