use Rattle.std.proofs.Common.{◌≡◌, ◌<◌, ◌++◌, ◌∷◌, [], length, set, vec_len, subst, sym, ◌∙◌, arith, rules}
use Rattle.ddl_groups.specs.declared.marks.Mark.TheVariants.{Open}
use Rattle.ddl_groups.specs.Groups.{group_at}
use Rattle.ddl_groups.specs.Placing.{lists_of}
use Rattle.ddl_groups.specs.Searching.{AreFollowed, IsOpened, IsPath, StepsMore}
use Rattle.ddl_groups.proofs.Opened.{is_opened, opened_followed, opened_path}
use Rattle.ddl_groups.proofs.Settled.{list_at, lists_long}
use Rattle.ddl_groups.proofs.opening.open.Goals as goal

pub add_steps-requires-clause-later : goal.add_steps-requires-clause-later
add_steps-requires-clause-later c s m =
    let n : vec_len c.args.search.now.path ≡ length c.args.search.now.path.items = search rules in
    let e : c.len-place.result ≡ length c.args.search.now.path.items = c.len-place.ensures ∙ n in
    let l : s.from < length c.args.search.now.path.items = (c.requires.comes.path.steps_in s m).0 in
    omega arith

pub returns : goal.returns
returns c =
    let n : vec_len c.args.search.now.path ≡ length c.args.search.now.path.items = search rules in
    let e : c.len-place.result ≡ length c.args.search.now.path.items = c.len-place.ensures ∙ n in
    let w_in : c.args.declaration < length c.args.needs.now = rw (← lists_long c.args.needs.now) c.requires.comes.declared in
    let f : group_at (lists_of c.args.needs.now) c.args.declaration ≡ c.index-needs-declaration.result.items =
    list_at c.args.needs.now c.args.declaration c.index-needs-declaration.result w_in c.index-needs-declaration.is in
    let M : StepsMore c.args.search.now.pending.items (length c.args.search.now.path.items) (group_at (lists_of c.args.needs.now) c.args.declaration)
    c.add_steps.new.pending.items =
    subst (λ x. StepsMore c.args.search.now.pending.items x (group_at (lists_of c.args.needs.now) c.args.declaration) c.add_steps.new.pending.items) e
    (subst (λ xs. StepsMore c.args.search.now.pending.items c.len-place.result xs c.add_steps.new.pending.items) (c.deref.ensures.value
    ∙ sym f) c.in_ok-add_steps.ensures) in
    record {
      holds = record {
        path = rw (c.in_ok-push.ensures.items, c.in_ok-push-2.ensures.items)
            (subst (λ x. IsPath (lists_of c.args.needs.now) (c.args.search.now.path.items ++ c.args.declaration ∷ []) (c.args.search.now.heads.items ++ x ∷ [])
            c.add_steps.new.pending.items
            (set c.args.search.now.marks.items c.args.declaration (Open x)) c.args.search.now.labels.items c.args.search.now.count) (sym e)
            (opened_path (lists_of c.args.needs.now) c.args.search.now.path.items c.args.search.now.heads.items c.args.search.now.pending.items
            c.args.search.now.marks.items c.args.search.now.labels.items c.args.search.now.count c.args.declaration
            c.requires.comes.path c.requires.comes.followed c.requires.comes.new c.requires.comes.declared c.requires.comes.reached
            c.add_steps.new.pending.items M));
        followed = rw (c.in_ok-push.ensures.items, c.in_ok-push-2.ensures.items)
            (subst (λ x. AreFollowed (lists_of c.args.needs.now) (c.args.search.now.path.items ++ c.args.declaration ∷ [])
            (c.args.search.now.heads.items ++ x ∷ []) c.add_steps.new.pending.items
            (set c.args.search.now.marks.items c.args.declaration (Open x))) (sym e)
            (opened_followed (lists_of c.args.needs.now) c.args.search.now.path.items c.args.search.now.heads.items c.args.search.now.pending.items
            c.args.search.now.marks.items c.args.search.now.labels.items c.args.search.now.count c.args.declaration
            c.requires.comes.path c.requires.comes.followed c.requires.comes.new c.requires.comes.declared c.requires.comes.reached
            c.add_steps.new.pending.items M));
      };
      opened = subst (λ x. IsOpened c.args.search.now.marks.items c.args.declaration (set c.args.search.now.marks.items c.args.declaration (Open x))) (sym e)
          (is_opened (lists_of c.args.needs.now) c.args.search.now.path.items c.args.search.now.heads.items c.args.search.now.pending.items
          c.args.search.now.marks.items c.args.search.now.labels.items c.args.search.now.count c.args.declaration
          c.requires.comes.path c.requires.comes.followed c.requires.comes.new c.requires.comes.declared c.requires.comes.reached c.add_steps.new.pending.items
          M);
    }
