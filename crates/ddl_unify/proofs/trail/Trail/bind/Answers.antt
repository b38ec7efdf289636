use Rattle.std.proofs.Common.{◌≡◌, length, rules, subst, set}
use Rattle.ddl_types.specs.TyView.{ty_view}
use Rattle.ddl_unify.specs.declared.store.Bound.{Bound}
use Rattle.ddl_unify.specs.declared.trail.Trail.{Trail}
use Rattle.ddl_unify.specs.Trails.{Pushed}
use Rattle.ddl_unify.proofs.Equating.{below_more}
use Rattle.ddl_unify.proofs.Keeping.{fits_in, kept_more, pushed_is}
use Rattle.ddl_unify.proofs.Naming.{named_more}
use Rattle.ddl_unify.proofs.trail.Trail.bind.Goals as goal

pub mark_in-requires : goal.mark_in-requires
mark_in-requires c =
    below_more (ty_view c.args.t) (length c.self.inside.place.items) (length c.self.inside.named.items) c.self.invariant.1.long
    (fits_in c.self.inside.place.items c.self.inside.bindings.items c.args.self.now c.args.v c.args.t c.self.view_is c.self.invariant.0 c.requires).below

pub invariant_of-self-2 : goal.invariant_of-self-2
invariant_of-self-2 c =
    let x : Bound = record { from = c.args.v; to = c.args.t } in
    let fits = fits_in c.self.inside.place.items c.self.inside.bindings.items c.args.self.now c.args.v c.args.t c.self.view_is c.self.invariant.0 c.requires in
    let n : c.len-2.result ≡ length c.push.new.self.items = search rules in (
      kept_more c.self.inside.place.items c.self.inside.bindings.items c.push.new.self.items x c.len-2.result c.in_ok-push.ensures.items n fits,
      named_more c.self.inside.named.items c.mark_in.new.named.items c.self.inside.place.items c.self.inside.bindings.items c.push.new.self.items x
          c.len-2.result c.in_ok-push.ensures.items c.self.invariant.1 c.mark_in.ensures,
    )

pub returns-clause-bound : goal.returns-clause-bound
returns-clause-bound c =
    let x : Bound = record { from = c.args.v; to = c.args.t } in
    let fits = fits_in c.self.inside.place.items c.self.inside.bindings.items c.args.self.now c.args.v c.args.t c.self.view_is c.self.invariant.0 c.requires in
    let P : Trail → Type 0 = λ z. Pushed z c.args.v c.args.t (c.push.new.self.items, length (set c.self.inside.place.items c.args.v c.len-2.result)) in
    subst P c.self.view_is (pushed_is c.self.inside.place.items c.self.inside.bindings.items c.push.new.self.items x c.len-2.result c.in_ok-push.ensures.items
    fits)
