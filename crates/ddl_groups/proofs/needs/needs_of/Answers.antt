use Rattle.std.proofs.Common.{◌≡◌, ◌++◌, ◌∷◌, [], length, get_or}
use Rattle.ddl_names.specs.Cutting.{cut_at}
use Rattle.ddl_names.specs.Resolves.{firsts_of}
use Rattle.ddl_groups.specs.Needs.{needs_in}
use Rattle.ddl_groups.proofs.Needing.{needs_all, needs_push}
use Rattle.ddl_groups.proofs.needs.needs_of.Goals as goal

pub loop-place-preserved : goal.loop-place-preserved
loop-place-preserved c =
    let e : c.push.new.self.items ≡ c.loop-place.needs.items ++ c.in_ok-needs_in.field-0 ∷ [] = c.in_ok-push.ensures.items in
    let v : c.in_ok-needs_in.field-0.items ≡ needs_in (length c.args.decls.now)
    (get_or (cut_at c.args.uses.now (firsts_of c.args.decls.now)) c.loop-place.place []) =
    rw (← c.uses_at-own.ensures) c.in_ok-needs_in.ensures in
    rw e (needs_push c.args.decls.now c.args.uses.now c.loop-place.needs.items c.loop-place.place c.in_ok-needs_in.field-0 c.loop-place-test.true
    c.loop-place.invariant v)

pub returns : goal.returns
returns c = needs_all c.args.decls.now c.args.uses.now c.loop-place.needs.items c.loop-place.place c.loop-place-test.false c.loop-place.invariant
