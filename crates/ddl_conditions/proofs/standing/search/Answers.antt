use Rattle.std.proofs.Common.{◌≡◌, List, [], map, length, refl, sym, rules, true, false}
use Rattle.std.proofs.lemmas.List.{length-map}
use Rattle.ddl_types.specs.Types.{Ty, Sub}
use Rattle.ddl_types.specs.TyView.{ty_view}
use Rattle.ddl_unify.specs.State.{solution}
use Rattle.ddl_judging.specs.Shapes.{Shapes}
use Rattle.ddl_conditions.specs.Seen.{members}
use Rattle.ddl_judging.specs.Views.{place_shape, shapes_view}
use Rattle.ddl_conditions.proofs.FirstFound.{are_read}
use Rattle.ddl_conditions.proofs.Opening.{root_found, opening_start, opening_found, opening_step, opening_end}
use Rattle.ddl_conditions.proofs.standing.search.Goals as goal

pub returns-then-branch : goal.returns-then-branch
returns-then-branch c =
    let roots : List Ty = map ty_view c.args.roots.now in
    let f : Sub = solution c.args.solver.now in
    root_found (shapes_view c.args.shapes.now) roots f c.args.variable c.args.seen.now c.stands_in.new.seen c.new-pending.result.items
    c.stands_in.new.pending.items
    (are_read c.in_ok-stands_in.field-0 true f c.args.variable roots roots c.args.seen.now c.stands_in.new.seen c.new-pending.result.items
    c.stands_in.new.pending.items c.if-branch.true refl c.in_ok-stands_in.ensures)

pub loop-place-init : goal.loop-place-init
loop-place-init c =
    let roots : List Ty = map ty_view c.args.roots.now in
    let f : Sub = solution c.args.solver.now in
    opening_start (shapes_view c.args.shapes.now) roots f c.args.variable (length c.args.shapes.now.places.items) c.args.seen.now c.stands_in.new.seen
    c.new-pending.result.items c.stands_in.new.pending.items c.requires (sym (length-map c.args.shapes.now.places.items place_shape))
    c.new-pending.ensures.items
    (are_read c.in_ok-stands_in.field-0 false f c.args.variable roots roots c.args.seen.now c.stands_in.new.seen c.new-pending.result.items
    c.stands_in.new.pending.items c.if-branch.false refl c.in_ok-stands_in.ensures)

pub returns-then-branch-2 : goal.returns-then-branch-2
returns-then-branch-2 c =
    let ss : Shapes = shapes_view c.args.shapes.now in
    let f : Sub = solution c.args.solver.now in
    opening_found ss (map ty_view c.args.roots.now) f c.args.variable c.loop-place.seen c.stands_in-in-Some.new.seen c.loop-place.pending.items
    c.pop.new.self.items c.stands_in-in-Some.new.pending.items c.in-Some.place c.loop-place.invariant c.in-Some.ensures.items
    (are_read c.in_ok-stands_in-2.field-0 true f c.args.variable (map ty_view c.members_of-types.result.now) (members ss c.in-Some.place) c.loop-place.seen
    c.stands_in-in-Some.new.seen c.pop.new.self.items c.stands_in-in-Some.new.pending.items c.if-branch-2.true c.members_of-types.ensures
    c.in_ok-stands_in-2.ensures)

pub loop-place-preserved : goal.loop-place-preserved
loop-place-preserved c =
    let ss : Shapes = shapes_view c.args.shapes.now in
    let f : Sub = solution c.args.solver.now in
    opening_step ss (map ty_view c.args.roots.now) f c.args.variable c.loop-place.seen c.stands_in-in-Some.new.seen c.loop-place.pending.items
    c.pop.new.self.items c.stands_in-in-Some.new.pending.items c.in-Some.place c.loop-place.invariant c.in-Some.ensures.items
    (are_read c.in_ok-stands_in-2.field-0 false f c.args.variable (map ty_view c.members_of-types.result.now) (members ss c.in-Some.place) c.loop-place.seen
    c.stands_in-in-Some.new.seen c.pop.new.self.items c.stands_in-in-Some.new.pending.items c.if-branch-2.false c.members_of-types.ensures
    c.in_ok-stands_in-2.ensures)

pub returns : goal.returns
returns c =
    let e : c.loop-place.pending.items ≡ [] = search rules in
    opening_end (shapes_view c.args.shapes.now) (map ty_view c.args.roots.now) (solution c.args.solver.now) c.args.variable c.loop-place.seen
    c.loop-place.pending.items c.loop-place.invariant e
