use Rattle.std.proofs.Common.{refl}
use Rattle.ddl_types.specs.Types.{on, Head.bits, Head.place}
use Rattle.ddl_types.specs.TyView.{ty_view}
use Rattle.ddl_unify.specs.State.{solution, variables}
use Rattle.ddl_growing.specs.Carrying.{asking, for_member}
use Rattle.ddl_growing.specs.Giving.{gives, of_bits, of_place}
use Rattle.ddl_growing.specs.Heads.{head}
use Rattle.ddl_judging.specs.Shapes.{bits_at, found, place_at}
use Rattle.ddl_growing.specs.SolverView.{solved}
use Rattle.ddl_judging.specs.Views.{shapes_view}
use Rattle.ddl_growing.proofs.Places.{carried_as, gives_bits, gives_place, member_subject}
use Rattle.ddl_growing.proofs.Quiet.{quiet_member}
use Rattle.ddl_growing.proofs.Taken.{silent_one, taken_one, waits_one}
use Rattle.ddl_growing.proofs.members.take_member.Goals as goal

pub returns-in-Unknown-clause-taken : goal.returns-in-Unknown-clause-taken
returns-in-Unknown-clause-taken c =
    let ss = shapes_view c.args.shapes.now in
    let t = ty_view c.args.sought.of.now in let x = c.args.sought.name.now in let r = ty_view c.args.sought.result.now in
    waits_one ss (asking (for_member c.args.tagged t x r) c.args.span) t (solved c.args.solver.now) (member_subject c.args.tagged t x r)
    c.in-Unknown.ensures.head

pub returns-in-Place-clause-taken : goal.returns-in-Place-clause-taken
returns-in-Place-clause-taken c =
    let ss = shapes_view c.args.shapes.now in
    let t = ty_view c.args.sought.of.now in let x = c.args.sought.name.now in let r = ty_view c.args.sought.result.now in
    let n = variables c.args.solver.now in
    taken_one ss (asking (for_member c.args.tagged t x r) c.args.span) t (place c.in-Place.number) (solved c.args.solver.now)
    (solved c.add_place_member.new.solver) c.add_place_member.result (member_subject c.args.tagged t x r) c.in-Place.ensures.head
    (carried_as _ (of_place (place_at ss.places c.in-Place.number) c.args.tagged c.in-Place.number t x r n) c.args.span (solved c.args.solver.now)
    (solved c.add_place_member.new.solver) c.add_place_member.result (gives_place ss c.args.tagged t x r c.in-Place.number n)
    c.add_place_member.ensures.added)

pub returns-in-Bits-clause-taken : goal.returns-in-Bits-clause-taken
returns-in-Bits-clause-taken c =
    let ss = shapes_view c.args.shapes.now in
    let t = ty_view c.args.sought.of.now in let x = c.args.sought.name.now in let r = ty_view c.args.sought.result.now in
    let n = variables c.args.solver.now in
    taken_one ss (asking (for_member c.args.tagged t x r) c.args.span) t (bits c.in-Bits.number) (solved c.args.solver.now)
    (solved c.add_bits_member.new.solver) c.add_bits_member.result (member_subject c.args.tagged t x r) c.in-Bits.ensures.head
    (carried_as _ (of_bits (found c.args.tagged x (bits_at ss.bitdata c.in-Bits.number).shape) r) c.args.span (solved c.args.solver.now)
    (solved c.add_bits_member.new.solver) c.add_bits_member.result (gives_bits ss c.args.tagged t x r c.in-Bits.number n) c.add_bits_member.ensures.added)

pub returns-in_default-clause-taken : goal.returns-in_default-clause-taken
returns-in_default-clause-taken c =
    let ss = shapes_view c.args.shapes.now in
    let t = ty_view c.args.sought.of.now in let x = c.args.sought.name.now in let r = ty_view c.args.sought.result.now in
    silent_one ss (asking (for_member c.args.tagged t x r) c.args.span) t (solved c.args.solver.now) (member_subject c.args.tagged t x r)
    (quiet_member ss c.args.tagged t x r (variables c.args.solver.now) c.known_head.result (head (on t (solution c.args.solver.now))) c.known_head.ensures.head
    c.in_default.not-Unknown c.in_default.not-Bits c.in_default.not-Place)
