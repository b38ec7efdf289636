use Rattle.std.proofs.Common.{◌≡◌, ◌∙◌, ◌<◌, ◌≤◌, ap, sym, length, get_or, rules, arith}
use Rattle.ddl_judging.specs.Shapes.{Shape}
use Rattle.ddl_conditions.specs.Seen.{open_types}
use Rattle.ddl_conditions.proofs.FirstFound.{place_found, place_beyond}
use Rattle.ddl_conditions.proofs.standing.members_of.Goals as goal

pub returns-in-Some : goal.returns-in-Some
returns-in-Some c =
    let h : c.args.place < length c.args.shapes.now.places.items = grind (arith, rules) in
    let e : c.in-Some.shape.now ≡ get_or c.args.shapes.now.places.items c.args.place c.in-Some.shape.now = search rules in
    c.open_types_of.ensures ∙ ap (λ (s : Shape). open_types s) (sym (place_found c.args.shapes.now.places.items c.args.place c.in-Some.shape.now h e))

pub returns-in-None : goal.returns-in-None
returns-in-None c =
    let h : length c.args.shapes.now.places.items ≤ c.args.place = grind (arith, rules) in
    ap (λ (s : Shape). open_types s) (sym (place_beyond c.args.shapes.now.places.items c.args.place h))
