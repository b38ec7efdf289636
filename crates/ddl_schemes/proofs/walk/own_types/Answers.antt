use Rattle.std.proofs.Common.{◌≡◌, ◌∙◌, ◌<◌, ◌≤◌, ap, sym, length, get_or, map, List, rules, arith}
use Rattle.ddl_types.specs.declared.ty.Ty as program
use Rattle.ddl_types.specs.TyView.{ty_view}
use Rattle.ddl_judging.specs.Shapes.{Shape}
use Rattle.ddl_schemes.proofs.PlaceShapes.{place_found, place_beyond}
use Rattle.ddl_schemes.proofs.walk.own_types.Goals as goal

pub returns-in-None : goal.returns-in-None
returns-in-None c =
    let h : length c.args.shapes.now.places.items ≤ c.args.number = grind (arith, rules) in
    let e = place_beyond c.args.shapes.now.places.items c.args.number h in
    (ap (λ (s : Shape). s.vars) e, sym (ap (λ (s : Shape). s.types) e))

pub returns-then-shape-eq0 : goal.returns-then-shape-eq0
returns-then-shape-eq0 c =
    let h : c.args.number < length c.args.shapes.now.places.items = grind (arith, rules) in
    let i : c.in-Some.shape.now ≡ get_or c.args.shapes.now.places.items c.args.number c.in-Some.shape.now = search rules in
    let e = place_found c.args.shapes.now.places.items c.args.number c.in-Some.shape.now h i in (
      ap (λ (s : Shape). s.vars) e ∙ c.if-shape-eq0.true,
      ap (λ (ts : List program.Ty). map ty_view ts) c.deref-then-shape-eq0.ensures.value
          ∙ sym (ap (λ (s : Shape). s.types) e),
    )

pub returns-else-shape-eq0 : goal.returns-else-shape-eq0
returns-else-shape-eq0 c =
    let h : c.args.number < length c.args.shapes.now.places.items = grind (arith, rules) in
    let i : c.in-Some.shape.now ≡ get_or c.args.shapes.now.places.items c.args.number c.in-Some.shape.now = search rules in
    let e = place_found c.args.shapes.now.places.items c.args.number c.in-Some.shape.now h i in
    λ q. c.if-shape-eq0.false (sym (ap (λ (s : Shape). s.vars) e) ∙ q)
