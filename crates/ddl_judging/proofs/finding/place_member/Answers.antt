use Rattle.std.proofs.Common.{◌≡◌, ◌<◌, ◌≤◌, ◌∙◌, length, get_or, ap, sym, rules}
use Rattle.ddl_judging.specs.Shapes.{Shape}
use Rattle.ddl_judging.proofs.Found.{tags_agree, tags_differ, place_at_is, place_beyond, place_other, place_found}
use Rattle.ddl_judging.proofs.finding.place_member.Goals as goal

pub returns-then-number-len : goal.returns-then-number-len
returns-then-number-len c =
    let h : length c.args.shapes.now.places.items ≤ c.args.number = search rules in
    place_beyond c.args.tagged c.args.name.now c.args.shapes.now.places.items c.args.number h

pub returns-then-place-tagged : goal.returns-then-place-tagged
returns-then-place-tagged c =
    let h : c.args.number < length c.args.shapes.now.places.items = search rules in
    let e : c.index-place.result.now ≡ get_or c.args.shapes.now.places.items c.args.number c.index-place.result.now = search rules in
    place_other c.args.tagged c.args.name.now c.args.shapes.now.places.items c.args.number c.index-place.result.now h e
    (tags_differ c.index-place.result.now.tagged c.args.tagged c.if-place-tagged.true)

pub returns-in-None : goal.returns-in-None
returns-in-None c =
    let h : c.args.number < length c.args.shapes.now.places.items = search rules in
    let e : c.index-place.result.now ≡ get_or c.args.shapes.now.places.items c.args.number c.index-place.result.now = search rules in
    (place_found c.args.tagged c.args.name.now c.args.shapes.now.places.items c.args.number c.index-place.result.now c.deref.result.now c.deref-2.result.now h e
    (tags_agree c.index-place.result.now.tagged c.args.tagged c.if-place-tagged.false) c.deref.ensures.value c.deref-2.ensures.value) ∙ c.in-None.ensures

pub returns-in-Some : goal.returns-in-Some
returns-in-Some c =
    let h : c.args.number < length c.args.shapes.now.places.items = search rules in
    let e : c.index-place.result.now ≡ get_or c.args.shapes.now.places.items c.args.number c.index-place.result.now = search rules in (
      (place_found c.args.tagged c.args.name.now c.args.shapes.now.places.items c.args.number c.index-place.result.now c.deref.result.now c.deref-2.result.now h
          e (tags_agree c.index-place.result.now.tagged c.args.tagged c.if-place-tagged.false) c.deref.ensures.value c.deref-2.ensures.value)
          ∙ c.in-Some.ensures,
      ap (λ (s : Shape). s.vars) (sym (place_at_is c.args.shapes.now.places.items c.args.number c.index-place.result.now h e)),
    )
