use Rattle.std.proofs.Common.{◌≡◌, ◌<◌, ◌≤◌, length, get_or, None, Some, MatchOption, Option, sym, subst, rules}
use Rattle.ddl_types.specs.Types.{Ty}
use Rattle.ddl_types.specs.TyView.{ty_view}
use Rattle.ddl_judging.proofs.Found.{tags_agree, tags_differ, bits_beyond, bits_other, bits_found}
use Rattle.ddl_judging.proofs.finding.bits_member.Goals as goal

pub returns-then-number-len : goal.returns-then-number-len
returns-then-number-len c =
    let h : length c.args.shapes.now.bits.items ≤ c.args.number = search rules in
    bits_beyond c.args.tagged c.args.name.now c.args.shapes.now.bits.items c.args.number h

pub returns-then-bits-tagged : goal.returns-then-bits-tagged
returns-then-bits-tagged c =
    let h : c.args.number < length c.args.shapes.now.bits.items = search rules in
    let e : c.index-bits.result.now ≡ get_or c.args.shapes.now.bits.items c.args.number c.index-bits.result.now = search rules in
    bits_other c.args.tagged c.args.name.now c.args.shapes.now.bits.items c.args.number c.index-bits.result.now h e
    (tags_differ c.index-bits.result.now.tagged c.args.tagged c.if-bits-tagged.true)

pub returns : goal.returns
returns c =
    let h : c.args.number < length c.args.shapes.now.bits.items = search rules in
    let e : c.index-bits.result.now ≡ get_or c.args.shapes.now.bits.items c.args.number c.index-bits.result.now = search rules in
    subst (λ (z : Option Ty). MatchOption c.first_of.result (z ≡ None) (λ t. z ≡ Some (ty_view t.now)))
    (sym (bits_found c.args.tagged c.args.name.now c.args.shapes.now.bits.items c.args.number c.index-bits.result.now c.deref.result.now
    c.deref-2.result.now h e (tags_agree c.index-bits.result.now.tagged c.args.tagged c.if-bits-tagged.false) c.deref.ensures.value
    c.deref-2.ensures.value)) c.first_of.ensures
