use Rattle.std.proofs.Common.{◌≡◌, ◌<◌, ◌≤◌, length, min, true, rules, arith}
use Rattle.std.proofs.lemmas.Grind.{common_steps}
use Rattle.std.specs.Prelude.{bytes_eq}
use Rattle.ddl_judging.proofs.Found.{member_at, member_none}
use Rattle.ddl_judging.proofs.finding.first_of.Goals as goal

pub returns-then-eq : goal.returns-then-eq
returns-then-eq c =
    let h : c.loop-i.i < length c.args.names.now = grind (arith, common_steps) in
    let k : c.loop-i.i < length c.args.types.now = grind (arith, common_steps) in
    let b : bytes_eq c.index-names-i.result c.args.name.now ≡ true = search rules in
    member_at c.args.name.now c.args.names.now c.args.types.now c.loop-i.i c.index-names-i.result c.index-types-i.result h k c.index-names-i.is
    c.index-types-i.is b c.loop-i.invariant.differ

pub returns : goal.returns
returns c =
    let h : min (length c.args.names.now) (length c.args.types.now) ≤ c.loop-i.i = grind (arith, common_steps) in
    member_none c.args.name.now c.args.names.now c.args.types.now c.loop-i.i h c.loop-i.invariant.differ
