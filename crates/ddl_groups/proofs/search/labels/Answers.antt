use Rattle.std.proofs.Common.{◌≡◌, ◌<◌, ◌^◌, length, subst, sym, arith}
use Rattle.ddl_groups.specs.Placing.{lists_of}
use Rattle.ddl_groups.specs.Searching.{IsStart}
use Rattle.ddl_groups.proofs.Idle.{all_counted, start_idle}
use Rattle.ddl_groups.proofs.Settled.{lists_long}
use Rattle.ddl_groups.proofs.search.labels.Goals as goal

pub loop-root-init : goal.loop-root-init
loop-root-init c =
    let S : IsStart (length (lists_of c.args.needs.now)) c.in_ok-search.search =
    subst (λ n. IsStart n c.in_ok-search.search) (sym (lists_long c.args.needs.now)) c.in_ok-search.ensures in
    record { idle = start_idle (lists_of c.args.needs.now) c.in_ok-search.search S; seen = λ v l. absurd (omega (arith, l)) }

pub returns : goal.returns
returns c =
    let e : length (lists_of c.args.needs.now) ≡ length c.args.needs.now = lists_long c.args.needs.now in
    let f : length c.args.needs.now < 2 ^ 32 = omega (arith, c.requires.few) in
    all_counted (lists_of c.args.needs.now) c.loop-root.search c.loop-root.invariant.idle
    (λ v l. c.loop-root.invariant.seen v (omega arith))
