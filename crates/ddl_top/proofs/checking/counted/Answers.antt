use Rattle.std.proofs.Common.{◌≡◌, ◌+◌, ◌≤◌, length, take, arith, Fits, w64}
use Rattle.ddl_top.specs.Run.{all_decls}
use Rattle.ddl_top.proofs.CheckLemmas.{all_before}
use Rattle.ddl_top.proofs.checking.counted.Goals as goal

pub overflow_add-count : goal.overflow_add-count
overflow_add-count c =
    let before : c.loop-unit.count ≡ length (all_decls (take c.loop-unit.unit-index c.args.units.now)) = c.loop-unit.invariant in
    let within = all_before c.args.units.now c.loop-unit.unit-index c.unit-item.result c.loop-unit-test.true c.unit-item.is in
    let most = c.requires in
    let one = c.len.ensures in
    let sized = c.unit-item.result.tree.decls.ok.0 in
    omega arith
