use Rattle.std.proofs.Common.{◌+◌, ◌≤◌, length, ℕ, take, arith, rules, length-drop}
use Rattle.std.proofs.lemmas.List.{length-take-le}
use Rattle.ddl_outside.specs.Files.{HasAt}
use Rattle.ddl_outside.proofs.FilesLemmas.{Later-trans, TouchesOnly-trans, HasAt-append, take-put_mid_part}
use Rattle.ddl_outside.proofs.filling.fill.Goals as goal

pub loop-done-preserved : goal.loop-done-preserved
loop-done-preserved g c =
    let got = c.in-Got.ensures.answer in
    let within : c.loop-done.done ≤ length c.loop-done.into = c.loop-done.invariant.within in
    let before : HasAt (g.F.Files.state c.read.new.self).held c.args.name.now c.args.at (take c.loop-done.done c.loop-done.into) =
    rw c.in-Got.ensures.later.held c.loop-done.invariant.filled in
    let here : HasAt (g.F.Files.state c.read.new.self).held c.args.name.now (c.args.at + length (take c.loop-done.done c.loop-done.into))
    (take c.in-Got.count c.read.new.into) =
    rw (length-take-le c.loop-done.done c.loop-done.into within) got.3 in
    record {
      later = Later-trans _ _ _ c.loop-done.invariant.later c.in-Got.ensures.later;
      only = TouchesOnly-trans _ _ _ _ c.loop-done.invariant.only c.in-Got.ensures.only;
      told = search rules;
      reach = omega (arith, c.in-Got.ensures.reach, c.loop-done.invariant.reach, c.loop-done.auto.into, c.requires.within, length-drop {A = ℕ});
      within = search rules;
      filled = rw (take-put_mid_part c.loop-done.done _ c.in-Got.count c.loop-done.into c.read.new.into within got.1)
          (HasAt-append _ c.args.name.now c.args.at _ _ before here);
    }
