use Rattle.std.proofs.Common.{◌∙◌}
use Rattle.ddl_unify.proofs.Parts.{pairs_moved, shorter}
use Rattle.ddl_unify.proofs.heads.push_all.Goals as goal

pub loop-left-preserved-in-Continue-1 : goal.loop-left-preserved-in-Continue-1
loop-left-preserved-in-Continue-1 c = record {
  long = shorter c.loop-left.ls.items c.pop.new.self.items c.loop-left.rs.items c.pop-in-Some.new.self.items c.in-Some.left c.in-Some-pop.right
      c.in-Some.ensures.items c.in-Some-pop.ensures.items c.loop-left.invariant.long;
  moved = pairs_moved c.loop-left.stack.items c.push.new.self.items c.loop-left.ls.items c.pop.new.self.items c.loop-left.rs.items c.pop-in-Some.new.self.items
      c.in-Some.left c.in-Some-pop.right c.in_ok-push.ensures.items c.in-Some.ensures.items c.in-Some-pop.ensures.items c.loop-left.invariant.long
      ∙ c.loop-left.invariant.moved;
}
