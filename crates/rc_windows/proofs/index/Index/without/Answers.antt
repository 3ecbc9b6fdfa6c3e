use Rattle.std.proofs.Common.{refl, arith}
use Rattle.rc_windows.proofs.Listed.{without_more}
use Rattle.rc_windows.proofs.index.Index.without.Goals as goal

pub loop-at-preserved : goal.loop-at-preserved
loop-at-preserved c = record {
  is = without_more c.args.net c.args.self.now c.args.list.now c.loop-at.at _ _ _ _ _ c.loop-at-test.true refl c.loop-at.invariant.is c.tiles.ensures c.in_ok-others.ensures c.in_ok-push.ensures.items;
  within = omega (arith, c.loop-at-test.true);
}
