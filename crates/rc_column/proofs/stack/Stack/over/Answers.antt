use Rattle.std.proofs.Common.{arith}
use Rattle.std.specs.Prelude.{is_some}
use Rattle.rc_geom.specs.Plane.{plane_of}
use Rattle.rc_geom.specs.Line.{square_of}
use Rattle.rc_geom.proofs.Ranges.{find_fails}
use Rattle.rc_column.proofs.stack.Stack.over.Goals as goal

pub loop-above-preserved : goal.loop-above-preserved
loop-above-preserved c =
    let s = c.args.self.now in
    find_fails (λ above. is_some (plane_of s.tiles above (square_of s.line.axis s.line.at c.args.place.at))) c.loop-above.above 32 _ (omega arith) c.loop-above.invariant (cc)
