use Rattle.std.proofs.Common.{arith}
use Rattle.std.specs.Prelude.{is_some}
use Rattle.rc_geom.specs.Plane.{plane_of}
use Rattle.rc_squares.proofs.Ranges.{find_fails}
use Rattle.rc_squares.proofs.faces.over.Goals as goal

pub loop-above-preserved : goal.loop-above-preserved
loop-above-preserved c =
    find_fails (λ above. is_some (plane_of c.args.tiles.now above c.args.at)) c.loop-above.above 32 _ (omega arith) c.loop-above.invariant (cc)
