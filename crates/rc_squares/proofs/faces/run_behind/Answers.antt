use Rattle.std.proofs.Common.{sym, arith}
use Rattle.rc_geom.specs.Plane.{plane_of}
use Rattle.rc_geom.proofs.Rays.{thickness_is}
use Rattle.rc_squares.specs.Sides.{behind}
use Rattle.rc_squares.proofs.Squares.{across}
use Rattle.rc_squares.proofs.faces.run_behind.Goals as goal

pub returns-then-not-is_net : goal.returns-then-not-is_net
returns-then-not-is_net c =
    let same = across (plane_of c.args.tiles.now) c.args.layer c.args.side c.opposite-back.result c.args.at c.loop-distance.distance c.opposite-back.ensures.axis c.opposite-back.ensures.way in
    sym (thickness_is c.args.net c.args.cap (behind (plane_of c.args.tiles.now) c.args.layer c.args.side c.args.at) c.loop-distance.distance (record {
      within = omega arith;
      own = c.loop-distance.invariant;
      stop = λ _. cc;
    }))

pub returns : goal.returns
returns c =
    sym (thickness_is c.args.net c.args.cap (behind (plane_of c.args.tiles.now) c.args.layer c.args.side c.args.at) c.args.cap (record {
      within = omega arith;
      own = λ k less. c.loop-distance.invariant k (omega arith);
      stop = λ less. absurd (omega arith);
    }))
