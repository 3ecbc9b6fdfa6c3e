use Rattle.std.proofs.Common.{◌+◌, sym, arith}
use Rattle.rc_geom.specs.Plane.{plane_of}
use Rattle.rc_geom.proofs.Rays.{gap_is}
use Rattle.rc_squares.specs.Sides.{ahead}
use Rattle.rc_squares.proofs.faces.gap_ahead.Goals as goal

pub returns-then-is_some : goal.returns-then-is_some
returns-then-is_some c =
    sym (gap_is c.args.reach (ahead (plane_of c.args.tiles.now) c.args.layer c.args.side c.args.at) c.loop-gap.gap (record {
      within = omega arith;
      empty = c.loop-gap.invariant;
      stop = λ _. cc;
    }))

pub returns : goal.returns
returns c =
    sym (gap_is c.args.reach (ahead (plane_of c.args.tiles.now) c.args.layer c.args.side c.args.at) (c.args.reach + 1) (record {
      within = omega arith;
      empty = λ k less. c.loop-gap.invariant k (omega arith);
      stop = λ less. absurd (omega arith);
    }))
