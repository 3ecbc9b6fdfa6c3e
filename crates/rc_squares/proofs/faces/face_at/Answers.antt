use Rattle.std.proofs.Common.{sym}
use Rattle.rc_geom.specs.Plane.{plane_of}
use Rattle.rc_squares.proofs.Squares.{face_of_none}
use Rattle.rc_squares.proofs.faces.face_at.Goals as goal

pub returns-in-None : goal.returns-in-None
returns-in-None c =
    sym (face_of_none c.args.cap c.args.reach (plane_of c.args.tiles.now) c.args.layer c.args.side c.args.at (sym c.in-None.ensures))
