use Rattle.rc_geom.specs.Plane.{plane_of}
use Rattle.rc_squares.proofs.Squares.{face_stands, face_lacks, face_bounds}
use Rattle.rc_squares.proofs.faces.face_of.Goals as goal

pub returns-then-is_net-clause-is : goal.returns-then-is_net-clause-is
returns-then-is_net-clause-is c =
    face_lacks c.args.cap c.args.reach (plane_of c.args.tiles.now) c.args.layer c.args.side c.args.at c.args.own c.requires.own cc

pub returns-clause-is : goal.returns-clause-is
returns-clause-is c =
    face_stands c.args.cap c.args.reach (plane_of c.args.tiles.now) c.args.layer c.args.side c.args.at c.args.own c.run_behind.result c.sight.result c.requires.own (cc) c.run_behind.ensures c.sight.ensures

pub returns-clause-bounds : goal.returns-clause-bounds
returns-clause-bounds c =
    face_bounds c.args.cap c.args.reach (plane_of c.args.tiles.now) c.args.layer c.args.side c.args.at (record { own = c.args.own; thick = c.run_behind.result; sight = c.sight.result })
    (face_stands c.args.cap c.args.reach (plane_of c.args.tiles.now) c.args.layer c.args.side c.args.at c.args.own c.run_behind.result c.sight.result c.requires.own (cc) c.run_behind.ensures c.sight.ensures)
