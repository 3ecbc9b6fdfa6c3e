use Rattle.std.proofs.Common.{ℕ, List}
use Rattle.std.specs.Prelude.{option_map}
use Rattle.std.specs.Option.{option_to_list}
use Rattle.rc_geom.specs.Parts.{Part}
use Rattle.rc_geom.specs.Plane.{plane_of}
use Rattle.rc_squares.specs.Found.{face_value, part_value}
use Rattle.rc_squares.proofs.Squares.{parts_stand}
use Rattle.rc_squares.proofs.parts.side_parts.Goals as goal

pub returns-in-Some-clause-is : goal.returns-in-Some-clause-is
returns-in-Some-clause-is g c =
    let own : List (Part ℕ) = option_to_list (option_map part_value c.part_for.result) in
    let shared : List (Part ℕ) = option_to_list (option_map part_value c.part_for-in-Some.result) in
    parts_stand (plane_of c.args.tiles.now) (g.R.FaceRates.rates_of c.args.rates.now) c.args.layer c.args.side c.args.at c.cap.result c.reach.result (face_value c.in-Some.face) c.amounts-amount.result own shared c.cap.ensures.is c.reach.ensures.is c.in-Some.ensures.is c.amounts-amount.ensures.is (cc) (cc)
