use Rattle.std.specs.Prelude.{option_map}
use Rattle.rc_geom.specs.Plane.{plane_of}
use Rattle.rc_squares.specs.Found.{part_value}
use Rattle.rc_squares.specs.Worths.{one, amount}
use Rattle.rc_squares.proofs.Worths.{side_worth_is}
use Rattle.rc_squares.proofs.sums.side_sum.Goals as goal

pub returns-clause-count : goal.returns-clause-count
returns-clause-count g c =
    let parts = c.side_parts-parts.result in
    let is = side_worth_is one (plane_of c.args.tiles.now) (g.R.FaceRates.rates_of c.args.rates.now) c.args.layer c.args.key c.args.side c.args.at (option_map part_value parts.own) (option_map part_value parts.shared) c.side_parts-parts.ensures.is in
    cc

pub returns-clause-value : goal.returns-clause-value
returns-clause-value g c =
    let parts = c.side_parts-parts.result in
    let is = side_worth_is amount (plane_of c.args.tiles.now) (g.R.FaceRates.rates_of c.args.rates.now) c.args.layer c.args.key c.args.side c.args.at (option_map part_value parts.own) (option_map part_value parts.shared) c.side_parts-parts.ensures.is in
    cc
