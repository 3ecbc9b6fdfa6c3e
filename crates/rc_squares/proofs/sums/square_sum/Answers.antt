use Rattle.std.proofs.Common.{sym}
use Rattle.rc_squares.proofs.Worths.{metal_has}
use Rattle.rc_squares.proofs.sums.square_sum.Goals as goal

pub side_sum-requires-clause-rules : goal.side_sum-requires-clause-rules
side_sum-requires-clause-rules g c =
    metal_has (g.R.FaceRates.has_rules c.args.rates.now) c.args.tiles.now c.args.layer c.args.at c.in-Some.own c.requires.rules (sym c.in-Some.ensures)

pub side_sum-requires-in-Some-clause-rules : goal.side_sum-requires-in-Some-clause-rules
side_sum-requires-in-Some-clause-rules g c =
    metal_has (g.R.FaceRates.has_rules c.args.rates.now) c.args.tiles.now c.args.layer c.args.at c.in-Some.own c.requires.rules (sym c.in-Some.ensures)
