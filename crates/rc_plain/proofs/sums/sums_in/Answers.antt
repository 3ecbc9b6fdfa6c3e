use Rattle.std.proofs.Common.{sym}
use Rattle.rc_geom.specs.Plane.{plane_of}
use Rattle.rc_sums.proofs.Counted.{metal_has}
use Rattle.rc_sums.proofs.Enters.{enters_same, room_same}
use Rattle.rc_sums.proofs.Strips.{rules_sound}
use Rattle.rc_sums.proofs.Windows.{window_added, empty_tally, window_room, window_sum}
use Rattle.rc_plain.specs.Squares.{layers_added}
use Rattle.rc_plain.proofs.Squares.{layers_are_columns}
use Rattle.rc_plain.proofs.sums.sums_in.Goals as goal

pub enter_axis-requires-clause-tally : goal.enter_axis-requires-clause-tally
enter_axis-requires-clause-tally g c = λ _ _.
    let V = g.R.Value.Amount in
    let rater = g.met.R.Rater g.world.𝓛 g.world.𝓜 g.world.𝓡 ((λ s x. x), (λ x. x), (λ x. x), λ x. x) in
    let amount = g.met.R.Value.Amount g.world.𝓛 g.world.𝓜 g.world.𝓡 ((λ s x. x), (λ x. x), (λ x. x), λ x. x) in
    let keeps = rater.laws c.args.rater.now in
    let laws = amount.laws in
    let has = g.R.Rater.has_rules c.args.rater.now in
    let plane = plane_of c.args.tiles.now in
    let rates = g.R.Rater.rates_of c.args.rater.now in
    let area = c.args.area.now in
    let empty = c.new-tally.result in
    let each = rules_sound has rates V.adding V.sound keeps plane g.row.A (metal_has has c.args.tiles.now c.requires.rules) in
    let same = layers_are_columns V.adding V.fits V.sound laws plane rates g.row.A area each in
    empty_tally V.adding V.fits V.sound laws empty c.new-tally.ensures

pub enter_axis-requires-clause-room : goal.enter_axis-requires-clause-room
enter_axis-requires-clause-room g c = λ _ _.
    let V = g.R.Value.Amount in
    let rater = g.met.R.Rater g.world.𝓛 g.world.𝓜 g.world.𝓡 ((λ s x. x), (λ x. x), (λ x. x), λ x. x) in
    let amount = g.met.R.Value.Amount g.world.𝓛 g.world.𝓜 g.world.𝓡 ((λ s x. x), (λ x. x), (λ x. x), λ x. x) in
    let keeps = rater.laws c.args.rater.now in
    let laws = amount.laws in
    let has = g.R.Rater.has_rules c.args.rater.now in
    let plane = plane_of c.args.tiles.now in
    let rates = g.R.Rater.rates_of c.args.rater.now in
    let area = c.args.area.now in
    let empty = c.new-tally.result in
    let each = rules_sound has rates V.adding V.sound keeps plane g.row.A (metal_has has c.args.tiles.now c.requires.rules) in
    let same = layers_are_columns V.adding V.fits V.sound laws plane rates g.row.A area each in
    room_same V.adding V.fits V.sound empty (window_added V.adding plane rates g.row.A area) (layers_added V.adding plane rates g.row.A area 32)
    (window_room V.adding V.fits V.sound laws empty c.new-tally.ensures plane rates g.row.A area each c.requires.counts c.requires.values) same

pub returns : goal.returns
returns g c =
    let V = g.R.Value.Amount in
    let rater = g.met.R.Rater g.world.𝓛 g.world.𝓜 g.world.𝓡 ((λ s x. x), (λ x. x), (λ x. x), λ x. x) in
    let amount = g.met.R.Value.Amount g.world.𝓛 g.world.𝓜 g.world.𝓡 ((λ s x. x), (λ x. x), (λ x. x), λ x. x) in
    let keeps = rater.laws c.args.rater.now in
    let laws = amount.laws in
    let has = g.R.Rater.has_rules c.args.rater.now in
    let plane = plane_of c.args.tiles.now in
    let rates = g.R.Rater.rates_of c.args.rater.now in
    let area = c.args.area.now in
    let empty = c.new-tally.result in
    let each = rules_sound has rates V.adding V.sound keeps plane g.row.A (metal_has has c.args.tiles.now c.requires.rules) in
    let same = layers_are_columns V.adding V.fits V.sound laws plane rates g.row.A area each in
    let after = c.enter_axis.new.tally in
    window_sum V.adding V.fits V.sound laws empty after c.new-tally.ensures plane rates g.row.A area each
    (enters_same V.adding V.sound empty after (layers_added V.adding plane rates g.row.A area 32) (window_added V.adding plane rates g.row.A area) c.in_ok-enter_axis.ensures (λ q. sym (same q)))
