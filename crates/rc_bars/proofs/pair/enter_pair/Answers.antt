use Rattle.std.proofs.Common.{Some}
use Rattle.rc_tally.specs.Tallies.{sum_sound}
use Rattle.rc_sums.specs.Entering.{many}
use Rattle.rc_sums.proofs.Enters.{on_ok}
use Rattle.rc_bars.specs.Adds.{waiting_parts}
use Rattle.rc_bars.specs.Columns.{low_parts}
use Rattle.rc_bars.specs.Masks.{layers_of}
use Rattle.rc_bars.proofs.Worths.{low_sound}
use Rattle.rc_bars.proofs.Pairs.{both_enter, first_room, second_room, many_rules, waiting_are_sound}
use Rattle.rc_bars.proofs.pair.enter_pair.Goals as goal

pub enter_waiting-requires-clause-room : goal.enter_waiting-requires-clause-room
enter_waiting-requires-clause-room g c = λ _ _.
    let V = g.R.Value.Amount in
    let rater = g.met.R.Rater g.world.𝓛 g.world.𝓜 g.world.𝓡 ((λ s x. x), (λ x. x), (λ x. x), λ x. x) in
    let amount = g.met.R.Value.Amount g.world.𝓛 g.world.𝓜 g.world.𝓡 ((λ s x. x), (λ x. x), (λ x. x), λ x. x) in
    let keeps = rater.laws c.args.rater.now in
    let laws = amount.laws in
    let n = c.args.n in
    let b = c.args.bar.now in
    let has = g.R.Rater.has_rules c.args.rater.now in
    let rates = g.R.Rater.rates_of c.args.rater.now in
    let low = c.args.rows.low in
    let high = c.args.rows.high in
    let before = c.args.tally.now in
    let ups = waiting_parts rates low high (layers_of c.args.under) c.args.top (Some b) in
    let downs = low_parts rates low high (layers_of c.args.now) c.args.top b in
    let of_ups = waiting_are_sound V.adding V.fits V.sound laws has rates keeps low high (layers_of c.args.under) n c.args.top (Some b) c.requires.top_rules in
    let of_downs = low_sound (sum_sound V.sound) (many V.adding n) rates low high (layers_of c.args.now) c.args.top b (many_rules V.adding V.fits V.sound laws has rates keeps b.layer n c.requires.rules) in
    first_room V.adding V.fits V.sound laws before n ups downs c.requires.tally of_ups of_downs c.requires.room

pub enter_low-requires-clause-room : goal.enter_low-requires-clause-room
enter_low-requires-clause-room g c = λ _ _.
    let V = g.R.Value.Amount in
    let rater = g.met.R.Rater g.world.𝓛 g.world.𝓜 g.world.𝓡 ((λ s x. x), (λ x. x), (λ x. x), λ x. x) in
    let amount = g.met.R.Value.Amount g.world.𝓛 g.world.𝓜 g.world.𝓡 ((λ s x. x), (λ x. x), (λ x. x), λ x. x) in
    let keeps = rater.laws c.args.rater.now in
    let laws = amount.laws in
    let n = c.args.n in
    let b = c.args.bar.now in
    let has = g.R.Rater.has_rules c.args.rater.now in
    let rates = g.R.Rater.rates_of c.args.rater.now in
    let low = c.args.rows.low in
    let high = c.args.rows.high in
    let before = c.args.tally.now in
    let ups = waiting_parts rates low high (layers_of c.args.under) c.args.top (Some b) in
    let downs = low_parts rates low high (layers_of c.args.now) c.args.top b in
    let of_ups = waiting_are_sound V.adding V.fits V.sound laws has rates keeps low high (layers_of c.args.under) n c.args.top (Some b) c.requires.top_rules in
    let of_downs = low_sound (sum_sound V.sound) (many V.adding n) rates low high (layers_of c.args.now) c.args.top b (many_rules V.adding V.fits V.sound laws has rates keeps b.layer n c.requires.rules) in
    second_room V.adding V.fits V.sound laws before c.enter_waiting.new.tally n ups downs c.requires.tally of_ups of_downs c.requires.room c.in_ok-enter_waiting.ensures

pub returns : goal.returns
returns g c =
    let V = g.R.Value.Amount in
    let rater = g.met.R.Rater g.world.𝓛 g.world.𝓜 g.world.𝓡 ((λ s x. x), (λ x. x), (λ x. x), λ x. x) in
    let amount = g.met.R.Value.Amount g.world.𝓛 g.world.𝓜 g.world.𝓡 ((λ s x. x), (λ x. x), (λ x. x), λ x. x) in
    let keeps = rater.laws c.args.rater.now in
    let laws = amount.laws in
    let n = c.args.n in
    let b = c.args.bar.now in
    let has = g.R.Rater.has_rules c.args.rater.now in
    let rates = g.R.Rater.rates_of c.args.rater.now in
    let low = c.args.rows.low in
    let high = c.args.rows.high in
    let before = c.args.tally.now in
    let ups = waiting_parts rates low high (layers_of c.args.under) c.args.top (Some b) in
    let downs = low_parts rates low high (layers_of c.args.now) c.args.top b in
    let of_ups = waiting_are_sound V.adding V.fits V.sound laws has rates keeps low high (layers_of c.args.under) n c.args.top (Some b) c.requires.top_rules in
    let of_downs = low_sound (sum_sound V.sound) (many V.adding n) rates low high (layers_of c.args.now) c.args.top b (many_rules V.adding V.fits V.sound laws has rates keeps b.layer n c.requires.rules) in
    on_ok c.enter_low.result c.enter_low.ensures (λ e.
    both_enter V.adding V.fits V.sound laws before c.enter_waiting.new.tally c.enter_low.new.tally n ups downs c.requires.tally of_ups of_downs c.in_ok-enter_waiting.ensures e)
