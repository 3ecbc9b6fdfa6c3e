use Rattle.std.proofs.Common.{◌≡◌, true, length, refl, arith}
use Rattle.rc_geom.specs.declared.key.Key.{Key}
use Rattle.rc_sums.proofs.Enters.{enters_both, room_first, room_second, on_ok}
use Rattle.rc_bars.specs.Cells.{state_at}
use Rattle.rc_bars.specs.Moments.{events_of, events_added}
use Rattle.rc_bars.specs.Slots.{slot_count, slots_added}
use Rattle.rc_bars.specs.Sweeps.{states_after, left_added}
use Rattle.rc_bars.proofs.Wholes.{whole_is, events_sound, rest_sound, after_sound}
use Rattle.rc_bars.proofs.sweep.run_through.Goals as goal

pub run-requires-clause-room : goal.run-requires-clause-room
run-requires-clause-room g c = λ _ _.
    let V = g.R.Value.Amount in
    let rater = g.met.R.Rater g.world.𝓛 g.world.𝓜 g.world.𝓡 ((λ s x. x), (λ x. x), (λ x. x), λ x. x) in
    let amount = g.met.R.Value.Amount g.world.𝓛 g.world.𝓜 g.world.𝓡 ((λ s x. x), (λ x. x), (λ x. x), λ x. x) in
    let keeps = rater.laws c.args.rater.now in
    let laws = amount.laws in
    let has = g.R.Rater.has_rules c.args.rater.now in
    let rates = g.R.Rater.rates_of c.args.rater.now in
    let low = c.args.rows.low in
    let high = c.args.rows.high in
    let before = c.args.tally.now in
    let places = c.args.places.now in
    let bars = c.args.bars.now in
    let moments = c.args.moments.now in
    let count = c.args.count in
    let events = events_of bars moments in
    let counted : slot_count places ≡ count = let size = c.requires.places.size in omega arith in
    let rules = c.requires.rules in
    let f = events_added V.adding rates low high places events (length moments) in
    let h = slots_added V.adding rates low high places events in
    let of_f = events_sound V.adding V.fits V.sound laws has rates keeps low high places bars moments rules c.requires.moments in
    let s = states_after places events in
    let r = left_added V.adding rates low high places s in
    let of_r : (q : Key) → V.sound (r q).value ≡ true = after_sound V.adding V.fits V.sound laws has rates keeps low high places bars moments rules c.requires.moments in
    room_first V.adding V.fits V.sound laws before f r h c.requires.tally of_f of_r c.requires.room
    (whole_is V.adding V.fits V.sound laws has rates keeps low high places count bars moments s rules c.requires.moments counted (λ k small. refl))

pub finish-requires-clause-room : goal.finish-requires-clause-room
finish-requires-clause-room g c = λ _ _.
    let V = g.R.Value.Amount in
    let rater = g.met.R.Rater g.world.𝓛 g.world.𝓜 g.world.𝓡 ((λ s x. x), (λ x. x), (λ x. x), λ x. x) in
    let amount = g.met.R.Value.Amount g.world.𝓛 g.world.𝓜 g.world.𝓡 ((λ s x. x), (λ x. x), (λ x. x), λ x. x) in
    let keeps = rater.laws c.args.rater.now in
    let laws = amount.laws in
    let has = g.R.Rater.has_rules c.args.rater.now in
    let rates = g.R.Rater.rates_of c.args.rater.now in
    let low = c.args.rows.low in
    let high = c.args.rows.high in
    let before = c.args.tally.now in
    let places = c.args.places.now in
    let bars = c.args.bars.now in
    let moments = c.args.moments.now in
    let count = c.args.count in
    let events = events_of bars moments in
    let counted : slot_count places ≡ count = let size = c.requires.places.size in omega arith in
    let rules = c.requires.rules in
    let f = events_added V.adding rates low high places events (length moments) in
    let h = slots_added V.adding rates low high places events in
    let of_f = events_sound V.adding V.fits V.sound laws has rates keeps low high places bars moments rules c.requires.moments in
    let t = state_at bars count c.run.new.now c.run.new.under c.run.new.top in
    let r = left_added V.adding rates low high places t in
    let of_r = rest_sound V.adding V.fits V.sound laws has rates keeps low high places bars count c.run.new.now c.run.new.under c.run.new.top rules in
    let reached = c.run.new.tally in
    let whole = whole_is V.adding V.fits V.sound laws has rates keeps low high places count bars moments t rules c.requires.moments counted c.in_ok-run.ensures.state in
    room_second V.adding V.fits V.sound laws before reached f r h c.requires.tally of_f of_r c.requires.room whole c.in_ok-run.ensures.enters

pub returns : goal.returns
returns g c =
    let V = g.R.Value.Amount in
    let rater = g.met.R.Rater g.world.𝓛 g.world.𝓜 g.world.𝓡 ((λ s x. x), (λ x. x), (λ x. x), λ x. x) in
    let amount = g.met.R.Value.Amount g.world.𝓛 g.world.𝓜 g.world.𝓡 ((λ s x. x), (λ x. x), (λ x. x), λ x. x) in
    let keeps = rater.laws c.args.rater.now in
    let laws = amount.laws in
    let has = g.R.Rater.has_rules c.args.rater.now in
    let rates = g.R.Rater.rates_of c.args.rater.now in
    let low = c.args.rows.low in
    let high = c.args.rows.high in
    let before = c.args.tally.now in
    let places = c.args.places.now in
    let bars = c.args.bars.now in
    let moments = c.args.moments.now in
    let count = c.args.count in
    let events = events_of bars moments in
    let counted : slot_count places ≡ count = let size = c.requires.places.size in omega arith in
    let rules = c.requires.rules in
    let f = events_added V.adding rates low high places events (length moments) in
    let h = slots_added V.adding rates low high places events in
    let of_f = events_sound V.adding V.fits V.sound laws has rates keeps low high places bars moments rules c.requires.moments in
    let t = state_at bars count c.run.new.now c.run.new.under c.run.new.top in
    let r = left_added V.adding rates low high places t in
    let of_r = rest_sound V.adding V.fits V.sound laws has rates keeps low high places bars count c.run.new.now c.run.new.under c.run.new.top rules in
    let reached = c.run.new.tally in
    let whole = whole_is V.adding V.fits V.sound laws has rates keeps low high places count bars moments t rules c.requires.moments counted c.in_ok-run.ensures.state in
    on_ok c.finish.result c.finish.ensures (λ last.
    enters_both V.adding V.fits V.sound laws before reached c.finish.new.tally f r h c.requires.tally of_f of_r c.in_ok-run.ensures.enters last whole)
