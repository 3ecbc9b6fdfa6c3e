use Rattle.std.proofs.Common.{◌≡◌, ◌<◌, ◌^◌, List, length, sym, subst, arith, rules}
use Rattle.rc_geom.specs.declared.key.Key.{Key}
use Rattle.rc_geom.specs.Plane.{plane_of}
use Rattle.rc_geom.specs.Sums.{first_line, end_line, first_place, end_place}
use Rattle.rc_tally.specs.Tallies.{sums}
use Rattle.rc_sums.specs.Entering.{one}
use Rattle.rc_sums.specs.Worths.{columns_added}
use Rattle.rc_sums.proofs.Enters.{enters_same, room_same, on_ok}
use Rattle.rc_bars.specs.declared.moment.Moment.{Moment}
use Rattle.rc_bars.specs.Events.{AreAllEvents}
use Rattle.rc_bars.specs.Moments.{events_of}
use Rattle.rc_bars.specs.Slots.{slot_count, AreSlots, slots_added}
use Rattle.rc_bars.proofs.Spanned.{few_slots}
use Rattle.rc_bars.proofs.Whole.{window_is}
use Rattle.rc_bars.proofs.window.sweep_columns.Goals as goal

pub sweep_slots-requires-clause-few_slots : goal.sweep_slots-requires-clause-few_slots
sweep_slots-requires-clause-few_slots g c = λ _ _.
    let few : slot_count c.in_ok-places.places.items < 2 ^ 32 = few_slots c.in_ok-places.places.items (slot_count c.in_ok-places.places.items) c.in_ok-places.ensures.places in
    let long : c.len.result ≡ length c.in_ok-places.places.items = search rules in
    omega (arith, few, long)

pub sweep_slots-requires-clause-room : goal.sweep_slots-requires-clause-room
sweep_slots-requires-clause-room g c = λ _ _.
    let V = g.R.Value.Amount in
    let rater = g.met.R.Rater g.world.𝓛 g.world.𝓜 g.world.𝓡 ((λ s x. x), (λ x. x), (λ x. x), λ x. x) in
    let amount = g.met.R.Value.Amount g.world.𝓛 g.world.𝓜 g.world.𝓡 ((λ s x. x), (λ x. x), (λ x. x), λ x. x) in
    let keeps = rater.laws c.args.rater.now in
    let laws = amount.laws in
    let has = g.R.Rater.has_rules c.args.rater.now in
    let rates = g.R.Rater.rates_of c.args.rater.now in
    let before = c.args.tally.now in
    let tiles = c.args.tiles.now in
    let plane = plane_of tiles in
    let bars = c.args.bars.now in
    let axis = c.args.axis in
    let area = c.args.area.now in
    let C = c.columns_of-columns.result in
    let R = c.rows_of-rows.result in
    let P = c.deref-4.result.now in
    let M = c.deref-3.result.now in
    let slots = subst (AreSlots C.first C.end bars) (sym c.deref-4.ensures.value) c.in_ok-places.ensures.slots in
    let events = subst (λ (ms : List Moment). AreAllEvents R.low R.high bars (events_of bars ms)) (sym c.deref-3.ensures.value) c.in_ok-moments.ensures.events in
    let f = slots_added V.adding rates R.low R.high P (events_of bars M) in
    let h = columns_added (sums V.adding) one plane rates axis (first_line axis area) (end_line axis area) (first_place axis area) (end_place axis area) in
    let whole : (q : Key) → f q ≡ h q = λ q.
    window_is has rates V.adding V.fits V.sound laws keeps tiles axis area bars C.first C.end R.low R.high P (events_of bars M) q c.columns_of-columns.ensures.first c.columns_of-columns.ensures.end c.rows_of-rows.ensures.low c.rows_of-rows.ensures.high c.requires.tile_rules c.requires.rules c.requires.stand slots events in
    room_same V.adding V.fits V.sound before h f c.requires.room whole

pub returns : goal.returns
returns g c =
    let V = g.R.Value.Amount in
    let rater = g.met.R.Rater g.world.𝓛 g.world.𝓜 g.world.𝓡 ((λ s x. x), (λ x. x), (λ x. x), λ x. x) in
    let amount = g.met.R.Value.Amount g.world.𝓛 g.world.𝓜 g.world.𝓡 ((λ s x. x), (λ x. x), (λ x. x), λ x. x) in
    let keeps = rater.laws c.args.rater.now in
    let laws = amount.laws in
    let has = g.R.Rater.has_rules c.args.rater.now in
    let rates = g.R.Rater.rates_of c.args.rater.now in
    let before = c.args.tally.now in
    let tiles = c.args.tiles.now in
    let plane = plane_of tiles in
    let bars = c.args.bars.now in
    let axis = c.args.axis in
    let area = c.args.area.now in
    let C = c.columns_of-columns.result in
    let R = c.rows_of-rows.result in
    let P = c.deref-4.result.now in
    let M = c.deref-3.result.now in
    let slots = subst (AreSlots C.first C.end bars) (sym c.deref-4.ensures.value) c.in_ok-places.ensures.slots in
    let events = subst (λ (ms : List Moment). AreAllEvents R.low R.high bars (events_of bars ms)) (sym c.deref-3.ensures.value) c.in_ok-moments.ensures.events in
    let f = slots_added V.adding rates R.low R.high P (events_of bars M) in
    let h = columns_added (sums V.adding) one plane rates axis (first_line axis area) (end_line axis area) (first_place axis area) (end_place axis area) in
    let whole : (q : Key) → f q ≡ h q = λ q.
    window_is has rates V.adding V.fits V.sound laws keeps tiles axis area bars C.first C.end R.low R.high P (events_of bars M) q c.columns_of-columns.ensures.first c.columns_of-columns.ensures.end c.rows_of-rows.ensures.low c.rows_of-rows.ensures.high c.requires.tile_rules c.requires.rules c.requires.stand slots events in
    let after = c.sweep_slots.new.tally in
    on_ok c.sweep_slots.result c.sweep_slots.ensures (λ e. enters_same V.adding V.sound before after f h e (λ q. sym (whole q)))
