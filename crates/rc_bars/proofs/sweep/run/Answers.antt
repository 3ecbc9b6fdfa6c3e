use Rattle.std.proofs.Common.{◌≡◌, ℕ, true, List, take, length, get_or, ap, sym, ◌∙◌, arith}
use Rattle.std.specs.Prelude.{slice_index_or}
use Rattle.std.proofs.lemmas.List.{take_all}
use Rattle.rc_geom.specs.declared.key.Key.{Key}
use Rattle.rc_geom.specs.Sums.{total}
use Rattle.rc_geom.proofs.Totals.{total_none}
use Rattle.rc_tally.specs.Tallies.{sums}
use Rattle.rc_sums.proofs.Enters.{enters_none, enters_same, room_same}
use Rattle.rc_sums.proofs.Loops.{room_in_total, enters_total}
use Rattle.rc_bars.specs.declared.moment.Kind.TheVariants.{Under as IsUnder}
use Rattle.rc_bars.specs.declared.moment.Moment.{Moment}
use Rattle.rc_bars.specs.Cells.{state_at}
use Rattle.rc_bars.specs.Events.{Event}
use Rattle.rc_bars.specs.Moments.{no_bar, no_event, moment_event, events_of, events_added}
use Rattle.rc_bars.specs.Slots.{slot_count}
use Rattle.rc_bars.specs.Sweeps.{states_after, event_added}
use Rattle.rc_bars.proofs.Runs.{as_many, within_is, events_rated, run_sound, run_part, run_state}
use Rattle.rc_bars.proofs.sweep.run.Goals as goal

pub loop-i-init : goal.loop-i-init
unfolding events_added
loop-i-init g c =
    let V = g.R.Value.Amount in
    let rater = g.met.R.Rater g.world.𝓛 g.world.𝓜 g.world.𝓡 ((λ s x. x), (λ x. x), (λ x. x), λ x. x) in
    let amount = g.met.R.Value.Amount g.world.𝓛 g.world.𝓜 g.world.𝓡 ((λ s x. x), (λ x. x), (λ x. x), λ x. x) in
    let keeps = rater.laws c.args.rater.now in
    let laws = amount.laws in
    let has = g.R.Rater.has_rules c.args.rater.now in
    let rates = g.R.Rater.rates_of c.args.rater.now in
    let low = c.args.rows.low in
    let high = c.args.rows.high in
    let before = c.args.tally.now in
    let places = c.args.places.now in
    let bars = c.args.bars.now in
    let moments = c.args.moments.now in
    let count = c.args.count in
    let events = events_of bars moments in
    let f = λ (i : ℕ) (q : Key). event_added V.adding rates low high places (states_after places (take i events)) (get_or events i no_event) q in
    let of_f : (i : ℕ) (q : Key) → V.sound (f i q).value ≡ true = run_sound V.adding V.fits V.sound laws rates low high places events (events_rated has rates V.adding V.sound keeps bars moments c.requires.rules c.requires.moments) in
    let counted : slot_count places ≡ count = let size = c.requires.places.size in omega arith in
    let none : Moment = record { kind = IsUnder; bar = 0 } in
    record {
      cells = c.requires.cells;
      state = c.requires.start;
      enters = enters_none V.adding V.fits V.sound laws before (λ q. total (sums V.adding) 0 (λ i. f i q)) c.requires.tally (λ q. total_none (sums V.adding) (λ i. f i q));
    }

pub apply-requires-clause-is : goal.apply-requires-clause-is
apply-requires-clause-is g c = λ _ _.
    let none : Moment = record { kind = IsUnder; bar = 0 } in
    within_is c.args.bars.now (slice_index_or c.args.moments.now c.loop-i.i none).bar no_bar (c.requires.moments c.loop-i.i none c.loop-i-test.true)

pub apply-requires-clause-room : goal.apply-requires-clause-room
unfolding events_added
apply-requires-clause-room g c = λ _ _.
    let V = g.R.Value.Amount in
    let rater = g.met.R.Rater g.world.𝓛 g.world.𝓜 g.world.𝓡 ((λ s x. x), (λ x. x), (λ x. x), λ x. x) in
    let amount = g.met.R.Value.Amount g.world.𝓛 g.world.𝓜 g.world.𝓡 ((λ s x. x), (λ x. x), (λ x. x), λ x. x) in
    let keeps = rater.laws c.args.rater.now in
    let laws = amount.laws in
    let has = g.R.Rater.has_rules c.args.rater.now in
    let rates = g.R.Rater.rates_of c.args.rater.now in
    let low = c.args.rows.low in
    let high = c.args.rows.high in
    let before = c.args.tally.now in
    let places = c.args.places.now in
    let bars = c.args.bars.now in
    let moments = c.args.moments.now in
    let count = c.args.count in
    let events = events_of bars moments in
    let f = λ (i : ℕ) (q : Key). event_added V.adding rates low high places (states_after places (take i events)) (get_or events i no_event) q in
    let of_f : (i : ℕ) (q : Key) → V.sound (f i q).value ≡ true = run_sound V.adding V.fits V.sound laws rates low high places events (events_rated has rates V.adding V.sound keeps bars moments c.requires.rules c.requires.moments) in
    let counted : slot_count places ≡ count = let size = c.requires.places.size in omega arith in
    let none : Moment = record { kind = IsUnder; bar = 0 } in
    let i = c.loop-i.i in
    let less = c.loop-i-test.true in
    let t = state_at bars count c.loop-i.now c.loop-i.under c.loop-i.top in
    let e = moment_event bars (get_or moments i none) in
    let is : (q : Key) → f i q ≡ event_added V.adding rates low high places t e q = λ q. run_part V.adding rates low high places count bars moments i none t q counted less c.loop-i.invariant.state in
    let reached = c.loop-i.tally in
    room_same V.adding V.fits V.sound reached (f i) (event_added V.adding rates low high places t e)
    (room_in_total V.adding V.fits V.sound laws before reached f i (length moments) less c.requires.tally of_f c.requires.room c.loop-i.invariant.enters)
    (λ q. sym (is q))

pub loop-i-preserved : goal.loop-i-preserved
unfolding events_added
loop-i-preserved g c =
    let V = g.R.Value.Amount in
    let rater = g.met.R.Rater g.world.𝓛 g.world.𝓜 g.world.𝓡 ((λ s x. x), (λ x. x), (λ x. x), λ x. x) in
    let amount = g.met.R.Value.Amount g.world.𝓛 g.world.𝓜 g.world.𝓡 ((λ s x. x), (λ x. x), (λ x. x), λ x. x) in
    let keeps = rater.laws c.args.rater.now in
    let laws = amount.laws in
    let has = g.R.Rater.has_rules c.args.rater.now in
    let rates = g.R.Rater.rates_of c.args.rater.now in
    let low = c.args.rows.low in
    let high = c.args.rows.high in
    let before = c.args.tally.now in
    let places = c.args.places.now in
    let bars = c.args.bars.now in
    let moments = c.args.moments.now in
    let count = c.args.count in
    let events = events_of bars moments in
    let f = λ (i : ℕ) (q : Key). event_added V.adding rates low high places (states_after places (take i events)) (get_or events i no_event) q in
    let of_f : (i : ℕ) (q : Key) → V.sound (f i q).value ≡ true = run_sound V.adding V.fits V.sound laws rates low high places events (events_rated has rates V.adding V.sound keeps bars moments c.requires.rules c.requires.moments) in
    let counted : slot_count places ≡ count = let size = c.requires.places.size in omega arith in
    let none : Moment = record { kind = IsUnder; bar = 0 } in
    let i = c.loop-i.i in
    let less = c.loop-i-test.true in
    let t = state_at bars count c.loop-i.now c.loop-i.under c.loop-i.top in
    let e = moment_event bars (get_or moments i none) in
    let is : (q : Key) → f i q ≡ event_added V.adding rates low high places t e q = λ q. run_part V.adding rates low high places count bars moments i none t q counted less c.loop-i.invariant.state in
    let reached = c.loop-i.tally in
    let after = c.apply.new.tally in
    record {
      cells = c.in_ok-apply.ensures.cells;
      state = λ k small. c.in_ok-apply.ensures.state k small ∙ run_state places bars moments i none t k less (c.loop-i.invariant.state k small);
      enters = enters_total V.adding V.fits V.sound laws before reached after f i c.requires.tally of_f c.loop-i.invariant.enters
          (enters_same V.adding V.sound reached after (event_added V.adding rates low high places t e) (f i) c.in_ok-apply.ensures.enters is);
    }

pub returns-clause-state : goal.returns-clause-state
returns-clause-state g c = λ k small.
    let bars = c.args.bars.now in
    let moments = c.args.moments.now in
    let many_is = as_many bars moments in
    let past = c.loop-i-test.false in
    c.loop-i.invariant.state k small ∙ ap (λ (es : List Event). states_after c.args.places.now es k) (take_all c.loop-i.i (events_of bars moments) (omega (arith, many_is)))
