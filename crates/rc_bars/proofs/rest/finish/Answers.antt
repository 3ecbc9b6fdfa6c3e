use Rattle.std.proofs.Common.{◌≡◌, ℕ, true, ap, sym, arith}
use Rattle.rc_geom.specs.declared.key.Key.{Key}
use Rattle.rc_geom.specs.Sums.{total}
use Rattle.rc_geom.proofs.Totals.{total_none}
use Rattle.rc_tally.specs.Tallies.{sums}
use Rattle.rc_sums.proofs.Enters.{enters_none, enters_same, room_same}
use Rattle.rc_sums.proofs.Loops.{room_in_total, enters_total}
use Rattle.rc_bars.specs.Adds.{parts_added}
use Rattle.rc_bars.specs.Cells.{state_at}
use Rattle.rc_bars.specs.Columns.{left}
use Rattle.rc_bars.specs.Slots.{slot_count, slot_width}
use Rattle.rc_bars.specs.Sweeps.{left_added}
use Rattle.rc_bars.proofs.Rests.{left_are_sound}
use Rattle.rc_bars.proofs.rest.finish.Goals as goal

pub loop-slot-init : goal.loop-slot-init
loop-slot-init g c =
    let V = g.R.Value.Amount in
    let rater = g.met.R.Rater g.world.𝓛 g.world.𝓜 g.world.𝓡 ((λ s x. x), (λ x. x), (λ x. x), λ x. x) in
    let amount = g.met.R.Value.Amount g.world.𝓛 g.world.𝓜 g.world.𝓡 ((λ s x. x), (λ x. x), (λ x. x), λ x. x) in
    let keeps = rater.laws c.args.rater.now in
    let laws = amount.laws in
    let has = g.R.Rater.has_rules c.args.rater.now in
    let rates = g.R.Rater.rates_of c.args.rater.now in
    let low = c.args.rows.low in
    let high = c.args.rows.high in
    let before = c.args.tally.now in
    let bars = c.args.bars.now in
    let count = c.args.count in
    let now = c.args.now.now in
    let under = c.args.under.now in
    let top = c.args.top.now in
    let places = c.args.places.now in
    let f = λ (k : ℕ) (q : Key). parts_added V.adding (slot_width places k) (left rates low high (state_at bars count now under top k)) q in
    let of_f : (k : ℕ) (q : Key) → V.sound (f k q).value ≡ true = left_are_sound V.adding V.fits V.sound laws has rates keeps low high bars count now under top (slot_width places) c.requires.rules in
    let counted : slot_count places ≡ count = let size = c.requires.places.size in omega arith in
    enters_none V.adding V.fits V.sound laws before (λ q. total (sums V.adding) 0 (λ k. f k q)) c.requires.tally (λ q. total_none (sums V.adding) (λ k. f k q))

pub finish_slot-requires-clause-room : goal.finish_slot-requires-clause-room
unfolding left_added
finish_slot-requires-clause-room g c = λ _ _.
    let V = g.R.Value.Amount in
    let rater = g.met.R.Rater g.world.𝓛 g.world.𝓜 g.world.𝓡 ((λ s x. x), (λ x. x), (λ x. x), λ x. x) in
    let amount = g.met.R.Value.Amount g.world.𝓛 g.world.𝓜 g.world.𝓡 ((λ s x. x), (λ x. x), (λ x. x), λ x. x) in
    let keeps = rater.laws c.args.rater.now in
    let laws = amount.laws in
    let has = g.R.Rater.has_rules c.args.rater.now in
    let rates = g.R.Rater.rates_of c.args.rater.now in
    let low = c.args.rows.low in
    let high = c.args.rows.high in
    let before = c.args.tally.now in
    let bars = c.args.bars.now in
    let count = c.args.count in
    let now = c.args.now.now in
    let under = c.args.under.now in
    let top = c.args.top.now in
    let places = c.args.places.now in
    let f = λ (k : ℕ) (q : Key). parts_added V.adding (slot_width places k) (left rates low high (state_at bars count now under top k)) q in
    let of_f : (k : ℕ) (q : Key) → V.sound (f k q).value ≡ true = left_are_sound V.adding V.fits V.sound laws has rates keeps low high bars count now under top (slot_width places) c.requires.rules in
    let counted : slot_count places ≡ count = let size = c.requires.places.size in omega arith in
    let k = c.loop-slot.slot in
    let less = c.loop-slot-test.true in
    let n = c.width-columns.result in
    let is : (q : Key) → f k q ≡ parts_added V.adding n (left rates low high (state_at bars count now under top k)) q = λ q. ap (λ (m : ℕ). parts_added V.adding m (left rates low high (state_at bars count now under top k)) q) (sym c.width-columns.ensures.is) in
    let reached = c.loop-slot.tally in
    room_same V.adding V.fits V.sound reached (f k) (parts_added V.adding n (left rates low high (state_at bars count now under top k)))
    (room_in_total V.adding V.fits V.sound laws before reached f k (slot_count places) (omega (arith, counted)) c.requires.tally of_f c.requires.room c.loop-slot.invariant)
    (λ q. sym (is q))

pub loop-slot-preserved : goal.loop-slot-preserved
loop-slot-preserved g c =
    let V = g.R.Value.Amount in
    let rater = g.met.R.Rater g.world.𝓛 g.world.𝓜 g.world.𝓡 ((λ s x. x), (λ x. x), (λ x. x), λ x. x) in
    let amount = g.met.R.Value.Amount g.world.𝓛 g.world.𝓜 g.world.𝓡 ((λ s x. x), (λ x. x), (λ x. x), λ x. x) in
    let keeps = rater.laws c.args.rater.now in
    let laws = amount.laws in
    let has = g.R.Rater.has_rules c.args.rater.now in
    let rates = g.R.Rater.rates_of c.args.rater.now in
    let low = c.args.rows.low in
    let high = c.args.rows.high in
    let before = c.args.tally.now in
    let bars = c.args.bars.now in
    let count = c.args.count in
    let now = c.args.now.now in
    let under = c.args.under.now in
    let top = c.args.top.now in
    let places = c.args.places.now in
    let f = λ (k : ℕ) (q : Key). parts_added V.adding (slot_width places k) (left rates low high (state_at bars count now under top k)) q in
    let of_f : (k : ℕ) (q : Key) → V.sound (f k q).value ≡ true = left_are_sound V.adding V.fits V.sound laws has rates keeps low high bars count now under top (slot_width places) c.requires.rules in
    let counted : slot_count places ≡ count = let size = c.requires.places.size in omega arith in
    let k = c.loop-slot.slot in
    let less = c.loop-slot-test.true in
    let n = c.width-columns.result in
    let is : (q : Key) → f k q ≡ parts_added V.adding n (left rates low high (state_at bars count now under top k)) q = λ q. ap (λ (m : ℕ). parts_added V.adding m (left rates low high (state_at bars count now under top k)) q) (sym c.width-columns.ensures.is) in
    let reached = c.loop-slot.tally in
    let after = c.finish_slot.new.tally in
    enters_total V.adding V.fits V.sound laws before reached after f k c.requires.tally of_f c.loop-slot.invariant
    (enters_same V.adding V.sound reached after (parts_added V.adding n (left rates low high (state_at bars count now under top k))) (f k) c.in_ok-finish_slot.ensures is)

pub returns : goal.returns
unfolding left_added
returns g c =
    let V = g.R.Value.Amount in
    let rater = g.met.R.Rater g.world.𝓛 g.world.𝓜 g.world.𝓡 ((λ s x. x), (λ x. x), (λ x. x), λ x. x) in
    let amount = g.met.R.Value.Amount g.world.𝓛 g.world.𝓜 g.world.𝓡 ((λ s x. x), (λ x. x), (λ x. x), λ x. x) in
    let keeps = rater.laws c.args.rater.now in
    let laws = amount.laws in
    let has = g.R.Rater.has_rules c.args.rater.now in
    let rates = g.R.Rater.rates_of c.args.rater.now in
    let low = c.args.rows.low in
    let high = c.args.rows.high in
    let before = c.args.tally.now in
    let bars = c.args.bars.now in
    let count = c.args.count in
    let now = c.args.now.now in
    let under = c.args.under.now in
    let top = c.args.top.now in
    let places = c.args.places.now in
    let f = λ (k : ℕ) (q : Key). parts_added V.adding (slot_width places k) (left rates low high (state_at bars count now under top k)) q in
    let of_f : (k : ℕ) (q : Key) → V.sound (f k q).value ≡ true = left_are_sound V.adding V.fits V.sound laws has rates keeps low high bars count now under top (slot_width places) c.requires.rules in
    let counted : slot_count places ≡ count = let size = c.requires.places.size in omega arith in
    let k = c.loop-slot.slot in
    let at_end : slot_count places ≡ k = let past = c.loop-slot-test.false in let end = c.loop-slot.auto.slot-end in omega (arith, counted) in
    let reached = c.loop-slot.tally in
    enters_same V.adding V.sound before reached (λ q. total (sums V.adding) k (λ j. f j q)) (λ q. total (sums V.adding) (slot_count places) (λ j. f j q)) c.loop-slot.invariant
    (λ q. ap (λ (m : ℕ). total (sums V.adding) m (λ j. f j q)) at_end)
