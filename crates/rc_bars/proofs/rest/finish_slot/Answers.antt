use Rattle.std.proofs.Common.{◌≡◌, ◌<◌, ◌+◌, ◌*◌, ℕ, None, true, length, ap, sym, ◌∙◌, arith}
use Rattle.std.specs.Prelude.{slice_get, slice_index}
use Rattle.std.proofs.lemmas.List.{get_or_default}
use Rattle.std.proofs.lemmas.Nat.{mul-add-lt}
use Rattle.rc_geom.specs.declared.key.Key.{Key}
use Rattle.rc_geom.specs.Context.{layer_count}
use Rattle.rc_geom.specs.Sums.{total}
use Rattle.rc_geom.proofs.Totals.{total_none}
use Rattle.rc_tally.specs.Tallies.{sums}
use Rattle.rc_sums.proofs.Enters.{enters_none, enters_same, room_same}
use Rattle.rc_sums.proofs.Loops.{room_in_total, enters_total}
use Rattle.rc_bars.specs.declared.bar.Bar.{Bar}
use Rattle.rc_bars.specs.Adds.{parts_added, waiting_parts}
use Rattle.rc_bars.specs.Cells.{state_at}
use Rattle.rc_bars.specs.Columns.{waiting, left}
use Rattle.rc_bars.specs.Ends.{IsNearBar}
use Rattle.rc_bars.specs.Masks.{layers_of}
use Rattle.rc_bars.proofs.Looks.{bar_all}
use Rattle.rc_bars.proofs.Rests.{waits_sound, left_is}
use Rattle.rc_bars.proofs.rest.finish_slot.Goals as goal

pub loop-layer-init : goal.loop-layer-init
loop-layer-init g c =
    let V = g.R.Value.Amount in
    let rater = g.met.R.Rater g.world.𝓛 g.world.𝓜 g.world.𝓡 ((λ s x. x), (λ x. x), (λ x. x), λ x. x) in
    let amount = g.met.R.Value.Amount g.world.𝓛 g.world.𝓜 g.world.𝓡 ((λ s x. x), (λ x. x), (λ x. x), λ x. x) in
    let keeps = rater.laws c.args.rater.now in
    let laws = amount.laws in
    let has = g.R.Rater.has_rules c.args.rater.now in
    let rates = g.R.Rater.rates_of c.args.rater.now in
    let low = c.args.rows.low in
    let high = c.args.rows.high in
    let before = c.args.tally.now in
    let bars = c.args.bars.now in
    let count = c.args.count in
    let now = c.args.now.now in
    let under = c.args.under.now in
    let top = c.args.top.now in
    let n = c.args.columns in
    let slot = c.args.slot in
    let s = state_at bars count now under top slot in
    let f = λ (i : ℕ) (q : Key). parts_added V.adding n (waiting rates low high s i None) q in
    let of_f : (i : ℕ) (q : Key) → V.sound (f i q).value ≡ true = waits_sound V.adding V.fits V.sound laws has rates keeps low high bars count now under top slot n c.requires.rules in
    let whole : (q : Key) → parts_added V.adding n (left rates low high s) q ≡ total (sums V.adding) layer_count (λ i. f i q) = left_is V.adding V.fits V.sound laws has rates keeps low high bars count now under top slot n c.requires.rules in
    enters_none V.adding V.fits V.sound laws before (λ q. total (sums V.adding) 0 (λ i. f i q)) c.requires.tally (λ q. total_none (sums V.adding) (λ i. f i q))

pub enter_waiting-requires-clause-layer : goal.enter_waiting-requires-clause-layer
enter_waiting-requires-clause-layer g c = λ _ _. bar_all (λ (p : Bar). p.layer < 32) c.args.bars.now _ c.bar_at-last.result c.requires.layers c.bar_at-last.ensures

pub enter_waiting-requires-clause-rules : goal.enter_waiting-requires-clause-rules
enter_waiting-requires-clause-rules g c = λ _ _. bar_all (λ (p : Bar). g.R.Rater.has_rules c.args.rater.now p.layer) c.args.bars.now _ c.bar_at-last.result c.requires.rules c.bar_at-last.ensures

pub enter_waiting-requires-clause-top : goal.enter_waiting-requires-clause-top
enter_waiting-requires-clause-top g c = λ _ _. bar_all IsNearBar c.args.bars.now _ c.bar_at-last.result c.requires.near c.bar_at-last.ensures

pub enter_waiting-requires-clause-room : goal.enter_waiting-requires-clause-room
enter_waiting-requires-clause-room g c = λ _ _.
    let V = g.R.Value.Amount in
    let rater = g.met.R.Rater g.world.𝓛 g.world.𝓜 g.world.𝓡 ((λ s x. x), (λ x. x), (λ x. x), λ x. x) in
    let amount = g.met.R.Value.Amount g.world.𝓛 g.world.𝓜 g.world.𝓡 ((λ s x. x), (λ x. x), (λ x. x), λ x. x) in
    let keeps = rater.laws c.args.rater.now in
    let laws = amount.laws in
    let has = g.R.Rater.has_rules c.args.rater.now in
    let rates = g.R.Rater.rates_of c.args.rater.now in
    let low = c.args.rows.low in
    let high = c.args.rows.high in
    let before = c.args.tally.now in
    let bars = c.args.bars.now in
    let count = c.args.count in
    let now = c.args.now.now in
    let under = c.args.under.now in
    let top = c.args.top.now in
    let n = c.args.columns in
    let slot = c.args.slot in
    let s = state_at bars count now under top slot in
    let f = λ (i : ℕ) (q : Key). parts_added V.adding n (waiting rates low high s i None) q in
    let of_f : (i : ℕ) (q : Key) → V.sound (f i q).value ≡ true = waits_sound V.adding V.fits V.sound laws has rates keeps low high bars count now under top slot n c.requires.rules in
    let whole : (q : Key) → parts_added V.adding n (left rates low high s) q ≡ total (sums V.adding) layer_count (λ i. f i q) = left_is V.adding V.fits V.sound laws has rates keeps low high bars count now under top slot n c.requires.rules in
    let i = c.loop-layer.layer in
    let less = c.loop-layer-test.true in
    let cell : i * count + slot < length top = let small = mul-add-lt i count slot 32 less c.requires.slot in let tops = c.requires.cells.tops in omega (arith, small) in
    let last = c.bar_at-last.result in
    let last_is = c.bar_at-last.ensures ∙ ap (slice_get bars) (get_or_default top (i * count + slot) 0 (length bars) cell) in
    let parts = waiting_parts rates low high (layers_of (slice_index under (i * count + slot))) last None in
    let is : (q : Key) → f i q ≡ parts_added V.adding n parts q = λ q. ap (λ o. parts_added V.adding n (waiting_parts rates low high (layers_of (slice_index under (i * count + slot))) o None) q) (sym last_is) in
    let reached = c.loop-layer.tally in
    room_same V.adding V.fits V.sound reached (f i) (parts_added V.adding n parts)
    (room_in_total V.adding V.fits V.sound laws before reached f i layer_count less c.requires.tally of_f
    (room_same V.adding V.fits V.sound before (parts_added V.adding n (left rates low high s)) (λ q. total (sums V.adding) layer_count (λ j. f j q)) c.requires.room (λ q. sym (whole q)))
    c.loop-layer.invariant)
    (λ q. sym (is q))

pub loop-layer-preserved : goal.loop-layer-preserved
loop-layer-preserved g c =
    let V = g.R.Value.Amount in
    let rater = g.met.R.Rater g.world.𝓛 g.world.𝓜 g.world.𝓡 ((λ s x. x), (λ x. x), (λ x. x), λ x. x) in
    let amount = g.met.R.Value.Amount g.world.𝓛 g.world.𝓜 g.world.𝓡 ((λ s x. x), (λ x. x), (λ x. x), λ x. x) in
    let keeps = rater.laws c.args.rater.now in
    let laws = amount.laws in
    let has = g.R.Rater.has_rules c.args.rater.now in
    let rates = g.R.Rater.rates_of c.args.rater.now in
    let low = c.args.rows.low in
    let high = c.args.rows.high in
    let before = c.args.tally.now in
    let bars = c.args.bars.now in
    let count = c.args.count in
    let now = c.args.now.now in
    let under = c.args.under.now in
    let top = c.args.top.now in
    let n = c.args.columns in
    let slot = c.args.slot in
    let s = state_at bars count now under top slot in
    let f = λ (i : ℕ) (q : Key). parts_added V.adding n (waiting rates low high s i None) q in
    let of_f : (i : ℕ) (q : Key) → V.sound (f i q).value ≡ true = waits_sound V.adding V.fits V.sound laws has rates keeps low high bars count now under top slot n c.requires.rules in
    let whole : (q : Key) → parts_added V.adding n (left rates low high s) q ≡ total (sums V.adding) layer_count (λ i. f i q) = left_is V.adding V.fits V.sound laws has rates keeps low high bars count now under top slot n c.requires.rules in
    let i = c.loop-layer.layer in
    let less = c.loop-layer-test.true in
    let cell : i * count + slot < length top = let small = mul-add-lt i count slot 32 less c.requires.slot in let tops = c.requires.cells.tops in omega (arith, small) in
    let last = c.bar_at-last.result in
    let last_is = c.bar_at-last.ensures ∙ ap (slice_get bars) (get_or_default top (i * count + slot) 0 (length bars) cell) in
    let parts = waiting_parts rates low high (layers_of (slice_index under (i * count + slot))) last None in
    let is : (q : Key) → f i q ≡ parts_added V.adding n parts q = λ q. ap (λ o. parts_added V.adding n (waiting_parts rates low high (layers_of (slice_index under (i * count + slot))) o None) q) (sym last_is) in
    let reached = c.loop-layer.tally in
    let after = c.enter_waiting.new.tally in
    enters_total V.adding V.fits V.sound laws before reached after f i c.requires.tally of_f c.loop-layer.invariant
    (enters_same V.adding V.sound reached after (parts_added V.adding n parts) (f i) c.in_ok-enter_waiting.ensures is)

pub returns : goal.returns
returns g c =
    let V = g.R.Value.Amount in
    let rater = g.met.R.Rater g.world.𝓛 g.world.𝓜 g.world.𝓡 ((λ s x. x), (λ x. x), (λ x. x), λ x. x) in
    let amount = g.met.R.Value.Amount g.world.𝓛 g.world.𝓜 g.world.𝓡 ((λ s x. x), (λ x. x), (λ x. x), λ x. x) in
    let keeps = rater.laws c.args.rater.now in
    let laws = amount.laws in
    let has = g.R.Rater.has_rules c.args.rater.now in
    let rates = g.R.Rater.rates_of c.args.rater.now in
    let low = c.args.rows.low in
    let high = c.args.rows.high in
    let before = c.args.tally.now in
    let bars = c.args.bars.now in
    let count = c.args.count in
    let now = c.args.now.now in
    let under = c.args.under.now in
    let top = c.args.top.now in
    let n = c.args.columns in
    let slot = c.args.slot in
    let s = state_at bars count now under top slot in
    let f = λ (i : ℕ) (q : Key). parts_added V.adding n (waiting rates low high s i None) q in
    let of_f : (i : ℕ) (q : Key) → V.sound (f i q).value ≡ true = waits_sound V.adding V.fits V.sound laws has rates keeps low high bars count now under top slot n c.requires.rules in
    let whole : (q : Key) → parts_added V.adding n (left rates low high s) q ≡ total (sums V.adding) layer_count (λ i. f i q) = left_is V.adding V.fits V.sound laws has rates keeps low high bars count now under top slot n c.requires.rules in
    let i = c.loop-layer.layer in
    let at_end : layer_count ≡ i = let past = c.loop-layer-test.false in let end = c.loop-layer.auto.layer-end in omega arith in
    let reached = c.loop-layer.tally in
    enters_same V.adding V.sound before reached (λ q. total (sums V.adding) i (λ j. f j q)) (parts_added V.adding n (left rates low high s)) c.loop-layer.invariant
    (λ q. whole q ∙ ap (λ (m : ℕ). total (sums V.adding) m (λ j. f j q)) at_end)
