use Rattle.std.proofs.Common.{◌≡◌, ◌<◌, ◌≤◌, ◌+◌, ◌-◌, ◌*◌, ℕ, inl, inr, Option, Some, ◌++◌, true, length, refl, ap, sym, ◌∙◌, arith}
use Rattle.std.specs.Prelude.{slice_get, slice_index, slice_index_or}
use Rattle.std.proofs.lemmas.List.{get_or_default}
use Rattle.std.proofs.lemmas.Nat.{mul-add-lt}
use Rattle.rc_geom.specs.declared.key.Key.{Key}
use Rattle.rc_geom.specs.Sums.{total}
use Rattle.rc_tally.specs.Tallies.{sums, sum_sound}
use Rattle.rc_sums.proofs.Sums.{sums_are_amounts}
use Rattle.rc_sums.proofs.Enters.{enters_none, enters_same, room_same}
use Rattle.rc_bars.specs.declared.bar.Bar.{Bar}
use Rattle.rc_bars.specs.Adds.{parts_added, waiting_parts}
use Rattle.rc_bars.specs.Cells.{state_at}
use Rattle.rc_bars.specs.Columns.{low_parts}
use Rattle.rc_bars.specs.Ends.{IsNearBar}
use Rattle.rc_bars.specs.Events.Event.{Look}
use Rattle.rc_bars.specs.Masks.{layers_of}
use Rattle.rc_bars.specs.Slots.{slot_count, slot_width}
use Rattle.rc_bars.specs.Sweeps.{slot_part, event_added}
use Rattle.rc_bars.proofs.Alike.{places_rise, run_parts, pair_sound, enters_some, room_for_some}
use Rattle.rc_bars.proofs.Looks.{bar_all, none_before, none_behind, part_sound, no_part, look_part}
use Rattle.rc_bars.proofs.look.look.Goals as goal

pub loop-k-init : goal.loop-k-init
loop-k-init g c =
    let V = g.R.Value.Amount in
    let rater = g.met.R.Rater g.world.𝓛 g.world.𝓜 g.world.𝓡 ((λ s x. x), (λ x. x), (λ x. x), λ x. x) in
    let amount = g.met.R.Value.Amount g.world.𝓛 g.world.𝓜 g.world.𝓡 ((λ s x. x), (λ x. x), (λ x. x), λ x. x) in
    let keeps = rater.laws c.args.rater.now in
    let laws = amount.laws in
    let has = g.R.Rater.has_rules c.args.rater.now in
    let rates = g.R.Rater.rates_of c.args.rater.now in
    let low = c.args.rows.low in
    let high = c.args.rows.high in
    let before = c.args.tally.now in
    let places = c.args.places.now in
    let bars = c.args.bars.now in
    let b = c.args.bar.now in
    let count = c.args.count in
    let now = c.args.now.now in
    let under = c.args.under.now in
    let top = c.args.top.now in
    let s = state_at bars count now under top in
    let span = c.requires.span in
    let f = λ (k : ℕ) (q : Key). slot_part V.adding rates low high places s (Look b) k q in
    let of_f : (k : ℕ) (q : Key) → V.sound (f k q).value ≡ true = part_sound V.adding V.fits V.sound laws has rates keeps low high places bars count now under top (Look b) c.requires.rules c.requires.own_rules in
    let additive = (sums_are_amounts V.adding V.fits V.sound laws).additive in
    let counted : slot_count places ≡ count = let size = c.requires.places.size in omega arith in
    record {
      from = omega arith;
      to = span.order;
      enters = enters_none V.adding V.fits V.sound laws before (λ q. total (sums V.adding) c.args.span.from (λ k. f k q)) c.requires.tally
          (λ q. none_before (sums V.adding) (sum_sound V.sound) additive c.args.span.from (λ k. f k q) (λ k small. let order = span.order in let within = span.within in no_part V.adding rates low high places s (Look b) k q (span.outside k (omega arith) (inl small))));
    }

pub width_to-columns-requires-clause-order : goal.width_to-columns-requires-clause-order
width_to-columns-requires-clause-order g c =
    let inv = c.loop-k.invariant in
    let within = c.requires.span.within in
    let behind = c.alike_to-next.ensures.behind in
    let up_to = c.alike_to-next.ensures.within in
    let size = c.requires.places.size in
    places_rise c.args.places.now c.args.count c.loop-k.k c.alike_to-next.result c.requires.places behind (omega arith)

pub enter_pair-requires-clause-top_layer : goal.enter_pair-requires-clause-top_layer
enter_pair-requires-clause-top_layer g c = λ _ _. bar_all (λ (p : Bar). p.layer < 32) c.args.bars.now _ c.bar_at-last.result c.requires.layers c.bar_at-last.ensures

pub enter_pair-requires-clause-top_rules : goal.enter_pair-requires-clause-top_rules
enter_pair-requires-clause-top_rules g c = λ _ _. bar_all (λ (p : Bar). g.R.Rater.has_rules c.args.rater.now p.layer) c.args.bars.now _ c.bar_at-last.result c.requires.rules c.bar_at-last.ensures

pub enter_pair-requires-clause-top : goal.enter_pair-requires-clause-top
enter_pair-requires-clause-top g c = λ _ _. bar_all IsNearBar c.args.bars.now _ c.bar_at-last.result c.requires.near c.bar_at-last.ensures

pub enter_pair-requires-clause-room : goal.enter_pair-requires-clause-room
unfolding event_added
enter_pair-requires-clause-room g c = λ _ _.
    let V = g.R.Value.Amount in
    let rater = g.met.R.Rater g.world.𝓛 g.world.𝓜 g.world.𝓡 ((λ s x. x), (λ x. x), (λ x. x), λ x. x) in
    let amount = g.met.R.Value.Amount g.world.𝓛 g.world.𝓜 g.world.𝓡 ((λ s x. x), (λ x. x), (λ x. x), λ x. x) in
    let keeps = rater.laws c.args.rater.now in
    let laws = amount.laws in
    let has = g.R.Rater.has_rules c.args.rater.now in
    let rates = g.R.Rater.rates_of c.args.rater.now in
    let low = c.args.rows.low in
    let high = c.args.rows.high in
    let before = c.args.tally.now in
    let places = c.args.places.now in
    let bars = c.args.bars.now in
    let b = c.args.bar.now in
    let count = c.args.count in
    let now = c.args.now.now in
    let under = c.args.under.now in
    let top = c.args.top.now in
    let s = state_at bars count now under top in
    let span = c.requires.span in
    let f = λ (k : ℕ) (q : Key). slot_part V.adding rates low high places s (Look b) k q in
    let of_f : (k : ℕ) (q : Key) → V.sound (f k q).value ≡ true = part_sound V.adding V.fits V.sound laws has rates keeps low high places bars count now under top (Look b) c.requires.rules c.requires.own_rules in
    let additive = (sums_are_amounts V.adding V.fits V.sound laws).additive in
    let counted : slot_count places ≡ count = let size = c.requires.places.size in omega arith in
    let k = c.loop-k.k in
    let next = c.alike_to-next.result in
    let inv = c.loop-k.invariant in
    let within = span.within in
    let from = inv.from in
    let behind = c.alike_to-next.ensures.behind in
    let up_to = c.alike_to-next.ensures.within in
    let less : k < count = omega arith in
    let small_cell : (j : ℕ) → j < count → b.layer * count + j < length top = λ j small. let cell = mul-add-lt b.layer count j 32 c.requires.layer small in let tops = c.requires.cells.tops in omega (arith, cell) in
    let at = λ (j : ℕ). slice_get bars (slice_index_or top (b.layer * count + j) (length bars)) in
    let last = c.bar_at-last.result in
    let parts_of = λ (u n : ℕ) (o : Option Bar). waiting_parts rates low high (layers_of u) o (Some b) ++ low_parts rates low high (layers_of n) o b in
    let parts = parts_of (slice_index under (b.layer * count + k)) (slice_index now k) last in
    let columns = c.width_to-columns.result in
    let each : (q : Key) (j : ℕ) → k ≤ j → j < next → f j q ≡ parts_added V.adding (slot_width places j) parts q = λ q j above below.
    let small : j < count = omega arith in
    let top_j : slice_index_or top (b.layer * count + j) (length bars) ≡ slice_index top (b.layer * count + k) = get_or_default top (b.layer * count + j) (length bars) 0 (small_cell j small) ∙ c.alike_to-next.ensures.top j above below in
    let last_j : at j ≡ last = ap (slice_get bars) top_j ∙ sym c.bar_at-last.ensures in
    look_part V.adding rates low high places bars count now under top b j (slot_width places j) (at j) q (span.inside j (omega arith) (omega arith)) refl refl
    ∙ (ap (λ (u : ℕ). parts_added V.adding (slot_width places j) (parts_of u (slice_index now j) (at j)) q) (c.alike_to-next.ensures.under j above below)
    ∙ (ap (λ (n : ℕ). parts_added V.adding (slot_width places j) (parts_of (slice_index under (b.layer * count + k)) n (at j)) q) (c.alike_to-next.ensures.now j above below)
    ∙ ap (λ (o : Option Bar). parts_added V.adding (slot_width places j) (parts_of (slice_index under (b.layer * count + k)) (slice_index now k) o) q) last_j)) in
    let of_parts = pair_sound V.adding V.sound has rates keeps low high (layers_of (slice_index now k)) (layers_of (slice_index under (b.layer * count + k))) last b (bar_all (λ (p : Bar). has p.layer) bars _ last c.requires.rules c.bar_at-last.ensures) c.requires.own_rules in
    let is : (q : Key) → total (sums V.adding) (next - k) (λ j. f (k + j) q) ≡ parts_added V.adding columns parts q = λ q.
    run_parts V.adding V.fits V.sound laws places count k next columns f parts q of_parts c.requires.places (omega arith) (omega arith) c.width_to-columns.ensures.is (each q) in
    let reached = c.loop-k.tally in
    room_same V.adding V.fits V.sound reached (λ q. total (sums V.adding) (next - k) (λ j. f (k + j) q)) (parts_added V.adding columns parts)
    (room_for_some V.adding V.fits V.sound laws before reached f k next (slot_count places) (omega arith) (omega (arith, counted)) c.requires.tally of_f c.requires.room inv.enters)
    (λ q. sym (is q))

pub loop-k-preserved : goal.loop-k-preserved
loop-k-preserved g c =
    let V = g.R.Value.Amount in
    let rater = g.met.R.Rater g.world.𝓛 g.world.𝓜 g.world.𝓡 ((λ s x. x), (λ x. x), (λ x. x), λ x. x) in
    let amount = g.met.R.Value.Amount g.world.𝓛 g.world.𝓜 g.world.𝓡 ((λ s x. x), (λ x. x), (λ x. x), λ x. x) in
    let keeps = rater.laws c.args.rater.now in
    let laws = amount.laws in
    let has = g.R.Rater.has_rules c.args.rater.now in
    let rates = g.R.Rater.rates_of c.args.rater.now in
    let low = c.args.rows.low in
    let high = c.args.rows.high in
    let before = c.args.tally.now in
    let places = c.args.places.now in
    let bars = c.args.bars.now in
    let b = c.args.bar.now in
    let count = c.args.count in
    let now = c.args.now.now in
    let under = c.args.under.now in
    let top = c.args.top.now in
    let s = state_at bars count now under top in
    let span = c.requires.span in
    let f = λ (k : ℕ) (q : Key). slot_part V.adding rates low high places s (Look b) k q in
    let of_f : (k : ℕ) (q : Key) → V.sound (f k q).value ≡ true = part_sound V.adding V.fits V.sound laws has rates keeps low high places bars count now under top (Look b) c.requires.rules c.requires.own_rules in
    let additive = (sums_are_amounts V.adding V.fits V.sound laws).additive in
    let counted : slot_count places ≡ count = let size = c.requires.places.size in omega arith in
    let k = c.loop-k.k in
    let next = c.alike_to-next.result in
    let inv = c.loop-k.invariant in
    let within = span.within in
    let from = inv.from in
    let behind = c.alike_to-next.ensures.behind in
    let up_to = c.alike_to-next.ensures.within in
    let less : k < count = omega arith in
    let small_cell : (j : ℕ) → j < count → b.layer * count + j < length top = λ j small. let cell = mul-add-lt b.layer count j 32 c.requires.layer small in let tops = c.requires.cells.tops in omega (arith, cell) in
    let at = λ (j : ℕ). slice_get bars (slice_index_or top (b.layer * count + j) (length bars)) in
    let last = c.bar_at-last.result in
    let parts_of = λ (u n : ℕ) (o : Option Bar). waiting_parts rates low high (layers_of u) o (Some b) ++ low_parts rates low high (layers_of n) o b in
    let parts = parts_of (slice_index under (b.layer * count + k)) (slice_index now k) last in
    let columns = c.width_to-columns.result in
    let each : (q : Key) (j : ℕ) → k ≤ j → j < next → f j q ≡ parts_added V.adding (slot_width places j) parts q = λ q j above below.
    let small : j < count = omega arith in
    let top_j : slice_index_or top (b.layer * count + j) (length bars) ≡ slice_index top (b.layer * count + k) = get_or_default top (b.layer * count + j) (length bars) 0 (small_cell j small) ∙ c.alike_to-next.ensures.top j above below in
    let last_j : at j ≡ last = ap (slice_get bars) top_j ∙ sym c.bar_at-last.ensures in
    look_part V.adding rates low high places bars count now under top b j (slot_width places j) (at j) q (span.inside j (omega arith) (omega arith)) refl refl
    ∙ (ap (λ (u : ℕ). parts_added V.adding (slot_width places j) (parts_of u (slice_index now j) (at j)) q) (c.alike_to-next.ensures.under j above below)
    ∙ (ap (λ (n : ℕ). parts_added V.adding (slot_width places j) (parts_of (slice_index under (b.layer * count + k)) n (at j)) q) (c.alike_to-next.ensures.now j above below)
    ∙ ap (λ (o : Option Bar). parts_added V.adding (slot_width places j) (parts_of (slice_index under (b.layer * count + k)) (slice_index now k) o) q) last_j)) in
    let of_parts = pair_sound V.adding V.sound has rates keeps low high (layers_of (slice_index now k)) (layers_of (slice_index under (b.layer * count + k))) last b (bar_all (λ (p : Bar). has p.layer) bars _ last c.requires.rules c.bar_at-last.ensures) c.requires.own_rules in
    let is : (q : Key) → total (sums V.adding) (next - k) (λ j. f (k + j) q) ≡ parts_added V.adding columns parts q = λ q.
    run_parts V.adding V.fits V.sound laws places count k next columns f parts q of_parts c.requires.places (omega arith) (omega arith) c.width_to-columns.ensures.is (each q) in
    let reached = c.loop-k.tally in
    let after = c.enter_pair.new.tally in
    record {
      from = omega arith;
      to = up_to;
      enters = enters_some V.adding V.fits V.sound laws before reached after f k next (omega arith) c.requires.tally of_f inv.enters
          (enters_same V.adding V.sound reached after (parts_added V.adding columns parts) (λ q. total (sums V.adding) (next - k) (λ j. f (k + j) q)) c.in_ok-enter_pair.ensures is);
    }

pub returns : goal.returns
unfolding event_added
returns g c =
    let V = g.R.Value.Amount in
    let rater = g.met.R.Rater g.world.𝓛 g.world.𝓜 g.world.𝓡 ((λ s x. x), (λ x. x), (λ x. x), λ x. x) in
    let amount = g.met.R.Value.Amount g.world.𝓛 g.world.𝓜 g.world.𝓡 ((λ s x. x), (λ x. x), (λ x. x), λ x. x) in
    let keeps = rater.laws c.args.rater.now in
    let laws = amount.laws in
    let has = g.R.Rater.has_rules c.args.rater.now in
    let rates = g.R.Rater.rates_of c.args.rater.now in
    let low = c.args.rows.low in
    let high = c.args.rows.high in
    let before = c.args.tally.now in
    let places = c.args.places.now in
    let bars = c.args.bars.now in
    let b = c.args.bar.now in
    let count = c.args.count in
    let now = c.args.now.now in
    let under = c.args.under.now in
    let top = c.args.top.now in
    let s = state_at bars count now under top in
    let span = c.requires.span in
    let f = λ (k : ℕ) (q : Key). slot_part V.adding rates low high places s (Look b) k q in
    let of_f : (k : ℕ) (q : Key) → V.sound (f k q).value ≡ true = part_sound V.adding V.fits V.sound laws has rates keeps low high places bars count now under top (Look b) c.requires.rules c.requires.own_rules in
    let additive = (sums_are_amounts V.adding V.fits V.sound laws).additive in
    let counted : slot_count places ≡ count = let size = c.requires.places.size in omega arith in
    let k = c.loop-k.k in
    let inv = c.loop-k.invariant in
    let order = span.order in
    let within = span.within in
    let at_end : k ≡ c.args.span.to = let past = c.loop-k-test.false in let end = inv.to in omega arith in
    let reached = c.loop-k.tally in
    enters_same V.adding V.sound before reached (λ q. total (sums V.adding) k (λ j. f j q)) (λ q. total (sums V.adding) (slot_count places) (λ j. f j q)) inv.enters
    (λ q. none_behind (sums V.adding) (sum_sound V.sound) additive k (slot_count places) (λ j. f j q) (λ j. of_f j q) (omega (arith, counted, at_end))
    (λ j past small. no_part V.adding rates low high places s (Look b) j q (span.outside j (omega (arith, counted)) (inr (omega (arith, at_end))))))
