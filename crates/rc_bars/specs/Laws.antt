-- What holds of the sweep over bars. The law is the contract of a function of src/laws.rt.
use Rattle.std.specs.Prelude.{◌≡◌, ℕ, ℤ, Bool, true, List, Option, All, Contains, length, take, slice_index_or}
use Rattle.rc_geom.specs.declared.key.Key.{Key}
use Rattle.rc_geom.specs.Plane.{Plane}
use Rattle.rc_geom.specs.Context.{layer_count}
use Rattle.rc_geom.specs.Rates.{Rates}
use Rattle.rc_geom.specs.Parts.{worth_at}
use Rattle.rc_geom.specs.Sums.{Adding, IsAdditive, total}
use Rattle.rc_geom.specs.Laws.{AmountsAreSound}
use Rattle.rc_tally.specs.Tallies.{sums}
use Rattle.rc_sums.specs.Entering.{one}
use Rattle.rc_sums.specs.Worths.{column_added, columns_added}
use Rattle.rc_bars.specs.declared.bar.Bar.{Bar}
use Rattle.rc_bars.specs.Bars.{StandFor, StandForColumns, IsOver}
use Rattle.rc_bars.specs.Events.{Event, bar_of, AreEvents, AreAllEvents}
use Rattle.rc_bars.specs.Columns.{column_parts}
use Rattle.rc_bars.specs.Slots.{AreSlots, slots_added}
use Rattle.rc_bars.specs.Sweeps.{states_after, event_added, left_added}

-- the rates of a layer have a sound worth
pub record IsSoundLayer {V W : Type 0} (sound : W → Bool) (worth : V → W) (rates : Rates V) (layer : ℕ) : Type 0 where
  pub own : (under over : Option ℕ) (thick : ℕ) (gap : Option ℕ) → sound (worth (rates.rate layer under over thick gap).0) ≡ true
  pub share : (under over : Option ℕ) (thick : ℕ) (gap : Option ℕ) → sound (worth (rates.rate layer under over thick gap).1) ≡ true

-- where bars stand for a column, what their events add is, for each key, what the faces of the column add, square by
-- square, whose squares lie from low to below high
abbrev pub ColumnsAreSwept : Type 0 → Type 0 → Type 0
ColumnsAreSwept V W =
    (adding : Adding W) (sound : W → Bool) (worth : V → W) (plane : Plane) (rates : Rates V) (axis : ℕ) (at low high : ℤ) →
    (bars : List Bar) (events : List Event) (key : Key) →
    IsAdditive adding sound → ((b : Bar) → IsOver bars at b → IsSoundLayer sound worth rates b.layer) →
    StandFor plane axis at (IsOver bars at) → AreEvents low high (IsOver bars at) events →
    worth_at adding worth key (column_parts rates low high events)
    ≡ column_added adding worth plane rates axis at low high layer_count key

-- where bars stand for columns, and slots part these at the bars' ends, what the slots add is, for each key, what the
-- columns add
abbrev pub SlotsAreSwept : Type 0 → Type 0
SlotsAreSwept V =
    (adding : Adding V) (sound : V → Bool) (plane : Plane) (rates : Rates V) (axis : ℕ) (first end low high : ℤ) →
    (bars : List Bar) (places : List ℤ) (events : List Event) (key : Key) →
    IsAdditive adding sound → AmountsAreSound sound (λ v. v) plane rates →
    ((b : Bar) → Contains bars b → IsSoundLayer sound (λ v. v) rates b.layer) →
    StandForColumns plane axis first end bars → AreSlots first end bars places → AreAllEvents low high bars events →
    slots_added adding rates low high places events key
    ≡ columns_added (sums adding) one plane rates axis first end low high key

-- what the slots add is what the events add, one after another, and what is added in the end
abbrev pub EventsAddSlots : Type 0 → Type 0
EventsAddSlots V =
    (adding : Adding V) (sound : V → Bool) (rates : Rates V) (low high : ℤ) (places : List ℤ) (events : List Event) (d : Event) (key : Key) →
    IsAdditive adding sound → All (λ e. IsSoundLayer sound (λ v. v) rates (bar_of e).layer) events →
    slots_added adding rates low high places events key
    ≡ (sums adding).plus
    (total (sums adding) (length events) (λ i. event_added adding rates low high places (states_after places (take i events)) (slice_index_or events i d) key))
    (left_added adding rates low high places (states_after places events) key)
