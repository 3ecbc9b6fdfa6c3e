-- What sweeping many windows takes and gives.
use Rattle.std.specs.Prelude.{◌≡◌, ◌<◌, ◌≤◌, ◌+◌, ◌-◌, ◌^◌, ℕ, Bool, true, List, [], All, IfSome, Result, Ok, Err, Vec, length, slice_index_or}
use Rattle.rc_geom.specs.declared.key.Key.{Key}
use Rattle.rc_geom.specs.declared.tile.Tile.{Tile}
use Rattle.rc_geom.specs.Rects.{IsNearRect}
use Rattle.rc_geom.specs.Plane.{plane_of, NetsApart, RanksDiffer}
use Rattle.rc_geom.specs.Context.{layer_count}
use Rattle.rc_geom.specs.Rates.{Rates}
use Rattle.rc_geom.specs.Sums.{Adding}
use Rattle.rc_geom.specs.Extraction.{value_in, key_count, key_value}
use Rattle.rc_tally.specs.declared.entry.Entry.{Entry}
use Rattle.rc_tally.specs.Tallies.{sum_at, entry_at}
use Rattle.rc_sweep.specs.declared.window.Window.{Window}

-- tiles that can be swept: those of different nets share no square, those of a net that overlap differ in rank, and each lies
-- near 0 on a layer with rules
pub record AreSweepable (has_rules : ℕ → Type 0) (tiles : List Tile) : Type 0 where
  pub near : All (λ (t : Tile). IsNearRect t.rect) tiles
  pub layers : All (λ (t : Tile). t.layer < layer_count) tiles
  pub ranks : RanksDiffer tiles
  pub apart : NetsApart tiles
  pub rules : All (λ (t : Tile). has_rules t.layer) tiles

-- both axes of a window can be swept: tiles of different nets share no square, those of a net that overlap differ in rank,
-- each lies near 0 on a layer with rules, and so does the window; and the sums of each axis fit, and those of both
pub record CanSweepBoth {V : Type 0} (adding : Adding V) (fits : V → Bool) (has_rules : ℕ → Type 0) (rates : Rates V) (window : Window) (tiles : List Tile) : Type 0 where
  pub near : All (λ (t : Tile). IsNearRect t.rect) tiles
  pub layers : All (λ (t : Tile). t.layer < layer_count) tiles
  pub ranks : RanksDiffer tiles
  pub apart : NetsApart tiles
  pub rules : All (λ (t : Tile). has_rules t.layer) tiles
  pub window_near : IsNearRect window.rect
  pub counts : (key : Key) → key_count (plane_of tiles) rates window.rect key < 2 ^ 64
  pub rows : (key : Key) → fits (value_in adding (plane_of tiles) rates 0 window.rect key) ≡ true
  pub columns : (key : Key) → fits (value_in adding (plane_of tiles) rates 1 window.rect key) ≡ true
  pub values : (key : Key) → fits (key_value adding (plane_of tiles) rates window.rect key) ≡ true

-- each window can, with its list of tiles
abbrev pub CanSweepAll : {V : Type 0} → Adding V → (V → Bool) → (ℕ → Type 0) → Rates V → List Window → List (List Tile) → Type 0
CanSweepAll adding fits has_rules rates windows lists =
    (i : ℕ) (w : Window) (ts : List Tile) → i < length windows →
    CanSweepBoth adding fits has_rules rates (slice_index_or windows i w) (slice_index_or lists i ts)

-- a tally is what the faces of both axes of a window add up to, in the plane of its tiles; an entry has at least one part
pub record IsTallyOf {V : Type 0} (adding : Adding V) (rates : Rates V) (window : Window) (tiles : List Tile) (tally : List (Entry V)) : Type 0 where
  pub count : (key : Key) → (sum_at adding tally key).count ≡ key_count (plane_of tiles) rates window.rect key
  pub value : (key : Key) → (sum_at adding tally key).value ≡ key_value adding (plane_of tiles) rates window.rect key
  pub some : (key : Key) → IfSome (entry_at tally key) (λ e. 1 ≤ e.count)

-- there is one for each window, in their order
pub record AreTalliesOf {V : Type 0} (adding : Adding V) (rates : Rates V) (windows : List Window) (lists : List (List Tile)) (tallies : List (List (Entry V))) : Type 0 where
  pub count : length tallies ≡ length windows
  pub each : (i : ℕ) (w : Window) (ts : List Tile) (t : List (Entry V)) → i < length windows →
      IsTallyOf adding rates (slice_index_or windows i w) (slice_index_or lists i ts) (slice_index_or tallies i t)

-- they are those of the windows from one to below another
pub record AreTalliesFrom {V : Type 0} (adding : Adding V) (rates : Rates V) (windows : List Window) (lists : List (List Tile)) (from to : ℕ) (tallies : List (List (Entry V))) : Type 0 where
  pub count : length tallies ≡ to - from
  pub each : (i : ℕ) (w : Window) (ts : List Tile) (t : List (Entry V)) → i < to - from →
      IsTallyOf adding rates (slice_index_or windows (from + i) w) (slice_index_or lists (from + i) ts) (slice_index_or tallies i t)

-- the tallies of a piece that was done
abbrev pub tallies_of : {V A E : Type 0} → Result (Vec (List (Entry V)) A) E → List (List (Entry V))
tallies_of (Ok tallies) = tallies.items
tallies_of (Err _) = []
