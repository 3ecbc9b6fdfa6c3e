-- Tiles that make a plane, and windows that the rows sweep.
use Rattle.std.specs.Prelude.{◌≡◌, ◌≢◌, ◌<◌, ◌^◌, ◌-ℤ◌, ◌≤ℤ◌, pos, ℕ, List, All, AllPairs}
use Rattle.rc_geom.specs.declared.rect.Rect.{Rect}
use Rattle.rc_geom.specs.declared.tile.Tile.{Tile}
use Rattle.rc_geom.specs.Rects.{IsNearRect}
use Rattle.rc_geom.specs.Context.{layer_count}
use Rattle.rc_geom.specs.Plane.{Overlaps}
use Rattle.rc_tally.specs.declared.entry.Entry.{Entry}

-- a tile of one of the 32 layers, near 0
pub record IsTile (t : Tile) : Type 0 where
  pub near : IsNearRect t.rect
  pub layer : t.layer < layer_count

-- two tiles lie apart, or they are of one net and differ in rank
pub record Agree (a b : Tile) : Type 0 where
  pub ranks : a.net ≡ b.net → Overlaps a b → a.rank ≢ b.rank
  pub apart : a.net ≢ b.net → ¬ Overlaps a b

-- tiles that make a plane
pub record IsScene (tiles : List Tile) : Type 0 where
  pub each : All IsTile tiles
  pub pairs : AllPairs Agree tiles

-- a window of at most 2^14 by 2^14 unit squares
pub record IsWindow (r : Rect) : Type 0 where
  pub near : IsNearRect r
  pub wide : (r.x1 -ℤ r.x0) ≤ℤ pos (2 ^ 14)
  pub high : (r.y1 -ℤ r.y0) ≤ℤ pos (2 ^ 14)

-- sums of which two fit together
pub record IsSmall (e : Entry ℕ) : Type 0 where
  pub count : e.count < 2 ^ 60
  pub value : e.value < 2 ^ 120
