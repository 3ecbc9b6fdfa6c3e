-- What holds of grids, windows and their sums. Each law is the contract of a function of src/laws.rt.
use Rattle.std.specs.Prelude.{◌≡◌, ◌<◌, ◌≤◌, ◌^◌, ◌++◌, ℕ, ℤ, Bool, true, nat_lt, List, All, Any, Contains, length}
use Rattle.std.specs.List.{sum_by}
use Rattle.rc_geom.specs.declared.rect.Pt.{Pt}
use Rattle.rc_geom.specs.declared.rect.Rect.{Rect}
use Rattle.rc_geom.specs.declared.tile.Tile.{Tile}
use Rattle.rc_geom.specs.declared.key.Key.{Key}
use Rattle.rc_geom.specs.Rects.{covers, IsNearRect}
use Rattle.rc_geom.specs.Plane.{plane_of}
use Rattle.rc_geom.specs.Rates.{Rates}
use Rattle.rc_geom.specs.Sums.{Adding, IsAdditive, numbers, total, square_sum}
use Rattle.rc_geom.specs.Line.{square_of}
use Rattle.rc_geom.specs.Extraction.{sum_in, parts_of}
use Rattle.rc_geom.specs.Laws.{AllSound, AmountsAreSound, HaloReaches, SameFace, IsOfNet}
use Rattle.rc_sweep.specs.declared.window.Window.{Window}
use Rattle.rc_windows.specs.declared.frame.Frame.{Frame}
use Rattle.rc_windows.specs.Frames.{window_count, window_rect, all_squares, touched}
use Rattle.rc_windows.specs.Indexes.{near_tiles, others_of, changed_list, most_places}
use Rattle.rc_windows.specs.Sweeps.{AreSweepable, CanSweepBoth}

-- the square lies in window k and in no other
pub record IsOnlyWindow (frame : Frame) (p : Pt) (k : ℕ) : Type 0 where
  pub in_grid : k < window_count frame
  pub covering : covers (window_rect frame k) p ≡ true
  pub only : (j : ℕ) → j < window_count frame → covers (window_rect frame j) p ≡ true → j ≡ k

-- every square with coordinates from -2^29 to 2^29 lies in exactly one window
abbrev pub WindowsPartSquares : Frame → Type 0
WindowsPartSquares frame = (p : Pt) → covers all_squares p ≡ true → (k : ℕ) × IsOnlyWindow frame p k

-- so the windows' sums add up to that of all squares, whatever is summed
abbrev pub WindowsAdd : Type 0 → Frame → Type 0
WindowsAdd V frame = (adding : Adding V) (sound : V → Bool) (axis : ℕ) (f : ℕ → ℤ → ℤ → Bool → V) →
    IsAdditive adding sound → AllSound sound f →
    total adding (window_count frame) (λ k. square_sum adding axis (window_rect frame k) f) ≡ square_sum adding axis all_squares f

-- each window's sum can be that of the plane of the tiles that matter to it
abbrev pub NearSumsAdd : Type 0 → Type 0 → Frame → Type 0
NearSumsAdd V W frame =
    (adding : Adding W) (sound : W → Bool) (worth : V → W) (tiles : List Tile) (rates : Rates V) (axis : ℕ) (key : Key) →
    IsAdditive adding sound → AmountsAreSound sound worth (plane_of tiles) rates →
    ((k : ℕ) → k < window_count frame → HaloReaches (plane_of tiles) rates (window_rect frame k) frame.halo) →
    total adding (window_count frame) (λ k. sum_in adding worth (plane_of (near_tiles frame tiles k)) rates axis (window_rect frame k) key)
    ≡ sum_in adding worth (plane_of tiles) rates axis all_squares key

-- each square of the net's tiles lies in one of the rectangles
abbrev pub LieIn : ℕ → List Rect → List Tile → Type 0
LieIn net rects tiles = All (λ (t : Tile). t.net ≡ net → (p : Pt) → covers t.rect p ≡ true → Any (λ r. covers r p ≡ true) rects) tiles

-- the tiles of other nets stay, and those of the net lie in its old and new rectangles
pub record IsEdit (net : ℕ) (old new : List Rect) (before after : List Tile) : Type 0 where
  pub others : others_of net after ≡ others_of net before
  pub old_in : LieIn net (old ++ new) before
  pub new_in : LieIn net (old ++ new) after

-- a window that isn't touched has the same list of tiles before and after
abbrev pub FarEditsKeepLists : Frame → Type 0
FarEditsKeepLists frame = (net : ℕ) (old new : List Rect) (before after : List Tile) (k : ℕ) →
    IsEdit net old new before after → k < window_count frame → (Contains (touched frame (old ++ new)) k → ⊥) →
    near_tiles frame after k ≡ near_tiles frame before k

-- and the same sums
abbrev pub FarEditsKeepSums : Type 0 → Type 0 → Frame → Type 0
FarEditsKeepSums V W frame =
    (adding : Adding W) (worth : V → W) (rates : Rates V) (net : ℕ) (old new : List Rect) (before after : List Tile) (k axis : ℕ) (key : Key) →
    IsEdit net old new before after → k < window_count frame → (Contains (touched frame (old ++ new)) k → ⊥) →
    HaloReaches (plane_of before) rates (window_rect frame k) frame.halo → HaloReaches (plane_of after) rates (window_rect frame k) frame.halo →
    sum_in adding worth (plane_of after) rates axis (window_rect frame k) key ≡ sum_in adding worth (plane_of before) rates axis (window_rect frame k) key

-- at a place of a line the face before and after an edit of a net is one, with the same thickness and sight, in the same
-- context and with the same parts; and no part has a key of the net
pub record IsFarFace {V : Type 0} (rates : Rates V) (net : ℕ) (before after : List Tile) (axis layer : ℕ) (at along : ℤ) (up : Bool) : Type 0 where
  pub same : SameFace (plane_of after) (plane_of before) rates axis layer at along up
  pub others : All (λ part. ¬ IsOfNet net part.key) (parts_of (plane_of before) rates axis layer at along up)

-- so are all faces of a window that isn't touched
abbrev pub FarEditsKeepFaces : Type 0 → Frame → Type 0
FarEditsKeepFaces V frame =
    (rates : Rates V) (net : ℕ) (old new : List Rect) (before after : List Tile) (k axis layer : ℕ) (at along : ℤ) (up : Bool) →
    IsEdit net old new before after → k < window_count frame → (Contains (touched frame (old ++ new)) k → ⊥) →
    HaloReaches (plane_of before) rates (window_rect frame k) frame.halo → HaloReaches (plane_of after) rates (window_rect frame k) frame.halo →
    covers (window_rect frame k) (square_of axis at along) ≡ true → IsFarFace rates net before after axis layer at along up

-- each tile stands in both lists as often: whatever is counted of tiles, both have as much of it
abbrev pub AreAlike : List Tile → List Tile → Type 0
AreAlike tiles others = (f : Tile → ℕ) → sum_by f tiles ≡ sum_by f others

-- where a window's list has each tile that matters to it once, and no other, so has its changed list after a net's tiles are
-- replaced
abbrev pub ChangesKeepIndexes : Frame → Type 0
ChangesKeepIndexes frame = (net k : ℕ) (before after tiles old : List Tile) →
    AreAlike old (near_tiles frame before k) → AreAlike after (others_of net before ++ tiles) →
    AreAlike (changed_list frame net tiles k old) (near_tiles frame after k)

-- of tiles that can be swept, those that matter to a window can
abbrev pub NearTilesAreSweepable : (ℕ → Type 0) → Frame → Type 0
NearTilesAreSweepable has_rules frame = (tiles : List Tile) (k : ℕ) →
    AreSweepable has_rules tiles → AreSweepable has_rules (near_tiles frame tiles k)

-- within the limits all sums fit: of at most so many tiles that can be swept, a key has fewer than 2^64 parts in a window near
-- 0, and they add up to less than 2^128
abbrev pub LimitsSuffice : (ℕ → Type 0) → Rates ℕ → Type 0
LimitsSuffice has_rules rates = (window : Window) (tiles : List Tile) →
    IsNearRect window.rect → length tiles ≤ most_places → AreSweepable has_rules tiles →
    CanSweepBoth numbers (λ v. nat_lt v (2 ^ 128)) has_rules rates window tiles
