-- No sum of a net overflows.
use Rattle.std.specs.Prelude.{◌≡◌, ◌<◌, ◌≤◌, ◌^◌, ℕ, List, Some, All, length, nat_lt, slice_get}
use Rattle.rc_geom.specs.declared.tile.Tile.{Tile}
use Rattle.rc_geom.specs.Plane.{plane_of}
use Rattle.rc_geom.specs.Sums.{numbers}
use Rattle.rc_tally.specs.declared.entry.Entry.{Entry}
use Rattle.rc_tally.specs.Tallies.{AllFit}
use Rattle.rc_rules.specs.RuleFile.{RuleFile, HasRules}
use Rattle.rc_layout.specs.declared.net.Net.{Net}
use Rattle.rc_layout.specs.Layouts.{Wired}
use Rattle.rc_layout.specs.Facts.{IsLayout}
use Rattle.rc_layout.specs.Metal.{all_nets}
use Rattle.rc_nodes.specs.LayoutPlane.{layout_plane}
use Rattle.rc_windows.specs.Sweeps.{AreSweepable}
use Rattle.rc_engine.specs.Brought.{owned}
use Rattle.rc_engine.specs.Extraction.{net_caps, total_of}
use Rattle.rc_engine.specs.OwnEntries.{HasNames}
use Rattle.rc_engine.specs.Totals.{AreTotals}
use Rattle.rc_engine.specs.Windows.{HasRatedItems}

-- what the capacitances of a net add up to stays below 2^128, whatever the layout, where each layer with metal has rules
abbrev pub TotalsFit : Type 0
TotalsFit = (wired : Wired) (rules : RuleFile) (number : ℕ) (net : Net) →
    All (HasRatedItems rules) (all_nets wired) → slice_get wired.nets number ≡ Some net →
    total_of (net_caps wired rules (number, net)) < 2 ^ 128

-- these tiles make the plane of the layout, can be swept, and are within the limit
pub record AreTilesOf (wired : Wired) (rules : RuleFile) (tiles : List Tile) : Type 0 where
  pub plane : plane_of tiles ≡ layout_plane wired
  pub sweepable : AreSweepable (HasRules rules) tiles
  pub few : length tiles ≤ 2 ^ 23

-- what a net has of the layout's sums fits: the entries of each key together have 64 bits for their count and 128 for their
-- value, and the nets of each key can be named
abbrev pub EntriesFit : Type 0
EntriesFit = (wired : Wired) (rules : RuleFile) (tiles : List Tile) (number : ℕ) (entries : List (Entry ℕ)) →
    IsLayout wired → AreTilesOf wired rules tiles → AreTotals wired rules entries →
    AllFit numbers (λ v. nat_lt v (2 ^ 128)) (owned number entries) × All (λ e. HasNames e.key) (owned number entries)
