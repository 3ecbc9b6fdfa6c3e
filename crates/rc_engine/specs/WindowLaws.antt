-- What holds of the tiles of a layout, of its windows and of their sums. Each law is the contract of a function of src/laws.rt.
use Rattle.std.specs.Prelude.{◌≡◌, ◌^◌, ℕ, nat_lt, List, All}
use Rattle.rc_geom.specs.Plane.{plane_of}
use Rattle.rc_geom.specs.Sums.{numbers}
use Rattle.rc_tally.specs.declared.entry.Entry.{Entry}
use Rattle.rc_tally.specs.Tallies.{IsRising}
use Rattle.rc_rules.specs.RuleFile.{RuleFile, HasRules}
use Rattle.rc_rules.specs.LookUp.{rates, halo_of}
use Rattle.rc_layout.specs.Layouts.{Wired}
use Rattle.rc_nodes.specs.LayoutPlane.{layout_plane}
use Rattle.rc_windows.specs.declared.frame.Frame.{Frame}
use Rattle.rc_windows.specs.Frames.{IsFrame}
use Rattle.rc_windows.specs.Indexes.{near_lists}
use Rattle.rc_windows.specs.Sweeps.{AreSweepable, CanSweepAll, AreTalliesOf}
use Rattle.rc_engine.specs.Brought.{entries_of}
use Rattle.rc_engine.specs.Totals.{AreTotals}
use Rattle.rc_engine.specs.Windows.{layout_tiles, windows_of, IsExtractable}

-- the tiles of all nets make the plane of the layout
abbrev pub TilesMakeTheLayout : Type 0
TilesMakeTheLayout = (wired : Wired) (rules : RuleFile) → IsExtractable wired rules → plane_of (layout_tiles wired) ≡ layout_plane wired

-- and they can be swept
abbrev pub TilesAreSweepable : Type 0
TilesAreSweepable = (wired : Wired) (rules : RuleFile) → IsExtractable wired rules → AreSweepable (HasRules rules) (layout_tiles wired)

-- so can each window of a grid, with the tiles that matter to it: no sum grows too large
abbrev pub WindowsCanBeSwept : Type 0
WindowsCanBeSwept = (wired : Wired) (rules : RuleFile) (frame : Frame) → IsExtractable wired rules → IsFrame frame →
    CanSweepAll numbers (λ v. nat_lt v (2 ^ 128)) (HasRules rules) (rates rules) (windows_of frame) (near_lists frame (layout_tiles wired))

-- where the grid's halo reaches as far as the rules look, the windows' sums together are what all faces of the layout add up to
abbrev pub TalliesAreTotals : Type 0
TalliesAreTotals = (wired : Wired) (rules : RuleFile) (frame : Frame) (tallies : List (List (Entry ℕ))) →
    IsExtractable wired rules → IsFrame frame → frame.halo ≡ halo_of rules →
    AreTalliesOf numbers (rates rules) (windows_of frame) (near_lists frame (layout_tiles wired)) tallies → All (λ (tally : List (Entry ℕ)). IsRising tally) tallies →
    AreTotals wired rules (entries_of tallies)
