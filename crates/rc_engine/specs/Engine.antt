-- What an engine is, and what holds of it between its calls.
use Rattle.std.specs.Prelude.{◌≡◌, ◌<◌, ◌≤◌, ◌^◌, ℕ, List, [], None, All, length, slice_index_or}
use Rattle.rc_geom.specs.declared.tile.Tile.{Tile}
use Rattle.rc_keys.specs.declared.fault.Fault.{Fault}
use Rattle.rc_keys.specs.declared.fault.Fault.TheVariants.{Refused, NoMemory}
use Rattle.rc_geom.specs.Sums.{numbers}
use Rattle.rc_tally.specs.declared.entry.Entry.{Entry}
use Rattle.rc_tally.specs.Tallies.{IsRising}
use Rattle.rc_rules.specs.RuleFile.{RuleFile}
use Rattle.rc_rules.specs.LookUp.{rates, halo_of}
use Rattle.rc_layout.specs.Layouts.{Wired}
use Rattle.rc_windows.specs.declared.frame.Frame.{Frame}
use Rattle.rc_windows.specs.Frames.{IsFrame, window_count}
use Rattle.rc_windows.specs.Indexes.{near_tiles, near_lists}
use Rattle.rc_windows.specs.Laws.{AreAlike}
use Rattle.rc_windows.specs.Sweeps.{AreTalliesOf}
use Rattle.rc_engine.specs.Start.{start_refusal, node_count}
use Rattle.rc_engine.specs.Windows.{layout_tiles, windows_of, IsExtractable}

-- a layout and its rules, how many workers sweep, the grid, for each window the tiles that matter to it and what its faces add
-- up to, and how many windows the last edit touched
pub record Engine : Type 0 where
  pub layout : Wired
  pub rules : RuleFile
  pub workers : ℕ
  pub frame : Frame
  pub lists : List (List Tile)
  pub tallies : List (List (Entry ℕ))
  pub touched : ℕ

-- nothing refuses the layout; the list of a window has each tile that matters to it once, and no other; and its tally is what
-- its faces of both axes add up to, in the plane of the layout
pub record IsEngine (e : Engine) : Type 0 where
  pub extractable : IsExtractable e.layout e.rules
  pub accepted : start_refusal e.layout e.rules ≡ None
  pub few_nodes : node_count e.layout.nets ≤ 2 ^ 22
  pub some_worker : 1 ≤ e.workers
  pub few_workers : e.workers ≤ 64
  pub frame : IsFrame e.frame
  pub halo : e.frame.halo ≡ halo_of e.rules
  pub windows : length e.lists ≡ window_count e.frame
  pub lists : (k : ℕ) → k < window_count e.frame → AreAlike (slice_index_or e.lists k []) (near_tiles e.frame (layout_tiles e.layout) k)
  pub tallies : AreTalliesOf numbers (rates e.rules) (windows_of e.frame) (near_lists e.frame (layout_tiles e.layout)) e.tallies
  pub rising : All IsRising e.tallies

-- a refusal draws no passes
abbrev pub DrawsNone : ℕ → ℕ → Fault → Type 0
DrawsNone before after (Refused r) = after ≡ before
DrawsNone before after NoMemory = Unit {0}
