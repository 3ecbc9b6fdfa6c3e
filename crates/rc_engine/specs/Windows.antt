-- The metal of a layout as tiles, and what the sweep of its windows takes and gives.
use Rattle.std.specs.Prelude.{◌≡◌, ◌≤◌, ◌^◌, ℕ, pos, List, None, All, length, map}
use Rattle.std.specs.List.{range_with_len, flat_map}
use Rattle.rc_geom.specs.declared.tile.Tile.{Tile}
use Rattle.rc_rules.specs.RuleFile.{RuleFile, HasRules}
use Rattle.rc_layout.specs.declared.net.Net.{Net}
use Rattle.rc_layout.specs.Layouts.{Wired}
use Rattle.rc_layout.specs.Facts.{IsLayout}
use Rattle.rc_layout.specs.Metal.{all_nets}
use Rattle.rc_nodes.specs.LayoutPlane.{DrawnNet, drawn_nets}
use Rattle.rc_nodes.specs.Shares.{net_tiles}
use Rattle.rc_shorts.specs.Shorts.{first_short}
use Rattle.rc_shorts.specs.OfLayouts.{layout_shapes}
use Rattle.rc_sweep.specs.declared.window.Window.{Window}
use Rattle.rc_windows.specs.declared.frame.Frame.{Frame}
use Rattle.rc_windows.specs.Frames.{window_count, window_rect}

-- ---- tiles

abbrev pub tiles_of : DrawnNet → List Tile
tiles_of net = net_tiles net.number net.nodes net.items

-- the tiles of all nets, grounded ones last
unfoldable pub layout_tiles : Wired → List Tile
layout_tiles wired = flat_map tiles_of (drawn_nets wired)

-- each layer on which the net has metal has rules
abbrev pub HasRatedItems : RuleFile → Net → Type 0
HasRatedItems rules net = All (λ item. HasRules rules item.layer) net.items

-- what can be extracted: a layout without shorts, with rules for each layer with metal, within the limit of tiles
pub record IsExtractable (wired : Wired) (rules : RuleFile) : Type 0 where
  pub facts : IsLayout wired
  pub rated : All (HasRatedItems rules) (all_nets wired)
  pub few : length (layout_tiles wired) ≤ 2 ^ 23
  pub clear : first_short (layout_shapes wired) ≡ None

-- ---- windows

abbrev pub window_of : Frame → ℕ → Window
window_of frame k = record { rect = window_rect frame k; halo = pos frame.halo }

-- the windows of a grid, in their order
abbrev pub windows_of : Frame → List Window
windows_of frame = map (window_of frame) (range_with_len 0 (window_count frame))
