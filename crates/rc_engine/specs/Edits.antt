-- An edit: a layout in which one net has other paths. What refuses it, and the windows that it touches.
use Rattle.std.specs.Prelude.{◌≡◌, ◌<◌, ◌≤◌, ◌^◌, ℕ, List, [], ◌++◌, Option, Some, None, Ok, Err, All, Contains, length, slice_get, slice_index, slice_index_or}
use Rattle.std.specs.List.Sorted.{IsStrictlyIncreasing}
use Rattle.std.specs.Option.{option_map_or}
use Rattle.rc_geom.specs.declared.rect.Rect.{Rect}
use Rattle.rc_geom.specs.declared.tile.Tile.{Tile}
use Rattle.rc_geom.specs.Sums.{numbers}
use Rattle.rc_keys.specs.declared.fault.Refusal.{Refusal}
use Rattle.rc_tally.specs.declared.entry.Entry.{Entry}
use Rattle.rc_tally.specs.Tallies.{IsRising}
use Rattle.rc_wire.specs.declared.path.RawPath.{RawPath}
use Rattle.rc_rules.specs.RuleFile.{RuleFile}
use Rattle.rc_rules.specs.LookUp.{rates}
use Rattle.rc_layout.specs.declared.net.Net.{Net}
use Rattle.rc_layout.specs.Facts.{IsCandidate}
use Rattle.rc_layout.specs.Layouts.{Wired, net_with, with_put}
use Rattle.rc_layout.specs.Refusals.{Linked, ◌>>=◌}
use Rattle.rc_windows.specs.declared.frame.Frame.{Frame}
use Rattle.rc_windows.specs.Frames.{touched, window_count}
use Rattle.rc_windows.specs.Indexes.{near_tiles}
use Rattle.rc_windows.specs.Laws.{AreAlike}
use Rattle.rc_windows.specs.Sweeps.{IsTallyOf}
use Rattle.rc_engine.specs.Engine.{Engine}
use Rattle.rc_engine.specs.Start.{net_rects, node_count, start_refusal}
use Rattle.rc_engine.specs.Windows.{layout_tiles, window_of, IsExtractable}

-- ---- the layout with the paths

abbrev pub with_paths : Wired → ℕ → List RawPath → Option Net → Linked Wired
with_paths wired number paths None = Ok wired
with_paths wired number paths (Some old) = net_with wired old paths >>= λ new. Ok (with_put wired number new)

-- the layout in which the net of that number has these paths, and all else as it is; or the first refusal of the paths, or of
-- the limit of shapes for that layout
unfoldable pub edited : Wired → ℕ → List RawPath → Linked Wired
edited wired number paths = with_paths wired number paths (slice_get wired.nets number)

-- ---- what refuses it

abbrev pub refusal_of : RuleFile → Linked Wired → Option Refusal
refusal_of rules (Ok wired) = start_refusal wired rules
refusal_of rules (Err refusal) = Some refusal

-- the first refusal of the paths, or else what refuses the layout with them: a layer in use without rules, too many nodes, too
-- many tiles, a short
unfoldable pub edit_refusal : Wired → RuleFile → ℕ → List RawPath → Option Refusal
edit_refusal wired rules number paths = refusal_of rules (edited wired number paths)

-- ---- where it is looked at again

-- the rectangles of a net's items
abbrev pub rects_of : Wired → ℕ → List Rect
rects_of wired number = option_map_or net_rects (slice_get wired.nets number) []

-- the windows that, with their halo, share a square with an old or a new rectangle of the net
abbrev pub touched_between : Frame → Wired → Wired → ℕ → List ℕ
touched_between frame before after number = touched frame (rects_of before number ++ rects_of after number)

abbrev pub touched_to : Frame → Wired → ℕ → Linked Wired → List ℕ
touched_to frame before number (Ok after) = touched_between frame before after number
touched_to frame before number (Err refusal) = []

-- those that an edit touches; where its paths are refused, none
unfoldable pub edit_windows : Frame → Wired → ℕ → List RawPath → List ℕ
edit_windows frame wired number paths = touched_to frame wired number (edited wired number paths)

-- ---- what an edit needs

-- a net that may take the place of the net of that number: it has that one's name and connections, and nothing refuses the
-- layout with it
pub record MayReplace (e : Engine) (number : ℕ) (net : Net) : Type 0 where
  pub within : number < length e.layout.nets
  pub candidate : (old : Net) → slice_get e.layout.nets number ≡ Some old → IsCandidate e.layout old net
  pub conns : (old : Net) → slice_get e.layout.nets number ≡ Some old → net.conns ≡ old.conns
  pub extractable : IsExtractable (with_put e.layout number net) e.rules
  pub accepted : start_refusal (with_put e.layout number net) e.rules ≡ None
  pub few_nodes : node_count (with_put e.layout number net).nets ≤ 2 ^ 22

-- windows by rising numbers, each with the tiles that matter to it in another layout and what its faces add up to there; all
-- other windows have the same tiles in both layouts
pub record AreChanged (e : Engine) (after : Wired) (windows : List ℕ) (new : List (List Tile)) (sums : List (List (Entry ℕ))) : Type 0 where
  pub increasing : IsStrictlyIncreasing windows
  pub range : All (λ k. k < window_count e.frame) windows
  pub lists_count : length new ≡ length windows
  pub tallies_count : length sums ≡ length windows
  pub lists : (i : ℕ) → i < length windows → AreAlike (slice_index_or new i []) (near_tiles e.frame (layout_tiles after) (slice_index windows i))
  pub tallies : (i : ℕ) → i < length windows →
      IsTallyOf numbers (rates e.rules) (window_of e.frame (slice_index windows i)) (near_tiles e.frame (layout_tiles after) (slice_index windows i)) (slice_index_or sums i [])
  pub rising : All IsRising sums
  pub others : (k : ℕ) → k < window_count e.frame → ¬ Contains windows k → near_tiles e.frame (layout_tiles after) k ≡ near_tiles e.frame (layout_tiles e.layout) k
