-- What refuses the start of an engine, and the grid that it has.
use Rattle.std.specs.Prelude.{◌≡◌, ℕ, ◌^◌, Bool, true, false, not, List, [], Option, Some, None, is_some, option_map, fold, length, map, min, nat_lt, slice_get, if◌then◌else◌}
use Rattle.std.specs.List.{flat_map, cons_option, sum_by}
use Rattle.std.specs.Option.{option_or}
use Rattle.std.specs.Int.{int_min, int_max}
use Rattle.rc_geom.specs.declared.rect.Pt.{Pt}
use Rattle.rc_geom.specs.declared.rect.Rect.{Rect}
use Rattle.rc_keys.specs.declared.code.Quantity.{Quantity}
use Rattle.rc_keys.specs.declared.code.Quantity.TheVariants.{Nodes, Tiles}
use Rattle.rc_keys.specs.declared.fault.Fault.{Fault}
use Rattle.rc_keys.specs.declared.fault.Fault.TheVariants as fault
use Rattle.rc_keys.specs.declared.fault.Refusal.{Refusal}
use Rattle.rc_keys.specs.declared.fault.Refusal.TheVariants as refusal
use Rattle.rc_rules.specs.RuleFile.{RuleFile, has_block, cut_in}
use Rattle.rc_rules.specs.LookUp.{halo_of}
use Rattle.rc_lef.specs.declared.via.Via.{Via}
use Rattle.rc_layout.specs.declared.net.Net.{Net}
use Rattle.rc_layout.specs.Layouts.{Wired}
use Rattle.rc_layout.specs.Metal.{all_nets}
use Rattle.rc_nodes.specs.Nodes.{nodes_of}
use Rattle.rc_nodes.specs.Counts.{tile_count}
use Rattle.rc_nodes.specs.LayoutPlane.{DrawnNet, drawn_nets}
use Rattle.rc_shorts.specs.declared.shape.Short.{Short}
use Rattle.rc_shorts.specs.Shorts.{first_short}
use Rattle.rc_shorts.specs.OfLayouts.{layout_shapes}
use Rattle.rc_windows.specs.declared.frame.Frame.{Frame}
use Rattle.rc_windows.specs.Frames.{frame_for}

-- ---- layers in use

-- the layers on which nets have metal, grounded nets too
abbrev pub net_layers : Net → List ℕ
net_layers net = map (λ item. item.layer) net.items

abbrev pub layers_in_use : Wired → List ℕ
layers_in_use wired = flat_map net_layers (all_nets wired)

-- the cut layers of the vias of nets that aren't grounded
abbrev pub via_cut : List Via → ℕ → Option ℕ
via_cut vias via = option_map (λ v. v.cut) (slice_get vias via)

abbrev pub place_cuts : List Via → ℕ × Pt → List ℕ
place_cuts vias placed = cons_option (via_cut vias placed.0) []

abbrev pub net_cuts : List Via → Net → List ℕ
net_cuts vias net = flat_map (place_cuts vias) net.vias

abbrev pub cuts_in_use : Wired → List ℕ
cuts_in_use wired = flat_map (net_cuts wired.parts.vias) wired.nets

-- the lesser of two numbers, where there is a first one
abbrev pub lesser : Option ℕ → ℕ → Option ℕ
lesser None n = Some n
lesser (Some m) n = Some (min m n)

-- the least of the numbers that lack something, one number after another
abbrev pub least_step : (ℕ → Bool) → Option ℕ → ℕ → Option ℕ
least_step lacks least n = if lacks n then lesser least n else least

unfoldable pub least_lacking : (ℕ → Bool) → List ℕ → Option ℕ
least_lacking lacks numbers = fold (least_step lacks) None numbers

abbrev pub lacks_block : RuleFile → ℕ → Bool
lacks_block rules layer = not (has_block rules layer)

abbrev pub lacks_cut : RuleFile → ℕ → Bool
lacks_cut rules cut = not (is_some (cut_in rules.cuts cut))

-- the first layer in use without rules: of the routing layers the one of the least number, else of the cut layers
abbrev pub no_layer : Bool → ℕ → Refusal
no_layer cut number = refusal.NoRules cut number

unfoldable pub missing_rules : Wired → RuleFile → Option Refusal
missing_rules wired rules =
    option_or (option_map (no_layer false) (least_lacking (lacks_block rules) (layers_in_use wired)))
    (option_map (no_layer true) (least_lacking (lacks_cut rules) (cuts_in_use wired)))

-- the same of one net that isn't grounded
unfoldable pub net_missing : List Via → RuleFile → Net → Option Refusal
net_missing vias rules net =
    option_or (option_map (no_layer false) (least_lacking (lacks_block rules) (net_layers net)))
    (option_map (no_layer true) (least_lacking (lacks_cut rules) (net_cuts vias net)))

-- ---- limits

-- how many nodes all nets have that aren't grounded
unfoldable pub node_count : List Net → ℕ
node_count nets = sum_by (λ net. length (nodes_of net)) nets

-- how many tiles nets count against their limit
abbrev pub tiles_counted : DrawnNet → ℕ
tiles_counted net = tile_count net.nodes net.items

unfoldable pub tile_total : List DrawnNet → ℕ
tile_total nets = sum_by tiles_counted nets

abbrev pub above : ℕ → ℕ → Quantity → Option Refusal
above most count what = if nat_lt most count then Some (refusal.Limit what) else None

-- ---- all together

abbrev pub short_refusal : Short → Refusal
short_refusal short = refusal.Short short.first short.second short.layer short.at.x short.at.y

-- too many nodes, or else too many tiles
unfoldable pub limit_refusal : Wired → Option Refusal
limit_refusal wired = option_or (above (2 ^ 22) (node_count wired.nets) Nodes) (above (2 ^ 23) (tile_total (drawn_nets wired)) Tiles)

-- the first short
unfoldable pub first_short_refusal : Wired → Option Refusal
first_short_refusal wired = option_map short_refusal (first_short (layout_shapes wired))

-- the first of: a layer in use without rules, too many nodes, too many tiles, a short
unfoldable pub start_refusal : Wired → RuleFile → Option Refusal
start_refusal wired rules = option_or (missing_rules wired rules) (option_or (limit_refusal wired) (first_short_refusal wired))

-- the fault is this refusal; want of memory has no cause
abbrev pub IsRefusal : Option Refusal → Fault → Type 0
IsRefusal refused (fault.Refused r) = refused ≡ Some r
IsRefusal refused fault.NoMemory = Unit {0}

-- why an engine doesn't start
abbrev pub IsStartFault : Wired → RuleFile → Fault → Type 0
IsStartFault wired rules fault = IsRefusal (start_refusal wired rules) fault

-- ---- the grid

-- the smallest rectangle that holds both
abbrev pub holding : Rect → Rect → Rect
holding a r = record { x0 = int_min a.x0 r.x0; y0 = int_min a.y0 r.y0; x1 = int_max a.x1 r.x1; y1 = int_max a.y1 r.y1 }

abbrev pub hull : Option Rect → Rect → Option Rect
hull None r = Some r
hull (Some a) r = Some (holding a r)

abbrev pub net_rects : Net → List Rect
net_rects net = map (λ item. item.rect) net.items

-- the rectangle that bounds all shapes; none where there is no shape
unfoldable pub bounds_of : List Net → Option Rect
bounds_of nets = fold hull None (flat_map net_rects nets)

-- the grid over all shapes, whose halo is that of the rules
abbrev pub grid_of : Wired → RuleFile → Frame
grid_of wired rules = frame_for (bounds_of (all_nets wired)) (halo_of rules)
