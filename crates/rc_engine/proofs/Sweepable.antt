-- The tiles of a layout can be swept, and so can the windows of a grid.
use Rattle.std.proofs.Common.{◌≡◌, ◌≢◌, ◌<◌, ◌≤◌, ◌+◌, ◌/◌, ◌%◌, ◌^◌, ℕ, true, List, length, get_or, refl, sym, subst, ◌∙◌, arith}
use Rattle.std.specs.Prelude.{Contains, not, nat_lt}
use Rattle.std.proofs.Math.Nat.{div-lt_iff_lt-mul}
use Rattle.std.proofs.lemmas.Int.{ints}
use Rattle.std.proofs.lemmas.Option.{slice_get_within, get_or_from_slice_get}
use Rattle.std.proofs.lemmas.List.Elements.{All-contains}
use Rattle.std.proofs.lemmas.List.Filters.{length-filter_both}
use Rattle.std.proofs.lemmas.List.FromFn.{get_or-map-range_with_len, length-map-range_with_len}
use Rattle.rc_fixed.proofs.Members.{in_flat_map}
use Rattle.rc_geom.specs.declared.rect.Pt.{Pt}
use Rattle.rc_geom.specs.declared.rect.Rect.{Rect}
use Rattle.rc_geom.specs.declared.tile.Tile.{Tile}
use Rattle.rc_geom.specs.Rects.{covers, IsInside, IsNearRect}
use Rattle.rc_geom.specs.Plane.{Overlaps}
use Rattle.rc_geom.specs.Context.{layer_count}
use Rattle.rc_geom.specs.Sums.{numbers}
use Rattle.rc_geom.proofs.Bounds.{covered, covers_from}
use Rattle.rc_rules.specs.RuleFile.{RuleFile, HasRules}
use Rattle.rc_rules.specs.LookUp.{rates}
use Rattle.rc_layout.specs.declared.item.Item.{Item}
use Rattle.rc_layout.specs.Layouts.{Wired}
use Rattle.rc_nodes.specs.LayoutPlane.{DrawnNet, drawn_nets}
use Rattle.rc_nodes.specs.Shares.{IsTileOf, LiesInItem}
use Rattle.rc_nodes.proofs.Bounded.{all_from, tiles_lie}
use Rattle.rc_nodes.proofs.Ranked.{ranks_differ, tiles_form}
use Rattle.rc_sweep.specs.declared.window.Window.{Window}
use Rattle.rc_windows.specs.declared.frame.Frame.{Frame}
use Rattle.rc_windows.specs.Frames.{meets, window_count, window_rect, IsFrame}
use Rattle.rc_windows.specs.Indexes.{near_tiles, near_lists}
use Rattle.rc_windows.specs.Sweeps.{CanSweepBoth}
use Rattle.rc_windows.proofs.Changes.{near_tiles_are_sweepable}
use Rattle.rc_windows.proofs.Cuts.{cut_low, cut_high, cuts_rise}
use Rattle.rc_windows.proofs.Limits.{limits_suffice}
use Rattle.rc_engine.specs.Windows.{tiles_of, layout_tiles, window_of, windows_of, IsExtractable}
use Rattle.rc_engine.specs.WindowLaws.{TilesAreSweepable, WindowsCanBeSwept}
use Rattle.rc_engine.proofs.Rises.{Rises, pairs_of_rises, rises_of_pairs, rises_weaker, rises_flat_map_in}
use Rattle.rc_engine.proofs.Drawn.{IsDrawn, IsLower, net_is_drawn, nets_rise, items_apart}

-- ---- one tile

-- the tile is one of a net's, and lies in one of its items
pub record IsNetTile (net : DrawnNet) (tile : Tile) : Type 0 where
  pub form : IsTileOf net.number tile
  pub item : Item
  pub there : Contains net.items item
  pub layer : tile.layer ≡ item.layer
  pub inside : IsInside tile.rect item.rect

pub net_tile : (rules : RuleFile) (net : DrawnNet) (tile : Tile) → IsDrawn rules net → Contains (tiles_of net) tile → IsNetTile net tile
net_tile rules net tile drawn h =
    let lies = All-contains (LiesInItem net.items) (tiles_of net) tile (tiles_lie net.number net.nodes net.items drawn.order drawn.items) h in
    record {
      form = All-contains (IsTileOf net.number) (tiles_of net) tile (tiles_form net.number net.nodes net.items drawn.order drawn.items) h;
      item = lies.item;
      there = (tile.rank, slice_get_within net.items tile.rank lies.item lies.place, get_or_from_slice_get net.items tile.rank lies.item lies.item lies.place);
      layer = lies.layer;
      inside = lies.inside;
    }

pub net_of_tile : (wired : Wired) (tile : Tile) → Contains (layout_tiles wired) tile → (net : DrawnNet) × Contains (drawn_nets wired) net × Contains (tiles_of net) tile
unfolding layout_tiles
net_of_tile wired tile h = in_flat_map tiles_of (drawn_nets wired) tile h

pub covers_outer : (inner outer : Rect) (p : Pt) → IsInside inner outer → covers inner p ≡ true → covers outer p ≡ true
covers_outer inner outer p inside h =
    let c = covered inner p h in
    let left = c.left in
    let right = c.right in
    let below = c.below in
    let above = c.above in
    let l = inside.left in
    let r = inside.right in
    let b = inside.below in
    let a = inside.above in
    covers_from outer p (record { left = omega (arith, ints); right = omega (arith, ints); below = omega (arith, ints); above = omega (arith, ints) })

-- ---- two tiles

abbrev Differ : Tile → Tile → Type 0
Differ a b = a.net ≡ b.net → Overlaps a b → a.rank ≢ b.rank

-- tiles of one net that overlap differ in rank, and those of two don't overlap
abbrev Fit : Tile → Tile → Type 0
Fit a b = Differ a b × (a.net ≢ b.net → ¬ Overlaps a b)

own_fit : (rules : RuleFile) (net : DrawnNet) → IsDrawn rules net → Rises Fit (tiles_of net)
own_fit rules net drawn =
    rises_weaker Differ Fit (tiles_of net)
    (λ a b in_a in_b differ. (differ, λ other over. other ((net_tile rules net a drawn in_a).form.net ∙ sym (net_tile rules net b drawn in_b).form.net)))
    (rises_of_pairs Differ (tiles_of net) (ranks_differ net.number net.nodes net.items drawn.order drawn.items))

others_fit : (wired : Wired) (rules : RuleFile) (x y : DrawnNet) (a b : Tile) → IsExtractable wired rules → Contains (drawn_nets wired) x → Contains (drawn_nets wired) y → x.number < y.number → Contains (tiles_of x) a → Contains (tiles_of y) b → Fit a b
others_fit wired rules x y a b is in_x in_y less of_a of_b =
    let s = net_tile rules x a (net_is_drawn wired rules x is in_x) of_a in
    let t = net_tile rules y b (net_is_drawn wired rules y is in_y) of_b in
    let first = s.form.net in
    let second = t.form.net in (
      λ same over. absurd (omega (arith, same, first, second, less)),
      λ other over. items_apart wired rules x y s.item t.item over.1.0 is in_x in_y (λ same. omega (arith, same, less)) s.there t.there (sym s.layer ∙ over.0 ∙ t.layer)
          (covers_outer a.rect s.item.rect over.1.0 s.inside over.1.1) (covers_outer b.rect t.item.rect over.1.0 t.inside over.1.2),
    )

tiles_fit : (wired : Wired) (rules : RuleFile) → IsExtractable wired rules → Rises Fit (layout_tiles wired)
unfolding layout_tiles
tiles_fit wired rules is =
    rises_flat_map_in IsLower Fit tiles_of (drawn_nets wired) (λ net there. own_fit rules net (net_is_drawn wired rules net is there))
    (λ x y a b in_x in_y less of_a of_b. others_fit wired rules x y a b is in_x in_y less of_a of_b) (nets_rise wired)

pub tiles_are_sweepable : TilesAreSweepable
tiles_are_sweepable wired rules is =
    let tiles = layout_tiles wired in
    record {
      near = all_from (λ (t : Tile). IsNearRect t.rect) tiles (λ t h. (told t h).form.near);
      layers = all_from (λ (t : Tile). t.layer < layer_count) tiles (λ t h. (told t h).form.layer);
      ranks = pairs_of_rises Fit Differ tiles (tiles_fit wired rules is) (λ a b in_a in_b fit. fit.0);
      apart = pairs_of_rises Fit (λ (a b : Tile). a.net ≢ b.net → ¬ Overlaps a b) tiles (tiles_fit wired rules is) (λ a b in_a in_b fit. fit.1);
      rules = all_from (λ (t : Tile). HasRules rules t.layer) tiles rated;
    }
  where
    told : (t : Tile) (h : Contains (layout_tiles wired) t) → IsNetTile (net_of_tile wired t h).0 t
    told t h = let net = net_of_tile wired t h in net_tile rules net.0 t (net_is_drawn wired rules net.0 is net.1) net.2

    rated : (t : Tile) → Contains (layout_tiles wired) t → HasRules rules t.layer
    rated t h =
        let net = net_of_tile wired t h in
        let drawn = net_is_drawn wired rules net.0 is net.1 in
        let one = told t h in
        subst (HasRules rules) (sym one.layer) (All-contains (λ (item : Item). HasRules rules item.layer) net.0.items one.item drawn.rated one.there)

-- ---- windows

pub window_near : (frame : Frame) (k : ℕ) → IsFrame frame → k < window_count frame → IsNearRect (window_rect frame k)
window_near frame k is within =
    let column = k % frame.across.count in
    let row = k / frame.across.count in
    let below : row < frame.up.count = (div-lt_iff_lt-mul {k = frame.across.count} {x = k} {y = frame.up.count} is.across.some).1 within in
    let wide = cuts_rise frame.across column is.across (omega (arith, is.across.some)) in
    let high = cuts_rise frame.up row is.up below in
    record {
      left = omega (arith, ints, cut_low frame.across column is.across);
      wide = wide;
      right = omega (arith, ints, cut_high frame.across (column + 1) is.across);
      below = omega (arith, ints, cut_low frame.up row is.up);
      high = high;
      above = omega (arith, ints, cut_high frame.up (row + 1) is.up);
    }

pub window_at : (frame : Frame) (k : ℕ) (w : Window) → k < window_count frame → get_or (windows_of frame) k w ≡ window_of frame k
window_at frame k w within = get_or-map-range_with_len (window_of frame) 0 (window_count frame) k k w within (omega arith)

pub list_at : (frame : Frame) (tiles : List Tile) (k : ℕ) (ts : List Tile) → k < window_count frame → get_or (near_lists frame tiles) k ts ≡ near_tiles frame tiles k
list_at frame tiles k ts within = get_or-map-range_with_len (near_tiles frame tiles) 0 (window_count frame) k k ts within (omega arith)

pub windows_count : (frame : Frame) → length (windows_of frame) ≡ window_count frame
windows_count frame = length-map-range_with_len (window_of frame) 0 (window_count frame)

pub few_near : (frame : Frame) (tiles : List Tile) (k : ℕ) → length (near_tiles frame tiles k) ≤ length tiles
few_near frame tiles k =
    let both = length-filter_both (λ (t : Tile). meets frame t.rect k) (λ (t : Tile). not (meets frame t.rect k)) (λ _. refl) tiles in
    omega (arith, both)

pub windows_can_be_swept : WindowsCanBeSwept
windows_can_be_swept wired rules frame is grid = λ i w ts less.
    let tiles = layout_tiles wired in
    let count = windows_count frame in
    let within : i < window_count frame = omega (arith, less, count) in
    let few = is.few in
    let short = few_near frame tiles i in
    subst (λ (v : Window). CanSweepBoth numbers (λ v. nat_lt v (2 ^ 128)) (HasRules rules) (rates rules) v (get_or (near_lists frame tiles) i ts)) (sym (window_at frame i w within))
    (subst (CanSweepBoth numbers (λ v. nat_lt v (2 ^ 128)) (HasRules rules) (rates rules) (window_of frame i)) (sym (list_at frame tiles i ts within))
    (limits_suffice rules (window_of frame i) (near_tiles frame tiles i) (window_near frame i grid within) (omega (arith, short, few)) (near_tiles_are_sweepable (HasRules rules) frame tiles i (tiles_are_sweepable wired rules is))))
