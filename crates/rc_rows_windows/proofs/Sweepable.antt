-- The windows of a grid can be swept with the tiles of a scene.
use Rattle.std.proofs.Common.{◌≡◌, ◌≤◌, ◌^◌, ℕ, Bool, List, [], ◌∷◌, ◌++◌, length, get_or, refl, ap, sym, subst, ◌∙◌, arith}
use Rattle.std.specs.Prelude.{All, not, nat_lt}
use Rattle.std.proofs.lemmas.List.FromFn.{get_or-map-range_with_len}
use Rattle.std.proofs.lemmas.List.Elements.{All-append, All-from_recursion}
use Rattle.std.proofs.lemmas.List.Filters.{length-filter_both}
use Rattle.rc_geom.specs.declared.tile.Tile.{Tile}
use Rattle.rc_geom.specs.Rects.{IsNearRect}
use Rattle.rc_geom.specs.Sums.{numbers}
use Rattle.rc_sweep.specs.declared.window.Window.{Window}
use Rattle.rc_rows_sweep.specs.RowRates.{row_rates, HasRules, rates_keep}
use Rattle.rc_rows_sweep.specs.Scenes.{IsScene}
use Rattle.rc_rows_sweep.proofs.Bounds.{rows_small}
use Rattle.rc_windows.specs.declared.frame.Frame.{Frame}
use Rattle.rc_windows.specs.Frames.{meets, window_count}
use Rattle.rc_windows.specs.Indexes.{near_tiles, near_lists}
use Rattle.rc_windows.specs.Sweeps.{CanSweepBoth, CanSweepAll, AreSweepable}
use Rattle.rc_windows.specs.Laws.{LimitsSuffice}
use Rattle.rc_windows.proofs.Changes.{near_tiles_are_sweepable}
use Rattle.rc_windows.proofs.Limits.{small_rates_suffice}

few_near : (frame : Frame) (tiles : List Tile) (k : ℕ) → length (near_tiles frame tiles k) ≤ length tiles
few_near frame tiles k =
    let both = length-filter_both (λ (t : Tile). meets frame t.rect k) (λ (t : Tile). not (meets frame t.rect k)) (λ _. refl) tiles in
    omega (arith, both)

sweepable : (tiles : List Tile) → IsScene tiles → AreSweepable HasRules tiles
sweepable tiles scene = record {
  near = λ i d less. (scene.each i d less).near;
  layers = λ i d less. (scene.each i d less).layer;
  ranks = λ i j d less within. (scene.pairs i j d less within).ranks;
  apart = λ i j d less within. (scene.pairs i j d less within).apart;
  rules = λ i d less. (scene.each i d less).layer;
}

rows_suffice : (by_digits : Bool) → LimitsSuffice HasRules (row_rates by_digits)
rows_suffice by_digits = small_rates_suffice HasRules (row_rates by_digits) (rates_keep by_digits) (λ layer under over thick gap has.
    let small = rows_small by_digits layer under over thick gap in
    let own = small.0 in
    let share = small.1 in
    (omega (arith, own), omega (arith, share)))

pub windows_can : (by_digits : Bool) (frame : Frame) (windows : List Window) (tiles : List Tile) (lists : List (List Tile)) → IsScene tiles → length tiles ≤ 2 ^ 20 → length windows ≡ window_count frame → All (λ (w : Window). IsNearRect w.rect) windows →
    lists ≡ near_lists frame tiles → CanSweepAll numbers (λ v. nat_lt v (2 ^ 128)) HasRules (row_rates by_digits) windows lists
windows_can by_digits frame windows tiles lists scene few count near are = λ i w ts less.
    let list : get_or lists i ts ≡ near_tiles frame tiles i = ap (λ (ls : List (List Tile)). get_or ls i ts) are ∙ get_or-map-range_with_len (near_tiles frame tiles) 0 (window_count frame) i i ts (omega (arith, less, count)) (omega arith) in
    let short = few_near frame tiles i in
    subst (CanSweepBoth numbers (λ v. nat_lt v (2 ^ 128)) HasRules (row_rates by_digits) (get_or windows i w)) (sym list)
    (rows_suffice by_digits (get_or windows i w) (near_tiles frame tiles i) (near i w less) (omega (arith, short, few)) (near_tiles_are_sweepable HasRules frame tiles i (sweepable tiles scene)))

pub one_more : (windows more : List Window) (w : Window) → All (λ (w : Window). IsNearRect w.rect) windows → IsNearRect w.rect → more ≡ windows ++ w ∷ [] → All (λ (w : Window). IsNearRect w.rect) more
one_more windows more w near is done =
    let P = λ (w : Window). IsNearRect w.rect in
    subst (All P) (sym done) (All-append P windows (w ∷ []) near (All-from_recursion P (w ∷ []) (is, tt)))
