-- The windows of a grid, one after another.
use Rattle.std.proofs.Common.{◌≡◌, ◌<◌, ◌+◌, ◌^◌, ℕ, pos, List, [], ◌∷◌, ◌++◌, map, length, get_or, take, ap, sym, subst, ◌∙◌, arith}
use Rattle.std.specs.List.{range_with_len}
use Rattle.std.specs.Prelude.{All, nat_lt}
use Rattle.std.proofs.lemmas.List.{get_or-map, length-map, map-append}
use Rattle.rc_geom.specs.declared.tile.Tile.{Tile}
use Rattle.rc_geom.specs.Sums.{numbers}
use Rattle.rc_geom.proofs.Totals.{range_more}
use Rattle.rc_rules.specs.RuleFile.{RuleFile, HasRules}
use Rattle.rc_rules.specs.LookUp.{rates}
use Rattle.rc_sweep.specs.declared.window.Window.{Window}
use Rattle.rc_windows.specs.declared.frame.Frame.{Frame}
use Rattle.rc_windows.specs.Frames.{window_count, window_rect}
use Rattle.rc_windows.specs.Sweeps.{CanSweepBoth, CanSweepAll}
use Rattle.rc_engine.specs.Windows.{window_of}
use Rattle.rc_engine.proofs.Measures.{mapped_more}

pub window_more : (frame : Frame) (k : ℕ) (windows after : List Window) (w : Window) → windows ≡ map (window_of frame) (range_with_len 0 k) → w.rect ≡ window_rect frame k → w.halo ≡ pos frame.halo → after ≡ windows ++ w ∷ [] →
    after ≡ map (window_of frame) (range_with_len 0 (k + 1))
window_more frame k windows after w so_far rect halo put =
    let is : w ≡ window_of frame k = λ i. record { rect = rect i; halo = halo i } in
    put ∙ ap (λ (ws : List Window). ws ++ w ∷ []) so_far ∙ ap (λ (x : Window). map (window_of frame) (range_with_len 0 k) ++ x ∷ []) is
    ∙ sym (ap (map (window_of frame)) (range_more k) ∙ map-append (window_of frame) (range_with_len 0 k) (k ∷ []))

-- the windows of some numbers, one after another
pub listed_more : (frame : Frame) (ks : List ℕ) (i d : ℕ) (windows after : List Window) (w : Window) → i < length ks → windows ≡ map (window_of frame) (take i ks) → w.rect ≡ window_rect frame (get_or ks i d) → w.halo ≡ pos frame.halo → after ≡ windows ++ w ∷ [] →
    after ≡ map (window_of frame) (take (i + 1) ks)
listed_more frame ks i d windows after w within so_far rect halo put =
    mapped_more (window_of frame) ks i d windows after w within so_far (λ i. record { rect = rect i; halo = halo i }) put

-- each of them can be swept with its list, where each window of the grid can
pub all_can : (rules : RuleFile) (frame : Frame) (ks : List ℕ) (f : ℕ → List Tile) (windows : List Window) (lists : List (List Tile)) → windows ≡ map (window_of frame) ks → lists ≡ map f ks → All (λ k. k < window_count frame) ks →
    ((k : ℕ) → k < window_count frame → CanSweepBoth numbers (λ v. nat_lt v (2 ^ 128)) (HasRules rules) (rates rules) (window_of frame k) (f k)) →
    CanSweepAll numbers (λ v. nat_lt v (2 ^ 128)) (HasRules rules) (rates rules) windows lists
all_can rules frame ks f windows lists of_windows of_lists range can = λ i w ts less.
    let within : i < length ks = (let long = length-map ks (window_of frame) in let same : length windows ≡ length (map (window_of frame) ks) = ap length of_windows in omega (arith, less, long, same)) in
    let k = get_or ks i 0 in
    subst (λ (v : Window). CanSweepBoth numbers (λ v. nat_lt v (2 ^ 128)) (HasRules rules) (rates rules) v (get_or lists i ts)) (sym (ap (λ (ws : List Window). get_or ws i w) of_windows ∙ get_or-map (window_of frame) ks i 0 w within))
    (subst (λ (l : List Tile). CanSweepBoth numbers (λ v. nat_lt v (2 ^ 128)) (HasRules rules) (rates rules) (window_of frame k) l) (sym (ap (λ (ls : List (List Tile)). get_or ls i ts) of_lists ∙ get_or-map f ks i 0 ts within))
    (can k (range i 0 within)))
