use Rattle.std.proofs.Common.{◌≡◌, ◌≤◌, ◌<◌, ◌+◌, ◌++◌, ℕ, Bool, List, ap, sym, subst, ◌∙◌, arith}
use Rattle.std.specs.Prelude.{All}
use Rattle.std.specs.List.Sorted.{IsStrictlyIncreasing}
use Rattle.std.proofs.lemmas.List.Elements.{All-filter, All-weaker}
use Rattle.std.proofs.lemmas.List.Kept.{IsStrictlyIncreasing-filter}
use Rattle.std.specs.List.{flat_map, list_any, range_with_len}
use Rattle.std.proofs.lemmas.List.Concat.{flat_map-append}
use Rattle.std.proofs.lemmas.List.Filters.{dedup_is}
use Rattle.rc_windows.specs.declared.frame.Frame.{Frame}
use Rattle.rc_windows.specs.Frames.{meets, met, touched, window_count}
use Rattle.rc_windows.specs.Indexes.{rect_places, most_places}
use Rattle.rc_windows.proofs.Numbers.{sorted_once, in_range, range_rises}
use Rattle.rc_windows.proofs.grid.Grid.touched.Goals as goal

pub returns : goal.returns
returns c =
    let frame = c.args.self.now in
    let own = c.frame-frame.result in
    let old = c.args.old.now in
    let new = c.args.new.now in
    let all : c.met_all-2.new.numbers.items ≡ flat_map (met own) (old ++ new) =
    c.in_ok-met_all-2.ensures
    ∙ (ap (λ (xs : List ℕ). xs ++ flat_map (met own) new) (c.in_ok-met_all.ensures ∙ ap (λ (xs : List ℕ). xs ++ flat_map (met own) old) c.new-numbers.ensures.items)
    ∙ sym (flat_map-append (met own) old new)) in
    let found : c.met_all-2.new.numbers.items ≡ flat_map (met frame) (old ++ new) = all ∙ ap (λ (g : Frame). flat_map (met g) (old ++ new)) c.frame-frame.ensures.is in
    let once = dedup_is _ _ _ c.dedup.ensures.filtered in
    let is : c.from_vec.result ≡ touched frame (old ++ new) = c.from_vec.ensures ∙ (once ∙ sorted_once (meets frame) (window_count frame) (old ++ new) _ _ found c.sort_unstable.ensures.permutation c.sort_unstable.ensures.sorted) in
    let any : ℕ → Bool = λ k. list_any (λ r. meets frame r k) (old ++ new) in
    let all = range_with_len 0 (window_count frame) in
    record {
      list = is;
      rising = subst IsStrictlyIncreasing (sym is) (IsStrictlyIncreasing-filter any all (range_rises 0 (window_count frame)));
      range = subst (All (λ k. k < window_count frame)) (sym is) (All-filter any (λ k. k < window_count frame) all (All-weaker (λ k. (0 ≤ k) × (k < 0 + window_count frame)) (λ k. k < window_count frame) (λ k both. omega (arith, both.1)) all (in_range 0 (window_count frame))));
      few_old = subst (λ (g : Frame). rect_places g old ≤ most_places) c.frame-frame.ensures.is (c.rects_are_few.ensures.0 c.if-not-rects_are_few.false);
      few_new = subst (λ (g : Frame). rect_places g new ≤ most_places) c.frame-frame.ensures.is (c.rects_are_few-else-not-rects_are_few.ensures.0 c.if-not-rects_are_few-2.false);
    }
