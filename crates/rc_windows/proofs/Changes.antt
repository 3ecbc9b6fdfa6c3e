-- What the changed lists of windows hold, and what can be swept of them.
use Rattle.std.proofs.Common.{◌≡◌, ◌≢◌, ◌<◌, ◌+◌, ℕ, Bool, true, false, cond, not, List, [], ◌∷◌, ◌++◌, eqb, refl, ap, sym, ◌∙◌, arith}
use Rattle.std.specs.Prelude.{filter}
use Rattle.std.specs.List.{sum_by}
use Rattle.std.proofs.lemmas.List.Elements.{All-filter, filter-append}
use Rattle.std.proofs.lemmas.List.Kept.{AllPairs-filter}
use Rattle.std.proofs.lemmas.List.Sums.{sum_by-cons, sum_by-append}
use Rattle.rc_geom.specs.declared.tile.Tile.{Tile}
use Rattle.rc_geom.specs.Rects.{IsNearRect}
use Rattle.rc_geom.specs.Plane.{Overlaps}
use Rattle.rc_geom.specs.Context.{layer_count}
use Rattle.rc_windows.specs.declared.frame.Frame.{Frame}
use Rattle.rc_windows.specs.Frames.{meets}
use Rattle.rc_windows.specs.Indexes.{near_tiles, others_of}
use Rattle.rc_windows.specs.Laws.{AreAlike, ChangesKeepIndexes, NearTilesAreSweepable}

abbrev where_kept : (Tile → Bool) → (Tile → ℕ) → Tile → ℕ
where_kept p f t = cond (p t) (f t) 0

kept_step : (f : Tile → ℕ) (t : Tile) (b : Bool) (kept : List Tile) → sum_by f (cond b (t ∷ kept) kept) ≡ cond b (f t) 0 + sum_by f kept
kept_step f t true kept = sum_by-cons f t kept
kept_step f t false kept = omega arith

sum_kept : (p : Tile → Bool) (f : Tile → ℕ) (ts : List Tile) → sum_by f (filter p ts) ≡ sum_by (where_kept p f) ts
sum_kept p f [] = refl
sum_kept p f (t ∷ ts) =
    kept_step f t (p t) (filter p ts)
    ∙ (ap (λ (n : ℕ). where_kept p f t + n) (sum_kept p f ts) ∙ sym (sum_by-cons (where_kept p f) t ts))

alike_kept : (p : Tile → Bool) (ts us : List Tile) → AreAlike ts us → AreAlike (filter p ts) (filter p us)
alike_kept p ts us alike f = sum_kept p f ts ∙ (alike (where_kept p f) ∙ sym (sum_kept p f us))

swap_tests : (a b : Bool) (n : ℕ) → cond a (cond b n 0) 0 ≡ cond b (cond a n 0) 0
swap_tests true true n = refl
swap_tests true false n = refl
swap_tests false true n = refl
swap_tests false false n = refl

-- two filters go in either order
sum_both : (p q : Tile → Bool) (f : Tile → ℕ) (ts : List Tile) → sum_by f (filter p (filter q ts)) ≡ sum_by f (filter q (filter p ts))
sum_both p q f ts =
    sum_kept p f (filter q ts)
    ∙ (sum_kept q (where_kept p f) ts
    ∙ (ap (λ (g : Tile → ℕ). sum_by g ts) (λ i t. swap_tests (q t) (p t) (f t) i)
    ∙ (sym (sum_kept p (where_kept q f) ts)
    ∙ sym (sum_kept q f (filter p ts)))))

pub changes_keep_indexes : (frame : Frame) → ChangesKeepIndexes frame
changes_keep_indexes frame net k before after tiles old was is f =
    let near : Tile → Bool = λ t. meets frame t.rect k in
    let others : Tile → Bool = λ t. not (eqb t.net net) in
    let kept = alike_kept others old (near_tiles frame before k) was f in
    let swapped = sum_both others near f before in
    let now = alike_kept near after (others_of net before ++ tiles) is f in
    let parts = ap (sum_by f) (filter-append near (others_of net before) tiles) in
    let added = sum_by-append f (filter near (others_of net before)) (filter near tiles) in
    let changed = sum_by-append f (others_of net old) (near_tiles frame tiles k) in
    omega (arith, kept, swapped, now, parts, added, changed)

pub near_tiles_are_sweepable : (has_rules : ℕ → Type 0) (frame : Frame) → NearTilesAreSweepable has_rules frame
near_tiles_are_sweepable has_rules frame tiles k can =
    let near : Tile → Bool = λ t. meets frame t.rect k in
    record {
      near = All-filter near (λ (t : Tile). IsNearRect t.rect) tiles can.near;
      layers = All-filter near (λ (t : Tile). t.layer < layer_count) tiles can.layers;
      ranks = AllPairs-filter (λ a b. a.net ≡ b.net → Overlaps a b → a.rank ≢ b.rank) near tiles can.ranks;
      apart = AllPairs-filter (λ a b. a.net ≢ b.net → ¬ Overlaps a b) near tiles can.apart;
      rules = All-filter near (λ (t : Tile). has_rules t.layer) tiles can.rules;
    }
