-- A via is the same whatever the rectangles are that lie too far out.
use Rattle.std.proofs.Common.{◌≡◌, ℕ, Bool, true, false, cond, List, [], ◌∷◌, length, map, refl, sym, ap, ◌∙◌}
use Rattle.std.specs.Prelude.{◌&&◌, ◌==◌, min, ◌-◌, ◌^◌, Option, Some, None}
use Rattle.std.specs.List.{fold, list_all, filter_map}
use Rattle.std.proofs.lemmas.Bool.{true≢false}
use Rattle.rc_geom.specs.declared.rect.Rect.{Rect}
use Rattle.rc_geom.specs.Bounds.{is_within}
use Rattle.rc_lef.specs.declared.tech.LayerKind.{LayerKind}
use Rattle.rc_lef.specs.declared.tech.LayerKind.TheVariants as kinds
use Rattle.rc_lef.specs.Usable.{unusable, joins_two, used_via, with_cut, first_cut, via_of, pad_of, cut_of, is_metal_or_cut, drawn_via}
use Rattle.rc_layout.specs.Wide.{far_rect, brought, brought_in}

abbrev brought_pad : ℕ × Rect → ℕ × Rect
brought_pad pad = (pad.0, brought pad.1)

within_same : (r : Rect) → is_within (brought r) ≡ is_within r
within_same r = by (is_within r) refl
  where
    by : (b : Bool) → is_within r ≡ b → is_within (cond b r far_rect) ≡ b
    by true e = e
    by false e = refl

pads_same : (rects : List (LayerKind × Rect)) → filter_map pad_of (map brought_in rects) ≡ map brought_pad (filter_map pad_of rects)
pads_same [] = refl
pads_same ((kinds.Routing number, rect) ∷ rects) = ap (λ pads. (number, brought rect) ∷ pads) (pads_same rects)
pads_same ((kinds.Cut number, rect) ∷ rects) = pads_same rects
pads_same ((kinds.Other, rect) ∷ rects) = pads_same rects

cuts_same : (rects : List (LayerKind × Rect)) → filter_map cut_of (map brought_in rects) ≡ filter_map cut_of rects
cuts_same [] = refl
cuts_same ((kinds.Routing number, rect) ∷ rects) = cuts_same rects
cuts_same ((kinds.Cut number, rect) ∷ rects) = ap (λ cuts. number ∷ cuts) (cuts_same rects)
cuts_same ((kinds.Other, rect) ∷ rects) = cuts_same rects

kinds_same : (rects : List (LayerKind × Rect)) → list_all (λ (rect : LayerKind × Rect). is_metal_or_cut rect.0) (map brought_in rects) ≡ list_all (λ (rect : LayerKind × Rect). is_metal_or_cut rect.0) rects
kinds_same [] = refl
kinds_same (rect ∷ rects) = ap (λ b. is_metal_or_cut rect.0 && b) (kinds_same rects)

least_same : (n : ℕ) (pads : List (ℕ × Rect)) → fold (λ n (pad : ℕ × Rect). min n pad.0) n (map brought_pad pads) ≡ fold (λ n (pad : ℕ × Rect). min n pad.0) n pads
least_same n [] = refl
least_same n (pad ∷ pads) = least_same (min n pad.0) pads

all_within : (pads : List (ℕ × Rect)) → list_all (λ (pad : ℕ × Rect). is_within pad.1) (map brought_pad pads) ≡ list_all (λ (pad : ℕ × Rect). is_within pad.1) pads
all_within [] = refl
all_within (pad ∷ pads) = ap (λ b. b && list_all (λ (pad : ℕ × Rect). is_within pad.1) (map brought_pad pads)) (within_same pad.1) ∙ ap (λ b. is_within pad.1 && b) (all_within pads)

both_left : (a b : Bool) → (a && b) ≡ true → a ≡ true
both_left true b e = refl
both_left false b e = e

both_right : (a b : Bool) → (a && b) ≡ true → b ≡ true
both_right true b e = e
both_right false b e = absurd (true≢false (sym e))

none_bad : (a b c : Bool) → c ≡ false → (a && (b && c)) ≡ false
none_bad true true c e = e
none_bad true false c e = refl
none_bad false b c e = refl

kept : (pads : List (ℕ × Rect)) → list_all (λ (pad : ℕ × Rect). is_within pad.1) pads ≡ true → map brought_pad pads ≡ pads
kept [] e = refl
kept (pad ∷ pads) e =
    let first : brought pad.1 ≡ pad.1 = ap (λ b. cond b pad.1 far_rect) (both_left (is_within pad.1) (list_all (λ (pad : ℕ × Rect). is_within pad.1) pads) e) in
    ap (λ (r : Rect). (pad.0, r) ∷ map brought_pad pads) first ∙ ap (λ (rest : List (ℕ × Rect)). pad ∷ rest) (kept pads (both_right (is_within pad.1) (list_all (λ (pad : ℕ × Rect). is_within pad.1) pads) e))

used_same : (name : List ℕ) (allowed : Bool) (pads : List (ℕ × Rect)) (cuts : List ℕ) (count : ℕ) (cut : Option ℕ) → with_cut name allowed (map brought_pad pads) cuts count cut ≡ with_cut name allowed pads cuts count cut
used_same name allowed pads cuts count None = refl
used_same name allowed pads cuts count (Some cut) = by (list_all (λ (pad : ℕ × Rect). is_within pad.1) pads) refl
  where
    by : (b : Bool) → list_all (λ (pad : ℕ × Rect). is_within pad.1) pads ≡ b → with_cut name allowed (map brought_pad pads) cuts count (Some cut) ≡ with_cut name allowed pads cuts count (Some cut)
    by true e = ap (λ (ps : List (ℕ × Rect)). with_cut name allowed ps cuts count (Some cut)) (kept pads e)
    by false e =
        ap (λ b. cond b (used_via name (map brought_pad pads) cut count) (unusable name))
        (none_bad (allowed && list_all (λ other. other == cut) cuts) (joins_two (map brought_pad pads)) (list_all (λ (pad : ℕ × Rect). is_within pad.1) (map brought_pad pads)) (all_within pads ∙ e))
        ∙ sym (ap (λ b. cond b (used_via name pads cut count) (unusable name)) (none_bad (allowed && list_all (λ other. other == cut) cuts) (joins_two pads) (list_all (λ (pad : ℕ × Rect). is_within pad.1) pads) e))

pub drawn_same : (name : List ℕ) (plain : Bool) (rects : List (LayerKind × Rect)) → drawn_via name plain (map brought_in rects) ≡ drawn_via name plain rects
unfolding drawn_via via_of
drawn_same name plain rects =
    rw (kinds_same rects, pads_same rects, cuts_same rects)
    (used_same name (plain && list_all (λ (rect : LayerKind × Rect). is_metal_or_cut rect.0) rects) (filter_map pad_of rects) (filter_map cut_of rects)
    (min (length (filter_map cut_of rects)) (2 ^ 32 - 1)) (first_cut (filter_map cut_of rects)))
