-- Places where no tile begins or ends.
use Rattle.std.proofs.Common.{◌≡◌, ◌⊎◌, inl, inr, ⊎_elim, ℕ, zero, suc, ℤ, pos, negsuc, ◌≤ℤ◌, ◌<ℤ◌, ◌+◌, ◌<◌, ◌^◌, Bool, true, false, cond, List, [], ◌∷◌, ◌++◌, Option, Some, None, All, take, length, get_or, refl, ap, sym, ◌∙◌, subst, arith}
use Rattle.std.specs.Prelude.{int_le, int_lt, IfSome, ◌&&◌, ◌==◌, fold, option_map}
use Rattle.std.specs.List.{AllByRecursion as ByRecursion, Any}
use Rattle.std.proofs.lemmas.List.Quantifiers.{Any-push}
use Rattle.std.proofs.lemmas.List.{take_more, get_or_append_left, length_push}
use Rattle.std.proofs.lemmas.List.Elements.{All-push, All-weaker, recursion_from_All}
use Rattle.std.proofs.lemmas.Int.{ints}
use Rattle.rc_geom.specs.declared.tile.Tile.{Tile}
use Rattle.rc_geom.specs.declared.rect.Rect.{Rect}
use Rattle.rc_geom.specs.declared.rect.Pt.{Pt}
use Rattle.rc_geom.proofs.Bounds.{covered, le_tells, le_passes, lt_passes, lt_fails}
use Rattle.std.proofs.lemmas.Bool.{false_from_ne_true}
use Rattle.rc_geom.specs.Rects.{covers, IsInside, IsNearRect}
use Rattle.rc_geom.specs.Plane.{Metal, next_owner, least_of, plane_of, HoldsTiles}
use Rattle.rc_geom.specs.Line.{square_of, line_of}
use Rattle.rc_geom.specs.Sums.{first_place, end_place, first_line, end_line}
use Rattle.rc_geom.proofs.Areas.{tiles_hold_metal}
use Rattle.rc_column.specs.Edges.{sooner, sooner_of, sooner_ends, IsClear, IsBefore, Passes, PassesLines, BordersLine}

-- ---- the sooner of an edge and a place

le_fails : (a b : ℤ) → b <ℤ a → int_le a b ≡ false
le_fails a b h = grind (arith, ints)

-- a test of two whole numbers, by its answers
pub by_le : (a b : ℤ) (P : Bool → Type 0) → (a ≤ℤ b → P true) → (b <ℤ a → P false) → P (int_le a b)
by_le a b P low high =
    (elim (int_le a b) as (λ c. int_le a b ≡ c → P c) [
      | true ↦ λ is. low (le_tells a b is)
      | false ↦ λ is. high (grind (arith, ints))
    ]) refl

clear_first : (edge : Option ℤ) (z after : ℤ) → IsClear after (sooner_of edge z) z
clear_first None z after = inr (omega (arith, ints))
clear_first (Some e) z after =
    by_le e z (λ b. IsClear after (cond b (Some e) (Some z)) z) (λ low. inr low) (λ high. inr (omega (arith, ints)))

clear_low : (edge : Option ℤ) (z after : ℤ) → z ≤ℤ after → IsClear after edge z
clear_low None z after h = h
clear_low (Some e) z after h = inl h

pub clear_here : (edge : Option ℤ) (z after : ℤ) → IsClear after (sooner edge z after) z
clear_here edge z after =
    by_le z after (λ b. IsClear after (cond b edge (sooner_of edge z)) z) (λ low. clear_low edge z after low) (λ high. clear_first edge z after)

clear_of : (edge : Option ℤ) (z w after : ℤ) → IsClear after edge w → IsClear after (sooner_of edge z) w
clear_of None z w after h = inl h
clear_of (Some e) z w after h =
    by_le e z (λ b. IsClear after (cond b (Some e) (Some z)) w) (λ low. h)
    (λ high. ⊎_elim (λ (l : w ≤ℤ after). inl l) (λ (l : e ≤ℤ w). inr (omega (arith, ints))) h)

pub clear_still : (edge : Option ℤ) (z w after : ℤ) → IsClear after edge w → IsClear after (sooner edge z after) w
clear_still edge z w after h =
    by_le z after (λ b. IsClear after (cond b edge (sooner_of edge z)) w) (λ low. h) (λ high. clear_of edge z w after h)

above_of : (edge : Option ℤ) (z after : ℤ) → after <ℤ z → IfSome edge (λ e. after <ℤ e) → IfSome (sooner_of edge z) (λ e. after <ℤ e)
above_of None z after more h = more
above_of (Some e) z after more h = by_le e z (λ b. IfSome (cond b (Some e) (Some z)) (λ n. after <ℤ n)) (λ low. h) (λ high. more)

pub above_still : (edge : Option ℤ) (z after : ℤ) → IfSome edge (λ e. after <ℤ e) → IfSome (sooner edge z after) (λ e. after <ℤ e)
above_still edge z after h =
    by_le z after (λ b. IfSome (cond b edge (sooner_of edge z)) (λ e. after <ℤ e)) (λ low. h) (λ high. above_of edge z after high h)

near_of : (edge : Option ℤ) (z most : ℤ) → z ≤ℤ most → IfSome edge (λ e. e ≤ℤ most) → IfSome (sooner_of edge z) (λ e. e ≤ℤ most)
near_of None z most small h = small
near_of (Some e) z most small h = by_le e z (λ b. IfSome (cond b (Some e) (Some z)) (λ n. n ≤ℤ most)) (λ low. h) (λ high. small)

pub near_still : (edge : Option ℤ) (z after most : ℤ) → z ≤ℤ most → IfSome edge (λ e. e ≤ℤ most) → IfSome (sooner edge z after) (λ e. e ≤ℤ most)
near_still edge z after most small h =
    by_le z after (λ b. IfSome (cond b edge (sooner_of edge z)) (λ e. e ≤ℤ most)) (λ low. h) (λ high. near_of edge z most small h)

-- ---- the ends of tiles, one more at a time

pub passes_more : (axis : ℕ) (after : ℤ) (edge : Option ℤ) (tiles : List Tile) (i : ℕ) (d : Tile) → i < length tiles → All (Passes axis after edge) (take i tiles) → All (Passes axis after (sooner_ends edge (first_place axis (get_or tiles i d).rect) (end_place axis (get_or tiles i d).rect) after)) (take (i + 1) tiles)
passes_more axis after edge tiles i d within so_far =
    let t = get_or tiles i d in
    let low = first_place axis t.rect in
    let high = end_place axis t.rect in
    let next = sooner_ends edge low high after in
    let still : (w : ℤ) → IsClear after edge w → IsClear after next w = λ w h. clear_still (sooner edge low after) high w after (clear_still edge low w after h) in
    subst (All (Passes axis after next)) (sym (take_more tiles i d within))
    (All-push (Passes axis after next) (take i tiles) t
    (All-weaker (Passes axis after edge) (Passes axis after next) (λ u p. record { begins = still (first_place axis u.rect) p.begins; ends = still (end_place axis u.rect) p.ends }) (take i tiles) so_far)
    (record { begins = clear_still (sooner edge low after) high low after (clear_here edge low after); ends = clear_here (sooner edge low after) high after }))

pub passes_lines_more : (axis : ℕ) (after : ℤ) (edge : Option ℤ) (tiles : List Tile) (i : ℕ) (d : Tile) → i < length tiles → All (PassesLines axis after edge) (take i tiles) → All (PassesLines axis after (sooner_ends edge (first_line axis (get_or tiles i d).rect) (end_line axis (get_or tiles i d).rect) after)) (take (i + 1) tiles)
passes_lines_more axis after edge tiles i d within so_far =
    let t = get_or tiles i d in
    let low = first_line axis t.rect in
    let high = end_line axis t.rect in
    let next = sooner_ends edge low high after in
    let still : (w : ℤ) → IsClear after edge w → IsClear after next w = λ w h. clear_still (sooner edge low after) high w after (clear_still edge low w after h) in
    subst (All (PassesLines axis after next)) (sym (take_more tiles i d within))
    (All-push (PassesLines axis after next) (take i tiles) t
    (All-weaker (PassesLines axis after edge) (PassesLines axis after next) (λ u p. record { begins = still (first_line axis u.rect) p.begins; ends = still (end_line axis u.rect) p.ends }) (take i tiles) so_far)
    (record { begins = clear_still (sooner edge low after) high low after (clear_here edge low after); ends = clear_here (sooner edge low after) high after }))

-- ---- the edge is an end of a tile

one_of : (edge : Option ℤ) (z : ℤ) (P : ℤ → Type 0) → P z → IfSome edge P → IfSome (sooner_of edge z) P
one_of None z P here h = here
one_of (Some e) z P here h = by_le e z (λ b. IfSome (cond b (Some e) (Some z)) P) (λ _. h) (λ _. here)

one_still : (edge : Option ℤ) (z after : ℤ) (P : ℤ → Type 0) → P z → IfSome edge P → IfSome (sooner edge z after) P
one_still edge z after P here h = by_le z after (λ b. IfSome (cond b edge (sooner_of edge z)) P) (λ _. h) (λ _. one_of edge z P here h)

if_some : (edge : Option ℤ) (P Q : ℤ → Type 0) → ((z : ℤ) → P z → Q z) → IfSome edge P → IfSome edge Q
if_some None P Q more h = tt
if_some (Some e) P Q more h = more e h

any_more : (P : Tile → Type 0) (ts : List Tile) (t : Tile) → Any P ts → Any P (ts ++ t ∷ [])
any_more P ts t h =
    let long : length (ts ++ t ∷ []) ≡ length ts + 1 = length_push ts t in
    (h.0, h.1, omega arith, get_or_append_left ts (t ∷ []) h.1 h.0 h.2 ∙ h.3, h.4)

pub borders_more : (axis : ℕ) (after : ℤ) (edge : Option ℤ) (tiles : List Tile) (i : ℕ) (d : Tile) → i < length tiles → IfSome edge (λ e. Any (BordersLine axis e) (take i tiles)) → IfSome (sooner_ends edge (first_line axis (get_or tiles i d).rect) (end_line axis (get_or tiles i d).rect) after) (λ e. Any (BordersLine axis e) (take (i + 1) tiles))
borders_more axis after edge tiles i d within so_far =
    let t = get_or tiles i d in
    let P : ℤ → Type 0 = λ e. Any (BordersLine axis e) (take i tiles ++ t ∷ []) in
    subst (λ (ts : List Tile). IfSome (sooner_ends edge (first_line axis t.rect) (end_line axis t.rect) after) (λ e. Any (BordersLine axis e) ts)) (sym (take_more tiles i d within))
    (one_still (sooner edge (first_line axis t.rect) after) (end_line axis t.rect) after P (Any-push (BordersLine axis (end_line axis t.rect)) (take i tiles) t (inr refl))
    (one_still edge (first_line axis t.rect) after P (Any-push (BordersLine axis (first_line axis t.rect)) (take i tiles) t (inl refl))
    (if_some edge (λ e. Any (BordersLine axis e) (take i tiles)) P (λ e h. any_more (BordersLine axis e) (take i tiles) t h) so_far)))

-- ---- squares that no tile begins or ends between

le_same : (e after z : ℤ) (edge : Option ℤ) → IsClear after edge e → after ≤ℤ z → IsBefore edge z → int_le e z ≡ int_le e after
le_same e after z None clear low before = grind (arith, ints)
le_same e after z (Some n) clear low before = ⊎_elim
    (λ (l : e ≤ℤ after). le_passes e z (omega (arith, ints)) ∙ sym (le_passes e after l))
    (λ (h : n ≤ℤ e). le_fails e z (omega (arith, ints)) ∙ sym (le_fails e after (omega (arith, ints))))
    clear

lt_same : (e after z : ℤ) (edge : Option ℤ) → IsClear after edge e → after ≤ℤ z → IsBefore edge z → int_lt z e ≡ int_lt after e
lt_same e after z None clear low before = lt_fails z e (omega (arith, ints)) ∙ sym (lt_fails after e (omega (arith, ints)))
lt_same e after z (Some n) clear low before = ⊎_elim
    (λ (l : e ≤ℤ after). lt_fails z e (omega (arith, ints)) ∙ sym (lt_fails after e l))
    (λ (h : n ≤ℤ e). lt_passes z e (omega (arith, ints)) ∙ sym (lt_passes after e (omega (arith, ints))))
    clear

-- along a line
covers_along : (axis : ℕ) (r : Rect) (at after z : ℤ) (edge : Option ℤ) → IsClear after edge (first_place axis r) → IsClear after edge (end_place axis r) → after ≤ℤ z → IsBefore edge z → covers r (square_of axis at z) ≡ covers r (square_of axis at after)
covers_along zero r at after z edge begins ends low before =
    ap (λ b. b && int_lt z r.x1 && (int_le r.y0 at && int_lt at r.y1)) (le_same r.x0 after z edge begins low before)
    ∙ ap (λ b. int_le r.x0 after && b && (int_le r.y0 at && int_lt at r.y1)) (lt_same r.x1 after z edge ends low before)
covers_along (suc n) r at after z edge begins ends low before =
    ap (λ b. int_le r.x0 at && int_lt at r.x1 && (b && int_lt z r.y1)) (le_same r.y0 after z edge begins low before)
    ∙ ap (λ b. int_le r.x0 at && int_lt at r.x1 && (int_le r.y0 after && b)) (lt_same r.y1 after z edge ends low before)

-- across lines
covers_across : (axis : ℕ) (r : Rect) (along after z : ℤ) (edge : Option ℤ) → IsClear after edge (first_line axis r) → IsClear after edge (end_line axis r) → after ≤ℤ z → IsBefore edge z → covers r (square_of axis z along) ≡ covers r (square_of axis after along)
covers_across zero r along after z edge begins ends low before =
    ap (λ b. int_le r.x0 along && int_lt along r.x1 && (b && int_lt z r.y1)) (le_same r.y0 after z edge begins low before)
    ∙ ap (λ b. int_le r.x0 along && int_lt along r.x1 && (int_le r.y0 after && b)) (lt_same r.y1 after z edge ends low before)
covers_across (suc n) r along after z edge begins ends low before =
    ap (λ b. b && int_lt z r.x1 && (int_le r.y0 along && int_lt along r.y1)) (le_same r.x0 after z edge begins low before)
    ∙ ap (λ b. int_le r.x0 after && b && (int_le r.y0 along && int_lt along r.y1)) (lt_same r.x1 after z edge ends low before)

-- squares that each tile covers alike have one owner
same_owner : (tiles : List Tile) (best : Option Tile) (layer : ℕ) (p q : Pt) → ByRecursion (λ t. covers t.rect p ≡ covers t.rect q) tiles → fold (next_owner layer p) best tiles ≡ fold (next_owner layer q) best tiles
same_owner [] best layer p q same = refl
same_owner (t ∷ ts) best layer p q same =
    ap (λ b. fold (next_owner layer p) (cond ((t.layer == layer) && b) (Some (least_of best t)) best) ts) same.0
    ∙ same_owner ts (next_owner layer q best t) layer p q same.1

pub same_metal : (tiles : List Tile) (layer : ℕ) (p q : Pt) → All (λ t. covers t.rect p ≡ covers t.rect q) tiles → plane_of tiles layer p ≡ plane_of tiles layer q
same_metal tiles layer p q same =
    ap (option_map {U = Metal} (λ (t : Tile). (t.net, t.node))) (same_owner tiles None layer p q (recursion_from_All (λ t. covers t.rect p ≡ covers t.rect q) tiles same))

-- a line is the same from a place to the next edge
pub alike_along : (tiles : List Tile) (layer axis : ℕ) (at after z : ℤ) (edge : Option ℤ) → All (Passes axis after edge) tiles → after ≤ℤ z → IsBefore edge z → line_of (plane_of tiles) layer axis at z ≡ line_of (plane_of tiles) layer axis at after
alike_along tiles layer axis at after z edge passes low before =
    same_metal tiles layer (square_of axis at z) (square_of axis at after)
    (All-weaker (Passes axis after edge) (λ t. covers t.rect (square_of axis at z) ≡ covers t.rect (square_of axis at after)) (λ t p. covers_along axis t.rect at after z edge p.begins p.ends low before) tiles passes)

-- and lines are the same up to the next edge
pub alike_across : (tiles : List Tile) (layer axis : ℕ) (after z : ℤ) (edge : Option ℤ) → All (PassesLines axis after edge) tiles → after ≤ℤ z → IsBefore edge z → line_of (plane_of tiles) layer axis z ≡ line_of (plane_of tiles) layer axis after
alike_across tiles layer axis after z edge passes low before = λ i along.
    same_metal tiles layer (square_of axis z along) (square_of axis after along)
    (All-weaker (PassesLines axis after edge) (λ t. covers t.rect (square_of axis z along) ≡ covers t.rect (square_of axis after along)) (λ t p. covers_across axis t.rect along after z edge p.begins p.ends low before) tiles passes) i

-- ---- how far the edges are

place_near : (axis : ℕ) (r : Rect) → IsNearRect r → (first_place axis r ≤ℤ pos (2 ^ 29 + 1)) × (end_place axis r ≤ℤ pos (2 ^ 29 + 1))
place_near zero r h = let w = h.wide in let n = h.right in (omega (arith, ints, w, n), n)
place_near (suc k) r h = let w = h.high in let n = h.above in (omega (arith, ints, w, n), n)

line_near : (axis : ℕ) (r : Rect) → IsNearRect r → (first_line axis r ≤ℤ pos (2 ^ 29 + 1)) × (end_line axis r ≤ℤ pos (2 ^ 29 + 1))
line_near zero r h = let w = h.high in let n = h.above in (omega (arith, ints, w, n), n)
line_near (suc k) r h = let w = h.wide in let n = h.right in (omega (arith, ints, w, n), n)

pub near_ends : (edge : Option ℤ) (low high after most : ℤ) → low ≤ℤ most → high ≤ℤ most → IfSome edge (λ e. e ≤ℤ most) → IfSome (sooner_ends edge low high after) (λ e. e ≤ℤ most)
near_ends edge low high after most l h near = near_still (sooner edge low after) high after most h (near_still edge low after most l near)

pub near_places : (edge : Option ℤ) (axis : ℕ) (after : ℤ) (tiles : List Tile) (i : ℕ) (d : Tile) → i < length tiles → All (λ t. IsNearRect t.rect) tiles → IfSome edge (λ e. e ≤ℤ pos (2 ^ 29 + 1)) → IfSome (sooner_ends edge (first_place axis (get_or tiles i d).rect) (end_place axis (get_or tiles i d).rect) after) (λ e. e ≤ℤ pos (2 ^ 29 + 1))
near_places edge axis after tiles i d within near so_far =
    let t = get_or tiles i d in
    let here : IsNearRect t.rect = near i d within in
    let ends = place_near axis t.rect here in
    near_ends edge (first_place axis t.rect) (end_place axis t.rect) after (pos (2 ^ 29 + 1)) ends.0 ends.1 so_far

pub near_lines : (edge : Option ℤ) (axis : ℕ) (after : ℤ) (tiles : List Tile) (i : ℕ) (d : Tile) → i < length tiles → All (λ t. IsNearRect t.rect) tiles → IfSome edge (λ e. e ≤ℤ pos (2 ^ 29 + 1)) → IfSome (sooner_ends edge (first_line axis (get_or tiles i d).rect) (end_line axis (get_or tiles i d).rect) after) (λ e. e ≤ℤ pos (2 ^ 29 + 1))
near_lines edge axis after tiles i d within near so_far =
    let t = get_or tiles i d in
    let here : IsNearRect t.rect = near i d within in
    let ends = line_near axis t.rect here in
    near_ends edge (first_line axis t.rect) (end_line axis t.rect) after (pos (2 ^ 29 + 1)) ends.0 ends.1 so_far

pub above_ends : (edge : Option ℤ) (low high after : ℤ) → IfSome edge (λ e. after <ℤ e) → IfSome (sooner_ends edge low high after) (λ e. after <ℤ e)
above_ends edge low high after h = above_still (sooner edge low after) high after (above_still edge low after h)

-- ---- where no tile reaches

-- all that is near
abbrev all_near : Rect
all_near = record { x0 = negsuc (2 ^ 29); y0 = negsuc (2 ^ 29); x1 = pos (2 ^ 29 + 1); y1 = pos (2 ^ 29 + 1) }

holds_near : (tiles : List Tile) → All (λ t. IsNearRect t.rect) tiles → HoldsTiles all_near tiles
holds_near tiles near = All-weaker (λ t. IsNearRect t.rect) (λ t. IsInside t.rect all_near) (λ t h. record { left = h.left; right = h.right; below = h.below; above = h.above }) tiles near

place_out : (axis : ℕ) (at z : ℤ) → (z <ℤ negsuc (2 ^ 29)) ⊎ (pos (2 ^ 29 + 1) ≤ℤ z) → covers all_near (square_of axis at z) ≡ false
place_out zero at z out = false_from_ne_true (covers all_near (square_of 0 at z)) (λ h. let c = covered all_near (square_of 0 at z) h in ⊎_elim (λ (l : z <ℤ negsuc (2 ^ 29)). absurd (omega (arith, ints, c.left))) (λ (r : pos (2 ^ 29 + 1) ≤ℤ z). absurd (omega (arith, ints, c.right))) out)
place_out (suc n) at z out = false_from_ne_true (covers all_near (square_of (suc n) at z)) (λ h. let c = covered all_near (square_of (suc n) at z) h in ⊎_elim (λ (l : z <ℤ negsuc (2 ^ 29)). absurd (omega (arith, ints, c.below))) (λ (r : pos (2 ^ 29 + 1) ≤ℤ z). absurd (omega (arith, ints, c.above))) out)

-- below the least coordinate and from the greatest on there is no metal
pub bare_out : (tiles : List Tile) (layer axis : ℕ) (at z : ℤ) → All (λ t. IsNearRect t.rect) tiles → (z <ℤ negsuc (2 ^ 29)) ⊎ (pos (2 ^ 29 + 1) ≤ℤ z) → line_of (plane_of tiles) layer axis at z ≡ None
bare_out tiles layer axis at z near out = tiles_hold_metal all_near tiles (holds_near tiles near) layer (square_of axis at z) (place_out axis at z out)

-- where no tile begins or ends above a place, there is none from it on
pub bare_from : (tiles : List Tile) (layer axis : ℕ) (at after z : ℤ) → All (λ t. IsNearRect t.rect) tiles → All (Passes axis after None) tiles → after ≤ℤ pos (2 ^ 29 + 1) → after ≤ℤ z → line_of (plane_of tiles) layer axis at z ≡ None
bare_from tiles layer axis at after z near passes most low =
    alike_along tiles layer axis at after z None passes low tt
    ∙ (sym (alike_along tiles layer axis at after (pos (2 ^ 29 + 1)) None passes most tt)
    ∙ bare_out tiles layer axis at (pos (2 ^ 29 + 1)) near (inr (omega (arith, ints))))
