-- Two lists of tiles in which each tile stands as often: what holds of the one holds of the other.
use Rattle.std.proofs.Common.{◌≡◌, ◌≢◌, ◌<◌, ◌≤◌, ⊎_elim, ℕ, Bool, true, false, cond, List, [], ◌∷◌, ◌++◌, refl, ap, sym, subst, ◌∙◌, arith}
use Rattle.std.specs.Prelude.{Contains, ◌==◌, ◌&&◌}
use Rattle.std.specs.List.{sum_by}
use Rattle.std.specs.Ordering.{int_eq}
use Rattle.std.proofs.lemmas.Bool.{and_parts, eqb-true, eq-eqb}
use Rattle.std.proofs.lemmas.Bool.Decides.{Decides-int_eq}
use Rattle.std.proofs.lemmas.List.Elements.{All-contains, Contains-append_left, Contains-append_right, Contains-append_cases}
use Rattle.std.proofs.lemmas.List.Sums.{sum_by-cons, sum_by-append}
use Rattle.rc_fixed.proofs.Members.{none_in, at_head, in_tail, head_or_tail}
use Rattle.rc_geom.specs.declared.rect.Rect.{Rect}
use Rattle.rc_geom.specs.declared.tile.Tile.{Tile}
use Rattle.rc_geom.specs.Rects.{IsNearRect}
use Rattle.rc_geom.specs.Context.{layer_count}
use Rattle.rc_geom.specs.Plane.{plane_of, Overlaps}
use Rattle.rc_geom.proofs.Owners.{members_decide}
use Rattle.rc_nodes.proofs.Bounded.{all_from}
use Rattle.rc_windows.specs.Laws.{AreAlike}
use Rattle.rc_windows.specs.Sweeps.{AreSweepable}
use Rattle.rc_engine.proofs.Rises.{Rises, pairs_of_rises, rises_of_pairs}

-- ---- whether two tiles are one

unfoldable one_rect : Rect → Rect → Bool
one_rect a b = (int_eq a.x0 b.x0 && int_eq a.y0 b.y0) && (int_eq a.x1 b.x1 && int_eq a.y1 b.y1)

unfoldable one_tile : Tile → Tile → Bool
one_tile a b = ((a.net == b.net) && (a.node == b.node)) && (((a.layer == b.layer) && (a.rank == b.rank)) && one_rect a.rect b.rect)

rect_is_one : (a b : Rect) → one_rect a b ≡ true → a ≡ b
unfolding one_rect
rect_is_one a b h =
    let both = and_parts (int_eq a.x0 b.x0 && int_eq a.y0 b.y0) (int_eq a.x1 b.x1 && int_eq a.y1 b.y1) h in
    let low = and_parts (int_eq a.x0 b.x0) (int_eq a.y0 b.y0) both.0 in
    let high = and_parts (int_eq a.x1 b.x1) (int_eq a.y1 b.y1) both.1 in
    let x0 = (Decides-int_eq a.x0 b.x0).0 low.0 in
    let y0 = (Decides-int_eq a.y0 b.y0).0 low.1 in
    let x1 = (Decides-int_eq a.x1 b.x1).0 high.0 in
    let y1 = (Decides-int_eq a.y1 b.y1).0 high.1 in
    λ i. record { x0 = x0 i; y0 = y0 i; x1 = x1 i; y1 = y1 i }

tile_is_one : (a b : Tile) → one_tile a b ≡ true → a ≡ b
unfolding one_tile
tile_is_one a b h =
    let both = and_parts ((a.net == b.net) && (a.node == b.node)) (((a.layer == b.layer) && (a.rank == b.rank)) && one_rect a.rect b.rect) h in
    let owner = and_parts (a.net == b.net) (a.node == b.node) both.0 in
    let rest = and_parts ((a.layer == b.layer) && (a.rank == b.rank)) (one_rect a.rect b.rect) both.1 in
    let place = and_parts (a.layer == b.layer) (a.rank == b.rank) rest.0 in
    let net = eqb-true a.net b.net owner.0 in
    let node = eqb-true a.node b.node owner.1 in
    let layer = eqb-true a.layer b.layer place.0 in
    let rank = eqb-true a.rank b.rank place.1 in
    let rect = rect_is_one a.rect b.rect rest.1 in
    λ i. record { net = net i; node = node i; layer = layer i; rect = rect i; rank = rank i }

all_so : (a b c d e : Bool) → a ≡ true → b ≡ true → c ≡ true → d ≡ true → e ≡ true → ((a && b) && ((c && d) && e)) ≡ true
all_so a b c d e p q r s t = grind arith

four_so : (a b c d : Bool) → a ≡ true → b ≡ true → c ≡ true → d ≡ true → ((a && b) && (c && d)) ≡ true
four_so a b c d p q r s = grind arith

rect_itself : (r : Rect) → one_rect r r ≡ true
unfolding one_rect
rect_itself r =
    four_so (int_eq r.x0 r.x0) (int_eq r.y0 r.y0) (int_eq r.x1 r.x1) (int_eq r.y1 r.y1)
    ((Decides-int_eq r.x0 r.x0).1 refl) ((Decides-int_eq r.y0 r.y0).1 refl) ((Decides-int_eq r.x1 r.x1).1 refl) ((Decides-int_eq r.y1 r.y1).1 refl)

one_itself : (t : Tile) → one_tile t t ≡ true
unfolding one_tile
one_itself t =
    all_so (t.net == t.net) (t.node == t.node) (t.layer == t.layer) (t.rank == t.rank) (one_rect t.rect t.rect)
    (eq-eqb t.net t.net refl) (eq-eqb t.node t.node refl) (eq-eqb t.layer t.layer refl) (eq-eqb t.rank t.rank refl) (rect_itself t.rect)

-- ---- how often a tile stands in a list

unfoldable stand : Tile → Tile → ℕ
stand t u = cond (one_tile t u) 1 0

is_itself : (t : Tile) → stand t t ≡ 1
unfolding stand
is_itself t = ap (λ (b : Bool). cond b 1 0) (one_itself t)

is_not : (t u : Tile) → one_tile t u ≡ false → stand t u ≡ 0
unfolding stand
is_not t u h = ap (λ (b : Bool). cond b 1 0) h

stands : (t : Tile) (us : List Tile) → 1 ≤ sum_by (stand t) us → Contains us t
stands t [] h = absurd (omega (arith, h))
stands t (u ∷ us) h = by (λ some. stands t us some) (one_tile t u) refl
  where
    by : (1 ≤ sum_by (stand t) us → Contains us t) → (b : Bool) → one_tile t u ≡ b → Contains (u ∷ us) t
    by rest true same = at_head u us t (sym (tile_is_one t u same))
    by rest false differs =
        let none = is_not t u differs in
        let sum = sum_by-cons (stand t) u us in
        in_tail u us t (rest (omega (arith, h, none, sum)))

counted : (t : Tile) (us : List Tile) → Contains us t → 1 ≤ sum_by (stand t) us
counted t [] h = absurd (none_in t h)
counted t (u ∷ us) h =
    let sum = sum_by-cons (stand t) u us in
    ⊎_elim
    (λ (here : u ≡ t). let one : stand t u ≡ 1 = ap (stand t) here ∙ is_itself t in omega (arith, sum, one))
    (λ (there : Contains us t). let more = counted t us there in omega (arith, sum, more))
    (head_or_tail u us t h)

pub alike_in : (t : Tile) (ts us : List Tile) → AreAlike ts us → Contains ts t → Contains us t
alike_in t ts us alike h =
    let same = alike (stand t) in
    let some = counted t ts h in
    stands t us (omega (arith, same, some))

-- ---- one tile taken out of a list

record Taken {X : Type 0} (x : X) (xs : List X) : Type 0 where
  before : List X
  after : List X
  whole : before ++ x ∷ after ≡ xs

taken : {X : Type 0} (x : X) (xs : List X) → Contains xs x → Taken x xs
taken x [] h = absurd (none_in x h)
taken {X} x (y ∷ ys) h = ⊎_elim
    (λ (here : y ≡ x). record { before = []; after = ys; whole = ap (λ (z : X). z ∷ ys) (sym here) })
    (λ (there : Contains ys x). let rest = taken x ys there in record { before = y ∷ rest.before; after = rest.after; whole = ap (λ (zs : List X). y ∷ zs) rest.whole })
    (head_or_tail y ys x h)

alike_rest : (t : Tile) (ts us before after : List Tile) → before ++ t ∷ after ≡ us → AreAlike (t ∷ ts) us → AreAlike ts (before ++ after)
alike_rest t ts us before after whole alike f =
    let all = alike f in
    let first = sum_by-cons f t ts in
    let parts = ap (sum_by f) (sym whole) ∙ sum_by-append f before (t ∷ after) in
    let one = sum_by-cons f t after in
    let rest = sum_by-append f before after in
    omega (arith, all, first, parts, one, rest)

within_more : {X : Type 0} (x y : X) (before after : List X) → Contains (before ++ after) y → Contains (before ++ x ∷ after) y
within_more x y before after h = ⊎_elim
    (λ (here : Contains before y). Contains-append_left before (x ∷ after) y here)
    (λ (there : Contains after y). Contains-append_right before (x ∷ after) y (in_tail x after y there))
    (Contains-append_cases before after y h)

-- in a relation that goes both ways, one is in order with all others
without_one : {X : Type 0} (R : X → X → Type 0) → ((a b : X) → R a b → R b a) → (x : X) (before after : List X) → Rises R (before ++ x ∷ after) → ((y : X) → Contains (before ++ after) y → R x y) × Rises R (before ++ after)
without_one R back x [] after h = (h.0, h.1)
without_one {X} R back x (a ∷ before) after h =
    let rest = without_one R back x before after h.1 in (
      λ y there. ⊎_elim
          (λ (here : a ≡ y). subst (R x) here (back a x (h.0 x (Contains-append_right before (x ∷ after) x (at_head x after x refl)))))
          (λ (later : Contains (before ++ after) y). rest.0 y later)
          (head_or_tail a (before ++ after) y there),
      ((λ y there. h.0 y (within_more x y before after there)), rest.1),
    )

alike_rises : (R : Tile → Tile → Type 0) → ((a b : Tile) → R a b → R b a) → (ts us : List Tile) → AreAlike ts us → Rises R us → Rises R ts
alike_rises R back [] us alike h = tt
alike_rises R back (t ∷ ts) us alike h =
    let at = taken t us (alike_in t (t ∷ ts) us alike (at_head t ts t refl)) in
    let one = without_one R back t at.before at.after (subst (Rises R) (sym at.whole) h) in
    let rest = alike_rest t ts us at.before at.after at.whole alike in
    ((λ y there. one.0 y (alike_in y ts (at.before ++ at.after) rest there)), alike_rises R back ts (at.before ++ at.after) rest one.1)

-- ---- tiles that can be swept

abbrev Differ : Tile → Tile → Type 0
Differ a b = a.net ≡ b.net → Overlaps a b → a.rank ≢ b.rank

abbrev Apart : Tile → Tile → Type 0
Apart a b = a.net ≢ b.net → ¬ Overlaps a b

overlaps_back : (a b : Tile) → Overlaps a b → Overlaps b a
overlaps_back a b h = (sym h.0, (h.1.0, h.1.2, h.1.1))

differ_back : (a b : Tile) → Differ a b → Differ b a
differ_back a b h = λ same over rank. h (sym same) (overlaps_back b a over) (sym rank)

apart_back : (a b : Tile) → Apart a b → Apart b a
apart_back a b h = λ other over. h (λ same. other (sym same)) (overlaps_back b a over)

pub alike_sweepable : (has_rules : ℕ → Type 0) (ts us : List Tile) → AreAlike ts us → AreSweepable has_rules us → AreSweepable has_rules ts
alike_sweepable has_rules ts us alike can = record {
  near = all_from (λ (t : Tile). IsNearRect t.rect) ts (λ t h. All-contains (λ (u : Tile). IsNearRect u.rect) us t can.near (alike_in t ts us alike h));
  layers = all_from (λ (t : Tile). t.layer < layer_count) ts (λ t h. All-contains (λ (u : Tile). u.layer < layer_count) us t can.layers (alike_in t ts us alike h));
  ranks = pairs_of_rises Differ Differ ts (alike_rises Differ differ_back ts us alike (rises_of_pairs Differ us can.ranks)) (λ a b in_a in_b h. h);
  apart = pairs_of_rises Apart Apart ts (alike_rises Apart apart_back ts us alike (rises_of_pairs Apart us can.apart)) (λ a b in_a in_b h. h);
  rules = all_from (λ (t : Tile). has_rules t.layer) ts (λ t h. All-contains (λ (u : Tile). has_rules u.layer) us t can.rules (alike_in t ts us alike h));
}

pub alike_planes : (has_rules : ℕ → Type 0) (ts us : List Tile) → AreAlike ts us → AreSweepable has_rules us → plane_of ts ≡ plane_of us
alike_planes has_rules ts us alike can =
    members_decide us ts can.ranks can.apart (λ t h. alike_in t us ts (λ f. sym (alike f)) h) (λ t h. alike_in t ts us alike h)
