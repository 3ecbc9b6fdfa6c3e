-- A via that is made of shapes on layers that are there, and that can be used, joins two layers by cuts.
use Rattle.std.proofs.Common.{◌≡◌, ◌⊎◌, inl, inr, ◌+◌, ◌-◌, ◌*◌, ◌<◌, ◌≤◌, ◌^◌, ◌<ℤ◌, ◌≤ℤ◌, ℕ, ℤ, Bool, true, false, cond, List, [], ◌∷◌, length, get_or, refl, ap, arith}
use Rattle.std.specs.Prelude.{Option, Some, None, All, min, max, ◌==◌, ◌&&◌, ◌||◌, pos, negsuc, ◌+ℤ◌, ◌-ℤ◌, ◌*ℤ◌, nat_lt, int_lt, unsigned_abs}
use Rattle.std.specs.List.{fold, list_all, filter_map}
use Rattle.std.proofs.lemmas.Int.{ints}
use Rattle.std.proofs.Math.IntN.{pos-*ℤ-pos}
use Rattle.std.proofs.Math.Nat.{mul-pos}
use Rattle.std.proofs.lemmas.List.Elements.{All-nil, All-cons, All-head, All-tail, Contains-get_or}
use Rattle.rc_fixed.proofs.Members.{all_pass}
use Rattle.rc_fixed.proofs.Tests.{nat_lt_tells, int_le_tells}
use Rattle.rc_geom.specs.declared.rect.Rect.{Rect}
use Rattle.rc_geom.specs.Bounds.{is_coordinate, is_within}
use Rattle.rc_geom.specs.Split.{IsCoordinate}
use Rattle.rc_lef.specs.declared.tech.LayerKind.{LayerKind}
use Rattle.rc_lef.specs.declared.tech.LayerKind.TheVariants as kinds
use Rattle.rc_lef.specs.declared.usable.Array.{Array}
use Rattle.rc_lef.specs.declared.usable.Span.{Span}
use Rattle.rc_lef.specs.Facts.{IsShape, IsPad, IsVia}
use Rattle.rc_lef.specs.Usable.{unusable, lowest, highest, joins_two, can_be_used, used_via, via_of, pad_of, cut_of, is_metal_or_cut, drawn_via, extent, from_below, coordinate, both_ends, near_ends, rect_of_ends, near_array, in_order, cuts_in, made_of, made_via}
use Rattle.rc_lef.proofs.SmallTests.{both}

-- ---- layers that are there, and rectangles on them

-- the number of a layer is below that of the layers of its kind
abbrev pub IsThere : ℕ → ℕ → LayerKind → Type 0
IsThere routing cuts (kinds.Routing number) = number < routing
IsThere routing cuts (kinds.Cut number) = number < cuts
IsThere routing cuts kinds.Other = Unit {0}

-- a rectangle has an area
abbrev pub HasArea : Rect → Type 0
HasArea r = (r.x0 <ℤ r.x1) × (r.y0 <ℤ r.y1)

abbrev pub IsDrawnThere : ℕ → ℕ → LayerKind × Rect → Type 0
IsDrawnThere routing cuts (kind, rect) = IsThere routing cuts kind × HasArea rect

abbrev IsPart : ℕ → ℕ × Rect → Type 0
IsPart routing (layer, rect) = (layer < routing) × HasArea rect

-- ---- what passes a test

pub what_passes : {X : Type 0} (test : X → Bool) (P Q : X → Type 0) → ((x : X) → test x ≡ true → P x → Q x) → (xs : List X) → list_all test xs ≡ true → All P xs → All Q xs
what_passes test P Q law xs pass all = λ k d within. law (get_or xs k d) (all_pass test xs (get_or xs k d) pass (Contains-get_or xs k d within)) (all k d within)

coordinate_passes : (z : ℤ) → is_coordinate z ≡ true → IsCoordinate z
coordinate_passes z is = let e = both _ _ is in record { low = int_le_tells _ _ e.0; high = int_le_tells _ _ e.1 }

shape_passes : (r : Rect) → is_within r ≡ true → HasArea r → IsShape r
shape_passes r is area =
    let e = both _ _ is in
    let lower = both _ _ e.0 in
    let upper = both _ _ e.1 in
    record { left = coordinate_passes r.x0 lower.0; below = coordinate_passes r.y0 lower.1; right = coordinate_passes r.x1 upper.0; above = coordinate_passes r.y1 upper.1; wide = area.0; high = area.1 }

-- ---- the highest layer of pads

rises : (n m routing : ℕ) (pads : List (ℕ × Rect)) → m + 1 ≤ max (n + 1) routing → All (IsPart routing) pads → fold (λ n (pad : ℕ × Rect). max n pad.0) m pads + 1 ≤ max (n + 1) routing
rises n m routing [] le all = le
rises n m routing (pad ∷ pads) le all =
    let e = (All-head (IsPart routing) pad pads all).0 in
    rises n (max m pad.0) routing pads (omega (arith, le, e)) (All-tail (IsPart routing) pad pads all)

highest_there : (routing : ℕ) (pads : List (ℕ × Rect)) → All (IsPart routing) pads → lowest pads < highest pads → highest pads < routing
highest_there routing pads all lt = let e = rises 0 0 routing pads (omega arith) all in omega (arith, lt, e)

-- ---- a via by its pads and cuts

either : (a b : ℕ) (n : ℕ) → ((n == a) || (n == b)) ≡ true → (n ≡ a) ⊎ (n ≡ b)
either a b n is = by (n == a) refl is
  where
    by : (t : Bool) → (n == a) ≡ t → (t || (n == b)) ≡ true → (n ≡ a) ⊎ (n ≡ b)
    by true e other = inl (grind arith)
    by false e other = inr (grind arith)

used_pads : (a b : ℕ) (pads : List (ℕ × Rect)) (routing : ℕ) → list_all (λ (pad : ℕ × Rect). (pad.0 == a) || (pad.0 == b)) pads ≡ true → list_all (λ (pad : ℕ × Rect). is_within pad.1) pads ≡ true → All (IsPart routing) pads → All (IsPad a b) pads
used_pads a b pads routing on within all =
    let shapes = what_passes (λ (pad : ℕ × Rect). is_within pad.1) (IsPart routing) (λ pad. IsShape pad.1) (λ (pad : ℕ × Rect) is part. shape_passes pad.1 is part.1) pads within all in
    what_passes (λ (pad : ℕ × Rect). (pad.0 == a) || (pad.0 == b)) (λ pad. IsShape pad.1) (IsPad a b) (λ (pad : ℕ × Rect) is shape. (either a b pad.0 is, shape)) pads on shapes

used : (routing cuts : ℕ) (name : List ℕ) (t allowed : Bool) (pads : List (ℕ × Rect)) (others : List ℕ) (cut count : ℕ) → can_be_used allowed pads others cut ≡ t → All (IsPart routing) pads → cut < cuts → 1 ≤ count
    → IsVia routing cuts (cond t (used_via name pads cut count) (unusable name))
used routing cuts name true allowed pads others cut count test all there some = λ _.
    let parts = both (allowed && list_all (λ other. other == cut) others) (joins_two pads && list_all (λ pad. is_within pad.1) pads) test in
    let shaped = both (joins_two pads) (list_all (λ pad. is_within pad.1) pads) parts.1 in
    let two = both (nat_lt (lowest pads) (highest pads)) (list_all (λ pad. (pad.0 == lowest pads) || (pad.0 == highest pads)) pads) shaped.0 in
    let lt = nat_lt_tells (lowest pads) (highest pads) two.0 in
    record { order = lt; upper = highest_there routing pads all lt; cut = there; cuts = some; pads = used_pads (lowest pads) (highest pads) pads routing two.1 shaped.1 all }
used routing cuts name false allowed pads others cut count test all there some = λ is. absurd cc

of_parts : (routing cuts : ℕ) (name : List ℕ) (allowed : Bool) (pads : List (ℕ × Rect)) (others : List ℕ) (count : ℕ) → All (IsPart routing) pads → All (λ cut. cut < cuts) others → (1 ≤ length others → 1 ≤ count) → IsVia routing cuts (via_of name allowed pads others count)
unfolding via_of
of_parts routing cuts name allowed pads [] count all there some = λ is. absurd cc
of_parts routing cuts name allowed pads (cut ∷ others) count all there some =
    used routing cuts name (can_be_used allowed pads (cut ∷ others) cut) allowed pads (cut ∷ others) cut count refl all (All-head (λ cut. cut < cuts) cut others there) (some (omega arith))

-- ---- a via by its rectangles

pads_there : (routing cuts : ℕ) (rects : List (LayerKind × Rect)) → All (IsDrawnThere routing cuts) rects → All (IsPart routing) (filter_map pad_of rects)
pads_there routing cuts [] all = All-nil (IsPart routing)
pads_there routing cuts ((kinds.Routing number, rect) ∷ rects) all =
    All-cons (IsPart routing) (number, rect) (filter_map pad_of rects) (All-head (IsDrawnThere routing cuts) (kinds.Routing number, rect) rects all) (pads_there routing cuts rects (All-tail (IsDrawnThere routing cuts) (kinds.Routing number, rect) rects all))
pads_there routing cuts ((kinds.Cut number, rect) ∷ rects) all = pads_there routing cuts rects (All-tail (IsDrawnThere routing cuts) (kinds.Cut number, rect) rects all)
pads_there routing cuts ((kinds.Other, rect) ∷ rects) all = pads_there routing cuts rects (All-tail (IsDrawnThere routing cuts) (kinds.Other, rect) rects all)

cuts_there : (routing cuts : ℕ) (rects : List (LayerKind × Rect)) → All (IsDrawnThere routing cuts) rects → All (λ cut. cut < cuts) (filter_map cut_of rects)
cuts_there routing cuts [] all = All-nil (λ cut. cut < cuts)
cuts_there routing cuts ((kinds.Routing number, rect) ∷ rects) all = cuts_there routing cuts rects (All-tail (IsDrawnThere routing cuts) (kinds.Routing number, rect) rects all)
cuts_there routing cuts ((kinds.Cut number, rect) ∷ rects) all =
    All-cons (λ cut. cut < cuts) number (filter_map cut_of rects) (All-head (IsDrawnThere routing cuts) (kinds.Cut number, rect) rects all).0 (cuts_there routing cuts rects (All-tail (IsDrawnThere routing cuts) (kinds.Cut number, rect) rects all))
cuts_there routing cuts ((kinds.Other, rect) ∷ rects) all = cuts_there routing cuts rects (All-tail (IsDrawnThere routing cuts) (kinds.Other, rect) rects all)

pub drawn_is_via : (routing cuts : ℕ) (name : List ℕ) (plain : Bool) (rects : List (LayerKind × Rect)) → All (IsDrawnThere routing cuts) rects → IsVia routing cuts (drawn_via name plain rects)
unfolding drawn_via
drawn_is_via routing cuts name plain rects all =
    of_parts routing cuts name (plain && list_all (λ (rect : LayerKind × Rect). is_metal_or_cut rect.0) rects) (filter_map pad_of rects) (filter_map cut_of rects) (min (length (filter_map cut_of rects)) (2 ^ 32 - 1))
    (pads_there routing cuts rects all) (cuts_there routing cuts rects all) (λ some. omega (arith, some))

-- ---- a via by the numbers of its array of cuts

-- sizes are above 0, spacings and what pads go beyond the array are at least 0, and there is a cut
pub record IsArray (a : Array) : Type 0 where
  pub cut_x : pos 1 ≤ℤ a.cut_x
  pub cut_y : pos 1 ≤ℤ a.cut_y
  pub space_x : pos 0 ≤ℤ a.space_x
  pub space_y : pos 0 ≤ℤ a.space_y
  pub first_x : pos 0 ≤ℤ a.first_x
  pub first_y : pos 0 ≤ℤ a.first_y
  pub third_x : pos 0 ≤ℤ a.third_x
  pub third_y : pos 0 ≤ℤ a.third_y
  pub rows : pos 1 ≤ℤ a.rows
  pub columns : pos 1 ≤ℤ a.columns

product_some : (a b : ℤ) → pos 1 ≤ℤ a → pos 1 ≤ℤ b → pos 1 ≤ℤ (a *ℤ b)
product_some (pos m) (pos n) one some = let e : 0 < m * n = mul-pos (omega (arith, ints, one)) (omega (arith, ints, some)) in rw (pos-*ℤ-pos m n) (omega (arith, ints, e))
product_some (pos m) (negsuc n) one some = absurd (omega (arith, ints, some))
product_some (negsuc m) b one some = absurd (omega (arith, ints, one))

product_least : (a b : ℤ) → pos 0 ≤ℤ a → pos 0 ≤ℤ b → pos 0 ≤ℤ (a *ℤ b)
product_least (pos m) (pos n) one some = rw (pos-*ℤ-pos m n) (omega (arith, ints))
product_least (pos m) (negsuc n) one some = absurd (omega (arith, ints, some))
product_least (negsuc m) b one some = absurd (omega (arith, ints, one))

one_less : (z : ℤ) → pos 1 ≤ℤ z → pos 0 ≤ℤ (z -ℤ pos 1)
one_less z some = omega (arith, ints, some)

sum_some : (a b : ℤ) → pos 1 ≤ℤ a → pos 0 ≤ℤ b → pos 1 ≤ℤ (a +ℤ b)
sum_some a b some least = omega (arith, ints, some, least)

extent_some : (count size space : ℤ) → pos 1 ≤ℤ count → pos 1 ≤ℤ size → pos 0 ≤ℤ space → pos 1 ≤ℤ extent count size space
extent_some count size space one some least = sum_some (count *ℤ size) ((count -ℤ pos 1) *ℤ space) (product_some count size one some) (product_least (count -ℤ pos 1) space (one_less count one) least)

coordinate_is : (z w : ℤ) → coordinate z ≡ Some w → z ≡ w
coordinate_is z w is = by (int_lt z (negsuc (2 ^ 29 - 1)) || int_lt (pos (2 ^ 29)) z) is
  where
    by : (t : Bool) → cond t None (Some z) ≡ Some w → z ≡ w
    by true e = absurd cc
    by false e = cc

ends_are : (low high : Option ℤ) (s : Span) → both_ends low high ≡ Some s → (low ≡ Some s.low) × (high ≡ Some s.high)
ends_are (Some a) (Some b) s is = let e : record { low = a; high = b } ≡ s = cc in (ap (λ (s : Span). Some s.low) e, ap (λ (s : Span). Some s.high) e)
ends_are (Some a) None s is = absurd cc
ends_are None high s is = absurd cc

span_some : (size more : ℤ) (s : Span) → pos 1 ≤ℤ size → pos 0 ≤ℤ more → near_ends size more ≡ Some s → s.low <ℤ s.high
span_some size more s some least is =
    let below : ℤ = from_below size -ℤ more in
    let above : ℤ = from_below size +ℤ size +ℤ more in
    let e = ends_are (coordinate below) (coordinate above) s is in
    let low = coordinate_is below s.low e.0 in
    let high = coordinate_is above s.high e.1 in
    rw (← low, ← high) (apart (from_below size) size more some least)
  where
    apart : (half size more : ℤ) → pos 1 ≤ℤ size → pos 0 ≤ℤ more → (half -ℤ more) <ℤ (half +ℤ size +ℤ more)
    apart half size more some least = omega (arith, ints, some, least)

rect_some : (along across : Option Span) (r : Rect) → rect_of_ends along across ≡ Some r → ((s : Span) → along ≡ Some s → s.low <ℤ s.high) → ((s : Span) → across ≡ Some s → s.low <ℤ s.high) → HasArea r
rect_some (Some a) (Some b) r is wide high = let e : record { x0 = a.low; y0 = b.low; x1 = a.high; y1 = b.high } ≡ r = cc in rw (← e) (wide a refl, high b refl)
rect_some (Some a) None r is wide high = absurd cc
rect_some None across r is wide high = absurd cc

array_some : (a : Array) (x y : ℤ) (r : Rect) → IsArray a → pos 0 ≤ℤ x → pos 0 ≤ℤ y → near_array a x y ≡ Some r → HasArea r
unfolding near_array
array_some a x y r is least_x least_y near =
    rect_some (near_ends (extent a.columns a.cut_x a.space_x) x) (near_ends (extent a.rows a.cut_y a.space_y) y) r near
    (λ s same. span_some (extent a.columns a.cut_x a.space_x) x s (extent_some a.columns a.cut_x a.space_x is.columns is.cut_x is.space_x) least_x same)
    (λ s same. span_some (extent a.rows a.cut_y a.space_y) y s (extent_some a.rows a.cut_y a.space_y is.rows is.cut_y is.space_y) least_y same)

some_abs : (z : ℤ) → pos 1 ≤ℤ z → 0 < unsigned_abs z
some_abs z some = grind (arith, ints)

cuts_some : (rows columns : ℤ) → pos 1 ≤ℤ rows → pos 1 ≤ℤ columns → 1 ≤ unsigned_abs rows * unsigned_abs columns
cuts_some rows columns one some = let e : 0 < unsigned_abs rows * unsigned_abs columns = mul-pos (some_abs rows one) (some_abs columns some) in omega (arith, e)

two_parts : (routing : ℕ) (p q : ℕ × Rect) → IsPart routing p → IsPart routing q → All (IsPart routing) (in_order p q)
two_parts routing p q part_p part_q = by (nat_lt q.0 p.0)
  where
    two : (a b : ℕ × Rect) → IsPart routing a → IsPart routing b → All (IsPart routing) (a ∷ b ∷ [])
    two a b part_a part_b = All-cons (IsPart routing) a (b ∷ []) part_a (All-cons (IsPart routing) b [] part_b (All-nil (IsPart routing)))

    by : (t : Bool) → All (IsPart routing) (cond t (q ∷ p ∷ []) (p ∷ q ∷ []))
    by true = two q p part_q part_p
    by false = two p q part_p part_q

made_near : (routing cuts : ℕ) (name : List ℕ) (plain : Bool) (first cut third count : ℕ) (below above : Option Rect) → first < routing → cut < cuts → third < routing → 1 ≤ count
    → ((r : Rect) → below ≡ Some r → HasArea r) → ((r : Rect) → above ≡ Some r → HasArea r) → IsVia routing cuts (made_of name plain first cut third count below above)
made_near routing cuts name plain first cut third count (Some below) (Some above) lower there upper some area_below area_above =
    of_parts routing cuts name plain (in_order (first, below) (third, above)) (cut ∷ []) count (two_parts routing (first, below) (third, above) (lower, area_below below refl) (upper, area_above above refl))
    (All-cons (λ cut. cut < cuts) cut [] there (All-nil (λ cut. cut < cuts))) (λ _. some)
made_near routing cuts name plain first cut third count (Some below) None lower there upper some area_below area_above = λ is. absurd cc
made_near routing cuts name plain first cut third count None above lower there upper some area_below area_above = λ is. absurd cc

pub made_is_via : (routing cuts : ℕ) (name : List ℕ) (plain : Bool) (first second third : LayerKind) (a : Array) → IsThere routing cuts first → IsThere routing cuts second → IsThere routing cuts third → IsArray a → IsVia routing cuts (made_via name plain first second third a)
unfolding made_via
made_is_via routing cuts name plain (kinds.Routing first) (kinds.Cut cut) (kinds.Routing third) a lower there upper is =
    made_near routing cuts name plain first cut third (cuts_in a) (near_array a a.first_x a.first_y) (near_array a a.third_x a.third_y) lower there upper (cuts_some a.rows a.columns is.rows is.columns)
    (λ r near. array_some a a.first_x a.first_y r is is.first_x is.first_y near) (λ r near. array_some a a.third_x a.third_y r is is.third_x is.third_y near)
made_is_via routing cuts name plain _ _ _ a lower there upper is = λ is. absurd cc
