-- Centrelines in rows, and those of one line as one.
use Rattle.std.proofs.Common.{◌≡◌, ◌≤◌, ◌<◌, ◌+◌, ◌⊎◌, inl, inr, ⊎_elim, ℕ, zero, suc, ℤ, ◌≤ℤ◌, ◌<ℤ◌, Bool, true, false, cond, List, [], ◌∷◌, ◌++◌, take, drop, length, get_or, refl, ap, sym, ◌∙◌, subst, arith}
use Rattle.std.specs.Prelude.{Contains, filter, ◌↔◌, int_le, ◌==◌, ◌&&◌}
use Rattle.std.specs.List.{AllByRecursion}
use Rattle.std.specs.declared.cmp.Ordering.TheVariants.{Less}
use Rattle.std.specs.Int.{int_min, int_max}
use Rattle.std.specs.Ordering.{ordering_then, int_cmp, int_eq, is_lt}
use Rattle.std.proofs.lemmas.Int.{ints, by_lt_z}
use Rattle.std.proofs.lemmas.Bool.{true≢false, cases_order, and_parts, eqb-true}
use Rattle.std.proofs.lemmas.List.{append_assoc, drop_more, get_or_default}
use Rattle.std.proofs.lemmas.List.Elements.{All-from_recursion, recursion_from_All}
use Rattle.std.proofs.lemmas.List.Sorted.{sorted_far, ranks_by, IsPermutation-sym, Contains-permutation}
use Rattle.rc_geom.proofs.Bounds.{le_tells}
use Rattle.rc_layout.specs.declared.item.Item.{Item}
use Rattle.rc_nodes.specs.declared.centreline.Centreline.{Centreline}
use Rattle.rc_nodes.specs.declared.centreline.Rows.{Rows}
use Rattle.rc_nodes.specs.contracts.centreline.CentrelineOrd.TheImpl as order
use Rattle.rc_nodes.specs.contracts.centreline.CentrelineOrd.TheImpl.Laws.{total-law}
use Rattle.rc_nodes.specs.Crossings.{centrelines_of, IsMoved, IsInOrder, IsRowLe, InRows, HasPlace, overlaps, joined, merged_onto, merged, HaveSamePlaces, AreWithin}
use Rattle.rc_nodes.proofs.Sorted.{nat_is_less, nat_is_equal, int_is_less, contains_none, contains_cases, contains_first, contains_later}

-- ---- rows

pub row_itself : (a : Centreline) → IsRowLe a a
row_itself a = inr (refl, omega (arith, ints))

-- a centreline that isn't below another stands no lower than it
no_lower : (a b : Centreline) → is_lt (order.ghosts.cmp b a) ≡ false → IsRowLe a b
no_lower a b h =
    ⊎_elim
    (λ same. by_lt_z b.line a.line
    (λ less. absurd (true≢false (sym (ap is_lt (line_less same less)) ∙ h)))
    (λ le. inr (sym same, le)))
    (⊎_elim
    (λ less. absurd (true≢false (sym (ap is_lt (layer_less less)) ∙ h)))
    (λ more. inl more))
    (cases_order b.layer a.layer)
  where
    layer_less : b.layer < a.layer → order.ghosts.cmp b a ≡ Less
    layer_less less = ap (λ o. ordering_then o (ordering_then (int_cmp b.line a.line) (ordering_then (int_cmp b.from a.from) (int_cmp b.to a.to)))) (nat_is_less b.layer a.layer less)

    line_less : b.layer ≡ a.layer → b.line <ℤ a.line → order.ghosts.cmp b a ≡ Less
    line_less same less =
        ap (λ o. ordering_then o (ordering_then (int_cmp b.line a.line) (ordering_then (int_cmp b.from a.from) (int_cmp b.to a.to)))) (nat_is_equal b.layer a.layer same)
        ∙ ap (λ o. ordering_then o (ordering_then (int_cmp b.from a.from) (int_cmp b.to a.to))) (int_is_less b.line a.line less)

rows_from : (xs : List Centreline) → ((i j : ℕ) (d : Centreline) → i ≤ j → j < length xs → is_lt (order.ghosts.cmp (get_or xs j d) (get_or xs i d)) ≡ false) → InRows xs
rows_from [] h = tt
rows_from (x ∷ xs) h = (
  recursion_from_All (IsRowLe x) xs (λ k d lt. no_lower x (get_or xs k d) (h 0 (suc k) d (omega arith) (omega (arith, lt)))),
  rows_from xs (λ i j d le lt. h (suc i) (suc j) d (omega (arith, le)) (omega (arith, lt))),
)

pub sorted_rows : (xs : List Centreline) → IsInOrder xs → InRows xs
sorted_rows xs sorted = rows_from xs (λ i j d le lt. sorted_far (λ x y. is_lt (order.ghosts.cmp x y)) (ranks_by total-law (λ (c : Centreline). c)) xs sorted i j d le lt)

pub far : (xs : List Centreline) → InRows xs → (i j : ℕ) (d : Centreline) → i ≤ j → j < length xs → IsRowLe (get_or xs i d) (get_or xs j d)
far [] rows i j d le lt = absurd (omega (arith, lt))
far (x ∷ xs) rows zero zero d le lt = row_itself x
far (x ∷ xs) rows zero (suc j) d le lt = All-from_recursion (IsRowLe x) xs rows.0 j d (omega (arith, lt))
far (x ∷ xs) rows (suc i) zero d le lt = absurd (omega (arith, le))
far (x ∷ xs) rows (suc i) (suc j) d le lt = far xs rows.1 i j d (omega (arith, le)) (omega (arith, lt))

all_filter : {X : Type 0} (P : X → Type 0) (p : X → Bool) (xs : List X) → AllByRecursion P xs → AllByRecursion P (filter p xs)
all_filter P p [] all = tt
all_filter P p (x ∷ xs) all = by (p x) (all_filter P p xs all.1)
  where
    by : (b : Bool) → AllByRecursion P (filter p xs) → AllByRecursion P (cond b (x ∷ filter p xs) (filter p xs))
    by true rest = (all.0, rest)
    by false rest = rest

pub rows_filter : (p : Centreline → Bool) (xs : List Centreline) → InRows xs → InRows (filter p xs)
rows_filter p [] rows = tt
rows_filter p (x ∷ xs) rows = by (p x) (rows_filter p xs rows.1)
  where
    by : (b : Bool) → InRows (filter p xs) → InRows (cond b (x ∷ filter p xs) (filter p xs))
    by true rest = (all_filter (IsRowLe x) p xs rows.0, rest)
    by false rest = rest

all_take : {X : Type 0} (P : X → Type 0) (k : ℕ) (xs : List X) → AllByRecursion P xs → AllByRecursion P (take k xs)
all_take P zero xs all = tt
all_take P (suc k) [] all = tt
all_take P (suc k) (x ∷ xs) all = (all.0, all_take P k xs all.1)

pub rows_take : (k : ℕ) (xs : List Centreline) → InRows xs → InRows (take k xs)
rows_take zero xs rows = tt
rows_take (suc k) [] rows = tt
rows_take (suc k) (x ∷ xs) rows = (all_take (IsRowLe x) k xs rows.0, rows_take k xs rows.1)

pub rows_drop : (k : ℕ) (xs : List Centreline) → InRows xs → InRows (drop k xs)
rows_drop zero xs rows = rows
rows_drop (suc k) [] rows = tt
rows_drop (suc k) (x ∷ xs) rows = rows_drop k xs rows.1

-- each stands between the first and the last
pub within_rows : (rows : Rows) (xs : List Centreline) (d : Centreline) → InRows xs → 0 < length xs → rows.first ≡ get_or xs 0 d → (last : ℕ) → last + 1 ≡ length xs → rows.last ≡ get_or xs last d → AreWithin rows xs
within_rows rows xs d in' some first last end is = record {
  first = λ x h.
      let at : get_or xs h.0 d ≡ x = get_or_default xs h.0 d x h.1 ∙ h.2 in
      subst (λ (c : Centreline). IsRowLe c x) (sym first) (subst (IsRowLe (get_or xs 0 d)) at (far xs in' 0 h.0 d (omega arith) h.1));
  last = λ x h.
      let at : get_or xs h.0 d ≡ x = get_or_default xs h.0 d x h.1 ∙ h.2 in
      let lt = h.1 in
      subst (IsRowLe x) (sym is) (subst (λ (c : Centreline). IsRowLe c (get_or xs last d)) at (far xs in' h.0 last d (omega (arith, lt, end)) (omega (arith, end))));
}

-- ---- those of one line

-- what overlapping centrelines tell
record Overlap (a b : Centreline) : Type 0 where
  layer : a.layer ≡ b.layer
  line : a.line ≡ b.line
  first : a.from ≤ℤ b.to
  second : b.from ≤ℤ a.to

int_eq_tells : (a b : ℤ) → int_eq a b ≡ true → a ≡ b
int_eq_tells a b h = grind (arith, ints)

overlap_tells : (a b : Centreline) → overlaps a b ≡ true → Overlap a b
overlap_tells a b h =
    let outer = and_parts ((a.layer == b.layer) && int_eq a.line b.line) (int_le a.from b.to && int_le b.from a.to) h in
    let front = and_parts (a.layer == b.layer) (int_eq a.line b.line) outer.0 in
    let back = and_parts (int_le a.from b.to) (int_le b.from a.to) outer.1 in
    record { layer = eqb-true a.layer b.layer front.0; line = int_eq_tells a.line b.line front.1; first = le_tells a.from b.to back.0; second = le_tells b.from a.to back.1 }

min_low : (a b : ℤ) → (int_min a b ≤ℤ a) × (int_min a b ≤ℤ b)
min_low a b = (grind (arith, ints), grind (arith, ints))

max_high : (a b : ℤ) → (a ≤ℤ int_max a b) × (b ≤ℤ int_max a b)
max_high a b = (grind (arith, ints), grind (arith, ints))

min_one : (a b z : ℤ) → int_min a b ≤ℤ z → (a ≤ℤ z) ⊎ (b ≤ℤ z)
min_one a b z h = by_lt_z z a (λ less. inr (grind (arith, ints))) (λ le. inl le)

max_one : (a b z : ℤ) → z ≤ℤ int_max a b → (z ≤ℤ a) ⊎ (z ≤ℤ b)
max_one a b z h = by_lt_z a z (λ less. inr (grind (arith, ints))) (λ le. inl le)

-- a place of the joined one is a place of one of the two
parted : (a b : Centreline) (z : ℤ) → Overlap a b → (joined a b).from ≤ℤ z → z ≤ℤ (joined a b).to → ((a.from ≤ℤ z) × (z ≤ℤ a.to)) ⊎ ((b.from ≤ℤ z) × (z ≤ℤ b.to))
parted a b z over low high =
    let first = over.first in
    let second = over.second in
    ⊎_elim
    (λ low_a. ⊎_elim
    (λ high_a. inl (low_a, high_a))
    (λ high_b. by_lt_z a.to z (λ past. inr (omega (arith, ints), high_b)) (λ in'. inl (low_a, in')))
    (max_one a.to b.to z high))
    (λ low_b. ⊎_elim
    (λ high_a. by_lt_z b.to z (λ past. inl (omega (arith, ints), high_a)) (λ in'. inr (low_b, in')))
    (λ high_b. inr (low_b, high_b))
    (max_one a.to b.to z high))
    (min_one a.from b.from z low)

place_cases : (x : Centreline) (xs : List Centreline) (layer : ℕ) (line z : ℤ) → HasPlace (x ∷ xs) layer line z → HasPlace (x ∷ []) layer line z ⊎ HasPlace xs layer line z
place_cases x xs layer line z h = ⊎_elim
    (λ here. inl (record { centreline = h.centreline; member = contains_first x [] h.centreline here; layer = h.layer; line = h.line; low = h.low; high = h.high }))
    (λ there. inr (record { centreline = h.centreline; member = there; layer = h.layer; line = h.line; low = h.low; high = h.high }))
    (contains_cases x xs h.centreline h.member)

place_first : (x : Centreline) (xs : List Centreline) (layer : ℕ) (line z : ℤ) → HasPlace (x ∷ []) layer line z → HasPlace (x ∷ xs) layer line z
place_first x xs layer line z h = ⊎_elim
    (λ here. record { centreline = h.centreline; member = contains_first x xs h.centreline here; layer = h.layer; line = h.line; low = h.low; high = h.high })
    (λ none. absurd (contains_none h.centreline none))
    (contains_cases x [] h.centreline h.member)

place_later : (x : Centreline) (xs : List Centreline) (layer : ℕ) (line z : ℤ) → HasPlace xs layer line z → HasPlace (x ∷ xs) layer line z
place_later x xs layer line z h = record { centreline = h.centreline; member = contains_later x xs h.centreline h.member; layer = h.layer; line = h.line; low = h.low; high = h.high }

-- the two have the places of the joined one
joined_tells : (a b : Centreline) (layer : ℕ) (line z : ℤ) → Overlap a b → HasPlace (joined a b ∷ []) layer line z → HasPlace (a ∷ []) layer line z ⊎ HasPlace (b ∷ []) layer line z
joined_tells a b layer line z over h = ⊎_elim
    (λ here.
    let at_layer : a.layer ≡ layer = ap (λ (c : Centreline). c.layer) here ∙ h.layer in
    let at_line : a.line ≡ line = ap (λ (c : Centreline). c.line) here ∙ h.line in
    ⊎_elim
    (λ in_a. inl (record { centreline = a; member = contains_first a [] a refl; layer = at_layer; line = at_line; low = in_a.0; high = in_a.1 }))
    (λ in_b. inr (record { centreline = b; member = contains_first b [] b refl; layer = sym over.layer ∙ at_layer; line = sym over.line ∙ at_line; low = in_b.0; high = in_b.1 }))
    (parted a b z over (subst (λ (c : Centreline). c.from ≤ℤ z) (sym here) h.low) (subst (λ (c : Centreline). z ≤ℤ c.to) (sym here) h.high)))
    (λ none. absurd (contains_none h.centreline none))
    (contains_cases (joined a b) [] h.centreline h.member)

joined_gives : (a b : Centreline) (layer : ℕ) (line z : ℤ) → Overlap a b → HasPlace (a ∷ []) layer line z ⊎ HasPlace (b ∷ []) layer line z → HasPlace (joined a b ∷ []) layer line z
joined_gives a b layer line z over h = ⊎_elim (λ in_a. one a in_a refl refl (min_low a.from b.from).0 (max_high a.to b.to).0) (λ in_b. one b in_b over.layer over.line (min_low a.from b.from).1 (max_high a.to b.to).1) h
  where
    one : (c : Centreline) → HasPlace (c ∷ []) layer line z → a.layer ≡ c.layer → a.line ≡ c.line → (joined a b).from ≤ℤ c.from → c.to ≤ℤ (joined a b).to → HasPlace (joined a b ∷ []) layer line z
    one c p at_layer at_line low high = ⊎_elim
        (λ here.
        let l : c.from ≤ℤ z = subst (λ (x : Centreline). x.from ≤ℤ z) (sym here) p.low in
        let u : z ≤ℤ c.to = subst (λ (x : Centreline). z ≤ℤ x.to) (sym here) p.high in
        record {
          centreline = joined a b;
          member = contains_first (joined a b) [] (joined a b) refl;
          layer = at_layer ∙ (ap (λ (x : Centreline). x.layer) here ∙ p.layer);
          line = at_line ∙ (ap (λ (x : Centreline). x.line) here ∙ p.line);
          low = le_trans (joined a b).from c.from z low l;
          high = le_trans z c.to (joined a b).to u high;
        })
        (λ none. absurd (contains_none p.centreline none))
        (contains_cases c [] p.centreline p.member)
      where
        le_trans : (x y w : ℤ) → x ≤ℤ y → y ≤ℤ w → x ≤ℤ w
        le_trans x y w h k = omega (arith, ints)

onto_places : (last : Centreline) (xs : List Centreline) → HaveSamePlaces (last ∷ xs) (merged_onto last xs)
onto_places last [] layer line z = (λ h. h, λ h. h)
onto_places last (next ∷ later) layer line z =
    by (overlaps last next) refl (onto_places (joined last next) later layer line z) (onto_places next later layer line z)
  where
    by : (b : Bool) → overlaps last next ≡ b →
        (HasPlace (joined last next ∷ later) layer line z ↔ HasPlace (merged_onto (joined last next) later) layer line z) →
        (HasPlace (next ∷ later) layer line z ↔ HasPlace (merged_onto next later) layer line z) →
        HasPlace (last ∷ next ∷ later) layer line z ↔ HasPlace (cond b (merged_onto (joined last next) later) (last ∷ merged_onto next later)) layer line z
    by true is again other =
        let over = overlap_tells last next is in (
          λ h. again.0 (⊎_elim
              (λ here. place_first (joined last next) later layer line z (joined_gives last next layer line z over (inl here)))
              (λ rest. ⊎_elim
              (λ here. place_first (joined last next) later layer line z (joined_gives last next layer line z over (inr here)))
              (λ there. place_later (joined last next) later layer line z there)
              (place_cases next later layer line z rest))
              (place_cases last (next ∷ later) layer line z h)),
          λ h. ⊎_elim
              (λ one. ⊎_elim
              (λ here. place_first last (next ∷ later) layer line z here)
              (λ here. place_later last (next ∷ later) layer line z (place_first next later layer line z here))
              (joined_tells last next layer line z over one))
              (λ there. place_later last (next ∷ later) layer line z (place_later next later layer line z there))
              (place_cases (joined last next) later layer line z (again.1 h)),
        )
    by false is other again = (
      λ h. ⊎_elim
          (λ here. place_first last (merged_onto next later) layer line z here)
          (λ there. place_later last (merged_onto next later) layer line z (again.0 there))
          (place_cases last (next ∷ later) layer line z h),
      λ h. ⊎_elim
          (λ here. place_first last (next ∷ later) layer line z here)
          (λ there. place_later last (next ∷ later) layer line z (again.1 there))
          (place_cases last (merged_onto next later) layer line z h),
    )

merged_places : (xs : List Centreline) → HaveSamePlaces xs (merged xs)
merged_places [] layer line z = (λ h. h, λ h. h)
merged_places (x ∷ xs) layer line z = onto_places x xs layer line z

-- what stands in rows still does
all_onto : (a last : Centreline) (xs : List Centreline) → IsRowLe a last → AllByRecursion (IsRowLe a) xs → AllByRecursion (IsRowLe a) (merged_onto last xs)
all_onto a last [] le all = (le, tt)
all_onto a last (next ∷ later) le all = by (overlaps last next) (all_onto a (joined last next) later le all.1) (all_onto a next later all.0 all.1)
  where
    by : (b : Bool) → AllByRecursion (IsRowLe a) (merged_onto (joined last next) later) → AllByRecursion (IsRowLe a) (merged_onto next later) → AllByRecursion (IsRowLe a) (cond b (merged_onto (joined last next) later) (last ∷ merged_onto next later))
    by true one two = one
    by false one two = (le, two)

onto_rows : (last : Centreline) (xs : List Centreline) → AllByRecursion (IsRowLe last) xs → InRows xs → InRows (merged_onto last xs)
onto_rows last [] all rows = (tt, tt)
onto_rows last (next ∷ later) all rows = by (overlaps last next) (onto_rows (joined last next) later all.1 rows.1) (onto_rows next later rows.0 rows.1)
  where
    by : (b : Bool) → InRows (merged_onto (joined last next) later) → InRows (merged_onto next later) → InRows (cond b (merged_onto (joined last next) later) (last ∷ merged_onto next later))
    by true one two = one
    by false one two = (all_onto last next later all.0 all.1, two)

pub merged_rows : (xs : List Centreline) → InRows xs → InRows (merged xs)
merged_rows [] rows = tt
merged_rows (x ∷ xs) rows = onto_rows x xs rows.0 rows.1

moved_place : (xs ys : List Centreline) → ((c : Centreline) → Contains xs c → Contains ys c) → (layer : ℕ) (line z : ℤ) → HasPlace xs layer line z → HasPlace ys layer line z
moved_place xs ys gives layer line z h = record { centreline = h.centreline; member = gives h.centreline h.member; layer = h.layer; line = h.line; low = h.low; high = h.high }

pub places_kept : (level : Bool) (items : List Item) (sorted : List Centreline) → IsMoved level items sorted → HaveSamePlaces (centrelines_of level items) (merged sorted)
places_kept level items sorted moved layer line z =
    let all = centrelines_of level items in
    let same = merged_places sorted layer line z in (
      λ h. same.0 (moved_place all sorted (λ c in'. Contains-permutation all sorted c moved in') layer line z h),
      λ h. moved_place sorted all (λ c in'. Contains-permutation sorted all c (IsPermutation-sym all sorted moved) in') layer line z (same.1 h),
    )

-- ---- the loop that joins them

pub onto_same : (last next : Centreline) (later items : List Centreline) → overlaps last next ≡ true → items ++ merged_onto (joined last next) later ≡ items ++ merged_onto last (next ∷ later)
onto_same last next later items is = ap (λ b. items ++ cond b (merged_onto (joined last next) later) (last ∷ merged_onto next later)) (sym is)

pub onto_more : (last next : Centreline) (later items more : List Centreline) → overlaps last next ≡ false → more ≡ items ++ last ∷ [] → more ++ merged_onto next later ≡ items ++ merged_onto last (next ∷ later)
onto_more last next later items more is grown =
    ap (λ l. l ++ merged_onto next later) grown
    ∙ (append_assoc items (last ∷ []) (merged_onto next later)
    ∙ ap (λ b. items ++ cond b (merged_onto (joined last next) later) (last ∷ merged_onto next later)) (sym is))

-- a turn of the loop, and its end
pub onto_turn : (all : List Centreline) (k : ℕ) (next d : Centreline) (items more : List Centreline) (last new : Centreline) → k < length all → next ≡ get_or all k d →
    ((later : List Centreline) → more ++ merged_onto new later ≡ items ++ merged_onto last (next ∷ later)) → items ++ merged_onto last (drop k all) ≡ merged all → more ++ merged_onto new (drop (k + 1) all) ≡ merged all
onto_turn all k next d items more last new lt is step so_far =
    step (drop (k + 1) all) ∙ (ap (λ (c : Centreline). items ++ merged_onto last (c ∷ drop (k + 1) all)) is ∙ (ap (λ l. items ++ merged_onto last l) (sym (drop_more all k d lt)) ∙ so_far))

pub onto_start : (all : List Centreline) (first : Centreline) → 0 < length all → first ≡ get_or all 0 first → [] ++ merged_onto first (drop 1 all) ≡ merged all
onto_start [] first some is = absurd (omega (arith, some))
onto_start (x ∷ xs) first some is = ap (λ (c : Centreline). merged_onto c xs) is

pub onto_done : (all : List Centreline) (k : ℕ) (items more : List Centreline) (last : Centreline) → length all ≤ k → items ++ merged_onto last (drop k all) ≡ merged all → more ≡ items ++ last ∷ [] → more ≡ merged all
onto_done all k items more last le so_far grown =
    grown ∙ (ap (λ l. items ++ merged_onto last l) (sym (drop_all all k le)) ∙ so_far)
  where
    drop_all : (xs : List Centreline) (k : ℕ) → length xs ≤ k → drop k xs ≡ []
    drop_all [] zero le = refl
    drop_all [] (suc k) le = refl
    drop_all (x ∷ xs) zero le = absurd (omega (arith, le))
    drop_all (x ∷ xs) (suc k) le = drop_all xs k (omega (arith, le))

pub none_merged : (all : List Centreline) → length all ≡ 0 → [] ≡ merged all
none_merged [] none = refl
none_merged (x ∷ xs) none = absurd (omega (arith, none))
