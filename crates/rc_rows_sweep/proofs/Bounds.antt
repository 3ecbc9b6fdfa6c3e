-- How much the faces of a window can add.
use Rattle.std.proofs.Common.{◌≡◌, ◌≤◌, ◌<◌, ◌+◌, ◌*◌, ◌^◌, ◌+ℤ◌, ℕ, ℤ, zero, suc, pos, Bool, true, false, cond, List, [], ◌∷◌, All, Option, Some, None, min, refl, arith}
use Rattle.std.specs.Prelude.{IfSome, nat_le, nat_lt, ◌==◌, ◌&&◌}
use Rattle.std.specs.Option.{option_and_then, option_map_or}
use Rattle.std.specs.List.{AllByRecursion as ByRecursion}
use Rattle.std.proofs.lemmas.List.Elements.{recursion_from_All}
use Rattle.rc_tally.specs.declared.entry.Entry.{Entry}
use Rattle.rc_tally.specs.Tallies.{entry_at, CanMerge}
use Rattle.std.proofs.lemmas.Bool.{cond_both, lt-ltb}
use Rattle.std.proofs.lemmas.Int.{ints}
use Rattle.rc_geom.specs.declared.key.Key.{Key}
use Rattle.rc_geom.specs.declared.rect.Rect.{Rect}
use Rattle.rc_geom.specs.Plane.{Plane}
use Rattle.rc_geom.specs.Line.{square_of}
use Rattle.rc_geom.specs.Faces.{Face}
use Rattle.rc_geom.specs.Rates.{Rates, rate_of}
use Rattle.rc_geom.specs.Parts.{same_key, worth_at, parts, part_for, node_key, shared_key, foreign_metal}
use Rattle.rc_geom.specs.Sums.{numbers, total, both_directions, extent, first_line, end_line, first_place, end_place}
use Rattle.rc_geom.specs.Extraction.{parts_of, face_of, sum_in, value_in, count_in, key_value, key_count}
use Rattle.rc_geom.proofs.Totals.{total_none, total_suc, extent_is}
use Rattle.rc_tally.specs.Numbers.{numbers_are_additive}
use Rattle.rc_tally.specs.Amounts.{any_number}
use Rattle.rc_sums.proofs.Faces.{worth_two}
use Rattle.rc_rows_sweep.specs.RowRates.{row_rates, table_rates, by_distance, is_first, alone_rate, over_first_rate, place_digit, gap_digit, digit_own, digit_share}
use Rattle.rc_rows_sweep.specs.Scenes.{IsWindow, IsSmall}

-- ---- one face

cond_small : (b : Bool) (n most : ℕ) → n ≤ most → cond b (0 + n) 0 ≤ most
cond_small true n most h = omega arith
cond_small false n most h = omega arith

part_small : {V : Type 0} (worth : V → ℕ) (most : ℕ) (q : Key) (a : V) (k : Option Key) → worth a ≤ most → worth_at numbers worth q (part_for a k) ≤ most
part_small worth most q a None small = omega arith
part_small worth most q a (Some k) small = cond_small (same_key k q) (worth a) most small

face_small : {V : Type 0} (worth : V → ℕ) (most : ℕ) (q : Key) (face : Face) (rate : V × V) → worth rate.0 ≤ most → worth rate.1 ≤ most → worth_at numbers worth q (parts face rate) ≤ 2 * most
face_small worth most q face rate own share =
    let k = node_key face.own in
    let l = option_and_then (shared_key face.own) (foreign_metal face.own face.sight) in
    let two = worth_two numbers any_number numbers_are_additive.neutral worth q rate.0 rate.1 k l refl refl in
    let one = part_small worth most q rate.0 k own in
    let other = part_small worth most q rate.1 l share in
    omega (arith, two, one, other)

-- all amounts of the rates are worth at most that much
abbrev pub AreSmall : {V : Type 0} → (V → ℕ) → Rates V → ℕ → Type 0
AreSmall worth rates most = (layer : ℕ) (under over : Option ℕ) (thick : ℕ) (gap : Option ℕ) →
    (worth (rates.rate layer under over thick gap).0 ≤ most) × (worth (rates.rate layer under over thick gap).1 ≤ most)

any_small : {V : Type 0} (worth : V → ℕ) (rates : Rates V) (most : ℕ) (plane : Plane) (q : Key) (axis layer : ℕ) (at along : ℤ) (o : Option Face) → AreSmall worth rates most → worth_at numbers worth q (option_map_or (λ face. parts face (rate_of rates plane layer (square_of axis at along) face)) o []) ≤ 2 * most
any_small worth rates most plane q axis layer at along None small = omega arith
any_small worth rates most plane q axis layer at along (Some face) small =
    let both = small layer _ _ face.thick _ in
    face_small worth most q face (rate_of rates plane layer (square_of axis at along) face) both.0 both.1

-- ---- sums

total_small : (n m : ℕ) (f : ℕ → ℕ) → ((k : ℕ) → f k ≤ m) → total numbers n f ≤ m * n
total_small zero m f small = let e = total_none numbers f in omega (arith, e)
total_small (suc n) m f small =
    let before = total_small n m f small in
    let e = total_suc numbers n (suc n) f (omega arith) in
    let last = small n in
    omega (arith, before, e, last)

-- lines and places of a window
window_long : (axis : ℕ) (r : Rect) → IsWindow r → (extent (first_line axis r) (end_line axis r) ≤ 2 ^ 14) × (extent (first_place axis r) (end_place axis r) ≤ 2 ^ 14)
window_long zero r h =
    let near = h.near in
    let lines = extent_is r.y0 r.y1 (let o = near.high in omega (arith, ints)) in
    let places = extent_is r.x0 r.x1 (let o = near.wide in omega (arith, ints)) in
    let wide = h.wide in
    let high = h.high in
    (omega (arith, ints, lines), omega (arith, ints, places))
window_long (suc n) r h =
    let near = h.near in
    let lines = extent_is r.x0 r.x1 (let o = near.wide in omega (arith, ints)) in
    let places = extent_is r.y0 r.y1 (let o = near.high in omega (arith, ints)) in
    let wide = h.wide in
    let high = h.high in
    (omega (arith, ints, lines), omega (arith, ints, places))

times_most : (a b n : ℕ) → n ≤ b → a * n ≤ a * b
times_most a b n h = grind arith

pub sum_small : {V : Type 0} (worth : V → ℕ) (rates : Rates V) (most : ℕ) (plane : Plane) (axis : ℕ) (r : Rect) (q : Key) → AreSmall worth rates most → IsWindow r → sum_in numbers worth plane rates axis r q ≤ 4 * most * 2 ^ 14 * 2 ^ 14 * 32
sum_small worth rates most plane axis r q small window =
    let long = window_long axis r window in
    let w = λ (layer : ℕ) (at along : ℤ) (up : Bool). worth_at numbers worth q (parts_of plane rates axis layer at along up) in
    let square : (layer : ℕ) (at along : ℤ) → both_directions numbers (w layer at along) ≤ 4 * most = λ layer at along.
    let low = any_small worth rates most plane q axis layer at along (face_of plane rates axis layer at along false) small in
    let high = any_small worth rates most plane q axis layer at along (face_of plane rates axis layer at along true) small in
    omega (arith, low, high) in
    let places = extent (first_place axis r) (end_place axis r) in
    let lines = extent (first_line axis r) (end_line axis r) in
    let line = λ (layer : ℕ) (at : ℤ). total numbers places (λ k. both_directions numbers (w layer at (first_place axis r +ℤ pos k))) in
    let of_line : (layer : ℕ) (at : ℤ) → line layer at ≤ 4 * most * 2 ^ 14 = λ layer at.
    let sum = total_small places (4 * most) (λ k. both_directions numbers (w layer at (first_place axis r +ℤ pos k))) (λ k. square layer at (first_place axis r +ℤ pos k)) in
    let most_is = times_most (4 * most) (2 ^ 14) places long.1 in
    omega (arith, sum, most_is) in
    let whole = λ (layer : ℕ). total numbers lines (λ j. line layer (first_line axis r +ℤ pos j)) in
    let of_whole : (layer : ℕ) → whole layer ≤ 4 * most * 2 ^ 14 * 2 ^ 14 = λ layer.
    let sum = total_small lines (4 * most * 2 ^ 14) (λ j. line layer (first_line axis r +ℤ pos j)) (λ j. of_line layer (first_line axis r +ℤ pos j)) in
    let most_is = times_most (4 * most * 2 ^ 14) (2 ^ 14) lines long.0 in
    omega (arith, sum, most_is) in
    total_small 32 (4 * most * 2 ^ 14 * 2 ^ 14) whole of_whole

-- ---- the rates of the rows

pub ones_small : (rates : Rates ℕ) → AreSmall (λ _. 1) rates 1
ones_small rates = λ layer under over thick gap. (omega arith, omega arith)

distance_small : (gap : Option ℕ) (near far : ℕ × ℕ) (alone : ℕ) → near.0 ≤ 60 → near.1 ≤ 60 → far.0 ≤ 60 → far.1 ≤ 60 → alone ≤ 60 → ((by_distance gap near far alone).0 ≤ 60) × ((by_distance gap near far alone).1 ≤ 60)
distance_small None near far alone a b c d e = (e, omega arith)
distance_small (Some n) near far alone a b c d e =
    let P : ℕ × ℕ → Type 0 = λ p. (p.0 ≤ 60) × (p.1 ≤ 60) in
    cond_both (nat_le n 100) near (cond (nat_le n 300) far (alone, 0)) P (λ _. (a, b)) (λ _. cond_both (nat_le n 300) far (alone, 0) P (λ _. (c, d)) (λ _. (e, omega arith)))

place_small : (o : Option ℕ) → place_digit o ≤ 63
place_small None = omega arith
place_small (Some k) = omega arith

gap_small : (o : Option ℕ) → gap_digit o ≤ 4
gap_small None = omega arith
gap_small (Some d) = gap_cases d where
  gap_cases : (d : ℕ) → cond (nat_le d 4) d 0 ≤ 4
  gap_cases d = grind (arith)

digits_small : (layer : ℕ) (under over : Option ℕ) (thick : ℕ) (gap : Option ℕ) → (digit_own layer under over (min thick 3) (gap_digit gap) ≤ 2 ^ 26) × (digit_share layer under over (min thick 3) (gap_digit gap) ≤ 2 ^ 26)
digits_small layer under over thick gap =
    let low = place_small under in
    let high = place_small over in
    let near = gap_small gap in
    let own : digit_own layer under over (min thick 3) (gap_digit gap) ≤ 2 ^ 24 = omega (arith, low, high, near) in
    let P : ℕ → Type 0 = λ n. n ≤ 2 ^ 26 in
    (omega (arith, own), cond_both (gap_digit gap == 0) 0 (16777216 + digit_own layer under over (min thick 3) (gap_digit gap)) P (λ _. omega arith) (λ _. omega (arith, own)))

table_small : (layer : ℕ) (under over : Option ℕ) (thick : ℕ) (gap : Option ℕ) → ((table_rates.rate layer under over thick gap).0 ≤ 2 ^ 26) × ((table_rates.rate layer under over thick gap).1 ≤ 2 ^ 26)
table_small layer under over thick gap =
    let P : ℕ × ℕ → Type 0 = λ p. (p.0 ≤ 60) × (p.1 ≤ 60) in
    let one = distance_small gap (30, 10) (35, 5) 50 (omega arith) (omega arith) (omega arith) (omega arith) (omega arith) in
    let two = distance_small gap (40, 20) (45, 10) 60 (omega arith) (omega arith) (omega arith) (omega arith) (omega arith) in
    let three = distance_small gap (10, 20) (15, 10) 30 (omega arith) (omega arith) (omega arith) (omega arith) (omega arith) in
    let four = distance_small gap (20, 30) (25, 20) 40 (omega arith) (omega arith) (omega arith) (omega arith) (omega arith) in
    let low : P (over_first_rate thick gap) = cond_both (nat_le thick 100) (by_distance gap (30, 10) (35, 5) 50) (by_distance gap (40, 20) (45, 10) 60) P (λ _. one) (λ _. two) in
    let high : P (alone_rate thick gap) = cond_both (nat_le thick 100) (by_distance gap (10, 20) (15, 10) 30) (by_distance gap (20, 30) (25, 20) 40) P (λ _. three) (λ _. four) in
    let all = cond_both ((layer == 1) && is_first under) (over_first_rate thick gap) (alone_rate thick gap) P (λ _. low) (λ _. high) in
    (omega (arith, all.0), omega (arith, all.1))

pub rows_small : (by_digits : Bool) → AreSmall {V = ℕ} (λ v. v) (row_rates by_digits) (2 ^ 26)
rows_small true = digits_small
rows_small false = table_small

-- ---- so all sums fit

pub counts_fit : (rates : Rates ℕ) (plane : Plane) (axis : ℕ) (r : Rect) (q : Key) → IsWindow r → count_in plane rates axis r q < 2 ^ 64
counts_fit rates plane axis r q window =
    let small = sum_small {V = ℕ} (λ _. 1) rates 1 plane axis r q (ones_small rates) window in
    omega (arith, small)

pub values_fit : (by_digits : Bool) (plane : Plane) (axis : ℕ) (r : Rect) (q : Key) → IsWindow r → nat_lt (value_in numbers plane (row_rates by_digits) axis r q) (2 ^ 128) ≡ true
values_fit by_digits plane axis r q window =
    let small = sum_small {V = ℕ} (λ v. v) (row_rates by_digits) (2 ^ 26) plane axis r q (rows_small by_digits) window in
    lt-ltb (value_in numbers plane (row_rates by_digits) axis r q) (2 ^ 128) (omega (arith, small))

pub both_counts_fit : (rates : Rates ℕ) (plane : Plane) (r : Rect) (q : Key) → IsWindow r → key_count plane rates r q < 2 ^ 64
both_counts_fit rates plane r q window =
    let across = sum_small {V = ℕ} (λ _. 1) rates 1 plane 0 r q (ones_small rates) window in
    let along = sum_small {V = ℕ} (λ _. 1) rates 1 plane 1 r q (ones_small rates) window in
    omega (arith, across, along)

pub both_values_fit : (by_digits : Bool) (plane : Plane) (r : Rect) (q : Key) → IsWindow r → nat_lt (key_value numbers plane (row_rates by_digits) r q) (2 ^ 128) ≡ true
both_values_fit by_digits plane r q window =
    let across = sum_small {V = ℕ} (λ v. v) (row_rates by_digits) (2 ^ 26) plane 0 r q (rows_small by_digits) window in
    let along = sum_small {V = ℕ} (λ v. v) (row_rates by_digits) (2 ^ 26) plane 1 r q (rows_small by_digits) window in
    lt-ltb (key_value numbers plane (row_rates by_digits) r q) (2 ^ 128) (omega (arith, across, along))

-- ---- small sums go together

found_small : (entries : List (Entry ℕ)) (q : Key) → ByRecursion IsSmall entries → IfSome (entry_at entries q) IsSmall
found_small [] q small = tt
found_small (e ∷ es) q small =
    let P : Option (Entry ℕ) → Type 0 = λ o. IfSome o IsSmall in
    cond_both (same_key e.key q) (Some e) (entry_at es q) P (λ _. small.0) (λ _. found_small es q small.1)

both_fit : (a b : Option (Entry ℕ)) → IfSome a IsSmall → IfSome b IsSmall → IfSome a (λ d. IfSome b (λ e. (d.count + e.count < 2 ^ 64) × (nat_lt (d.value + e.value) (2 ^ 128) ≡ true)))
both_fit None b small_a small_b = tt
both_fit (Some d) None small_a small_b = tt
both_fit (Some d) (Some e) small_a small_b =
    let one = small_a.count in
    let two = small_b.count in
    let three = small_a.value in
    let four = small_b.value in
    (omega (arith, one, two), lt-ltb (d.value + e.value) (2 ^ 128) (omega (arith, three, four)))

pub small_merge : (a b : List (Entry ℕ)) → All IsSmall a → All IsSmall b → CanMerge numbers (λ v. nat_lt v (2 ^ 128)) a b
small_merge a b small_a small_b q =
    both_fit (entry_at a q) (entry_at b q) (found_small a q (recursion_from_All IsSmall a small_a)) (found_small b q (recursion_from_All IsSmall b small_b))
