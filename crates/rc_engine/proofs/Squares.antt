-- What the faces add to different keys, all together.
use Rattle.std.proofs.Common.{◌≡◌, ◌≤◌, ◌<◌, ◌+◌, ◌*◌, ◌^◌, ℕ, zero, suc, ℤ, pos, ◌+ℤ◌, Bool, true, false, cond, List, [], ◌∷◌, refl, ap, sym, ◌∙◌, arith}
use Rattle.std.specs.Prelude.{Contains, Option, Some, None, is_some, option_map}
use Rattle.std.specs.Option.{option_map_or, option_and_then}
use Rattle.std.specs.List.{sum_by}
use Rattle.std.proofs.lemmas.Nat.{mul-le}
use Rattle.std.proofs.lemmas.List.Sums.{sum_by-cons}
use Rattle.rc_fixed.proofs.Members.{at_head, in_tail}
use Rattle.rc_geom.specs.declared.rect.Pt.{Pt}
use Rattle.rc_geom.specs.declared.rect.Rect.{Rect}
use Rattle.rc_geom.specs.declared.key.Key.{Key}
use Rattle.rc_geom.specs.Plane.{Plane}
use Rattle.rc_geom.specs.Line.{line_of, square_of}
use Rattle.rc_geom.specs.Faces.{Face, Seen}
use Rattle.rc_geom.specs.Context.{layer_count, under, over}
use Rattle.rc_geom.specs.Rates.{Rates, rate_of}
use Rattle.rc_geom.specs.Parts.{parts, node_key, shared_key, foreign_metal, same_key, worth_at}
use Rattle.rc_geom.specs.Sums.{numbers, total, total_between, extent, first_line, end_line, first_place, end_place, both_directions, layer_sum, square_sum}
use Rattle.rc_geom.specs.Extraction.{face_of, parts_of, value_in}
use Rattle.rc_geom.proofs.Areas.{numbers_are_neutral}
use Rattle.rc_geom.proofs.Entries.{face_metal}
use Rattle.rc_geom.proofs.KeyTests.{one_key}
use Rattle.rc_geom.proofs.Totals.{total_none, total_suc}
use Rattle.rc_geom.proofs.Words.{is_key, two_parts}
use Rattle.rc_engine.proofs.Rises.{Rises}

-- ---- sums over a list

sum_none : {X : Type 0} (f : X → ℕ) (xs : List X) → ((x : X) → f x ≡ 0) → sum_by f xs ≡ 0
sum_none f [] none = refl
sum_none f (x ∷ xs) none =
    let before = sum_none f xs none in
    let here = none x in
    let step = sum_by-cons f x xs in
    omega (arith, before, here, step)

pub sum_plus : {X : Type 0} (f g h : X → ℕ) (xs : List X) → ((x : X) → h x ≡ f x + g x) → sum_by h xs ≡ sum_by f xs + sum_by g xs
sum_plus f g h [] is = refl
sum_plus f g h (x ∷ xs) is =
    let before = sum_plus f g h xs is in
    let here = is x in
    let a = sum_by-cons f x xs in
    let b = sum_by-cons g x xs in
    let c = sum_by-cons h x xs in
    omega (arith, before, here, a, b, c)

suc_times : (n c : ℕ) → n * c + c ≡ suc n * c
suc_times n c = grind arith

-- what totals over n numbers add up to, where so much at most is added at each number
totals_most : {X : Type 0} (n c : ℕ) (h : X → ℕ → ℕ) (xs : List X) → ((k : ℕ) → sum_by (λ x. h x k) xs ≤ c) → sum_by (λ x. total numbers n (h x)) xs ≤ n * c
totals_most zero c h xs each = let none = sum_none (λ x. total numbers 0 (h x)) xs (λ x. total_none numbers (h x)) in omega (arith, none)
totals_most (suc n) c h xs each =
    let before = totals_most n c h xs each in
    let here = each n in
    let step = sum_plus (λ x. total numbers n (h x)) (λ x. h x n) (λ x. total numbers (suc n) (h x)) xs (λ x. total_suc numbers n (suc n) (h x) (omega arith)) in
    let times = suc_times n c in
    omega (arith, before, here, step, times)

-- the same of the squares of a rectangle with so many lines and places at most
pub squares_most : {X : Type 0} (axis n c : ℕ) (r : Rect) (f : X → ℕ → ℤ → ℤ → Bool → ℕ) (xs : List X) → extent (first_line axis r) (end_line axis r) ≤ n → extent (first_place axis r) (end_place axis r) ≤ n →
    ((layer : ℕ) (at along : ℤ) (up : Bool) → sum_by (λ x. f x layer at along up) xs ≤ c) → sum_by (λ x. square_sum numbers axis r (f x)) xs ≤ 32 * (n * (n * (c + c)))
squares_most axis n c r f xs lines places each =
    let from = first_line axis r in
    let m = extent from (end_line axis r) in
    let lo = first_place axis r in
    let l = extent lo (end_place axis r) in
    let both : (layer : ℕ) (at along : ℤ) → sum_by (λ x. both_directions numbers (f x layer at along)) xs ≤ c + c = λ layer at along.
    let a = each layer at along false in
    let b = each layer at along true in
    let step = sum_plus (λ x. f x layer at along false) (λ x. f x layer at along true) (λ x. both_directions numbers (f x layer at along)) xs (λ x. refl) in
    omega (arith, a, b, step) in
    let line : (layer : ℕ) (at : ℤ) → sum_by (λ x. total_between numbers lo (end_place axis r) (λ along. both_directions numbers (f x layer at along))) xs ≤ n * (c + c) = λ layer at.
    let most = totals_most l (c + c) (λ x k. both_directions numbers (f x layer at (lo +ℤ pos k))) xs (λ k. both layer at (lo +ℤ pos k)) in
    let few = mul-le l (c + c) n (c + c) places (omega arith) in
    omega (arith, most, few) in
    let layer_most : (layer : ℕ) → sum_by (λ x. layer_sum numbers axis r (f x layer)) xs ≤ n * (n * (c + c)) = λ layer.
    let most = totals_most m (n * (c + c)) (λ x k. total_between numbers lo (end_place axis r) (λ along. both_directions numbers (f x layer (from +ℤ pos k) along))) xs (λ k. line layer (from +ℤ pos k)) in
    let few = mul-le m (n * (c + c)) n (n * (c + c)) lines (omega arith) in
    omega (arith, most, few) in
    totals_most layer_count (n * (n * (c + c))) (λ x layer. layer_sum numbers axis r (f x layer)) xs layer_most

-- ---- different keys

abbrev pub Differ : Key → Key → Type 0
Differ a b = a ≡ b → ⊥

not_one : (a : ℕ) (k : Key) (qs : List Key) → ((q : Key) → Contains qs q → same_key k q ≡ false) → sum_by (λ q. cond (same_key k q) a 0) qs ≡ 0
not_one a k [] others = refl
not_one a k (q ∷ qs) others =
    let before = not_one a k qs (λ p there. others p (in_tail q qs p there)) in
    let here : cond (same_key k q) a 0 ≡ 0 = ap (λ (b : Bool). cond b a 0) (others q (at_head q qs q refl)) in
    let step = sum_by-cons (λ q. cond (same_key k q) a 0) q qs in
    omega (arith, before, here, step)

other_key : (k p q : Key) (b : Bool) → same_key k q ≡ b → same_key k p ≡ true → Differ p q → b ≡ false
other_key k p q true is same differ = absurd (differ (sym (one_key k p same) ∙ one_key k q is))
other_key k p q false is same differ = refl

-- of different keys, one at most is that key
one_only : (a : ℕ) (k : Key) (qs : List Key) → Rises Differ qs → sum_by (λ q. cond (same_key k q) a 0) qs ≤ a
one_only a k [] differ = omega arith
one_only a k (q ∷ qs) differ = at_first (one_only a k qs differ.1) (same_key k q) refl
  where
    at_first : sum_by (λ q. cond (same_key k q) a 0) qs ≤ a → (b : Bool) → same_key k q ≡ b → sum_by (λ q. cond (same_key k q) a 0) (q ∷ qs) ≤ a
    at_first rest true is =
        let none = not_one a k qs (λ p there. other_key k q p (same_key k p) refl is (differ.0 p there)) in
        let here : cond (same_key k q) a 0 ≡ a = ap (λ (b : Bool). cond b a 0) is in
        let step = sum_by-cons (λ q. cond (same_key k q) a 0) q qs in
        omega (arith, none, here, step)
    at_first rest false is =
        let here : cond (same_key k q) a 0 ≡ 0 = ap (λ (b : Bool). cond b a 0) is in
        let step = sum_by-cons (λ q. cond (same_key k q) a 0) q qs in
        omega (arith, rest, here, step)

any_only : (a : ℕ) (o : Option Key) (qs : List Key) → Rises Differ qs → sum_by (λ q. cond (is_key q o) a 0) qs ≤ a
any_only a None qs differ = let none = sum_none (λ q. cond (is_key q None) a 0) qs (λ q. refl) in omega (arith, none)
any_only a (Some k) qs differ = one_only a k qs differ

-- ---- what a face adds to them

abbrev share_key : Face → Option Key
share_key face = option_and_then (shared_key face.own) (foreign_metal face.own face.sight)

parts_most : (face : Face) (rate : ℕ × ℕ) (qs : List Key) → Rises Differ qs → sum_by (λ q. worth_at numbers (λ v. v) q (parts face rate)) qs ≤ rate.0 + rate.1
parts_most face rate qs differ =
    let step =
    sum_plus (λ q. cond (is_key q (node_key face.own)) rate.0 0) (λ q. cond (is_key q (share_key face)) rate.1 0) (λ q. worth_at numbers (λ v. v) q (parts face rate)) qs
    (λ q. two_parts numbers (λ _. true) numbers_are_neutral (λ v. v) q rate.0 rate.1 (node_key face.own) (share_key face) refl refl) in
    let own = any_only rate.0 (node_key face.own) qs differ in
    let share = any_only rate.1 (share_key face) qs differ in
    omega (arith, step, own, share)

-- amounts of layers with metal are below 2^57
abbrev pub AreSmall : Plane → Rates ℕ → Type 0
AreSmall plane rates = (layer : ℕ) (below above : Option ℕ) (thick : ℕ) (gap : Option ℕ) (p : Pt) → is_some (plane layer p) ≡ true →
    ((rates.rate layer below above thick gap).0 < 2 ^ 57) × ((rates.rate layer below above thick gap).1 < 2 ^ 57)

face_most : (plane : Plane) (rates : Rates ℕ) (axis layer : ℕ) (at along : ℤ) (up : Bool) (qs : List Key) → AreSmall plane rates → Rises Differ qs → (o : Option Face) → face_of plane rates axis layer at along up ≡ o →
    sum_by (λ q. worth_at numbers (λ v. v) q (option_map_or (λ face. parts face (rate_of rates plane layer (square_of axis at along) face)) o [])) qs ≤ 2 ^ 58
face_most plane rates axis layer at along up qs small differ None is = let none = sum_none (λ q. 0) qs (λ q. refl) in omega (arith, none)
face_most plane rates axis layer at along up qs small differ (Some face) is =
    let square = square_of axis at along in
    let metal : is_some (plane layer square) ≡ true = face_metal (rates.cap layer) (rates.reach layer) (line_of plane layer axis at) up along (Some face) is tt in
    let rate = rate_of rates plane layer square face in
    let most = parts_most face rate qs differ in
    let few = small layer (under plane layer square) (over plane layer square) face.thick (option_map {T = Seen} (λ seen. seen.0) face.sight) square metal in
    let own = few.0 in
    let share = few.1 in
    omega (arith, most, own, share)

adds_most : (plane : Plane) (rates : Rates ℕ) (axis : ℕ) (qs : List Key) → AreSmall plane rates → Rises Differ qs → (layer : ℕ) (at along : ℤ) (up : Bool) → sum_by (λ q. worth_at numbers (λ v. v) q (parts_of plane rates axis layer at along up)) qs ≤ 2 ^ 58
adds_most plane rates axis qs small differ layer at along up = face_most plane rates axis layer at along up qs small differ (face_of plane rates axis layer at along up) refl

-- ---- all faces of an axis

pub values_most : (plane : Plane) (rates : Rates ℕ) (axis n : ℕ) (r : Rect) (qs : List Key) → AreSmall plane rates → Rises Differ qs → extent (first_line axis r) (end_line axis r) ≤ n → extent (first_place axis r) (end_place axis r) ≤ n →
    sum_by (λ q. value_in numbers plane rates axis r q) qs ≤ 32 * (n * (n * (2 ^ 58 + 2 ^ 58)))
values_most plane rates axis n r qs small differ lines places =
    squares_most axis n (2 ^ 58) r (λ q layer at along up. worth_at numbers (λ v. v) q (parts_of plane rates axis layer at along up)) qs lines places (adds_most plane rates axis qs small differ)
