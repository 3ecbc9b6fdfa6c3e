-- Room for one more, in the midst of many.
use Rattle.std.proofs.Common.{◌≡◌, ℕ, ℤ, ◌≤ℤ◌, ◌+◌, ◌-◌, ◌<◌, Bool, true, List, [], ◌∷◌, ◌++◌, take, drop, length, get_or, refl, ap, sym, ◌∙◌, arith}
use Rattle.std.proofs.lemmas.List.{take_more, take-append-drop, drop_more}
use Rattle.std.proofs.lemmas.Int.{ints}
use Rattle.rc_geom.specs.declared.key.Key.{Key}
use Rattle.rc_geom.specs.Plane.{Plane}
use Rattle.rc_geom.specs.Rates.{Rates}
use Rattle.rc_geom.specs.Sums.{Adding, total}
use Rattle.rc_geom.proofs.Totals.{total_none, total_suc, total_sound}
use Rattle.rc_geom.proofs.Cuts.{total_split}
use Rattle.rc_tally.specs.declared.entry.Entry.{Entry}
use Rattle.rc_tally.specs.Amounts.{IsAmount}
use Rattle.rc_tally.specs.Tallies.{Sum, sums, sum_sound}
use Rattle.rc_sums.specs.Entering.{one, IsTally, HasRoom, Enters}
use Rattle.rc_sums.specs.Worths.{columns_added}
use Rattle.rc_sums.proofs.Sums.{sums_are_amounts}
use Rattle.rc_sums.proofs.Enters.{enters_both, room_first, room_second}
use Rattle.rc_sums.proofs.Lines.{added_up, added_sound, added_append, added_push, added_one}
use Rattle.rc_sums.proofs.Strips.{AllParts, columns_split, columns_sound}

-- ---- of a list

pub room_in_list : {V X : Type 0} (adding : Adding V) (fits sound : V → Bool) → IsAmount adding fits sound → (before now : List (Entry V)) (f : X → Key → Sum V) (xs : List X) (i : ℕ) (d : X) → i < length xs → IsTally adding sound before → ((x : X) (q : Key) → sound (f x q).value ≡ true) → HasRoom adding fits sound before (λ q. added_up (sums adding) (λ x. f x q) xs) → Enters adding sound before now (λ q. added_up (sums adding) (λ x. f x q) (take i xs)) → HasRoom adding fits sound now (f (get_or xs i d))
room_in_list {X = Y} adding fits sound laws before now f xs i d within tally of_f room enters =
    let add = sums adding in
    let additive = (sums_are_amounts adding fits sound laws).additive in
    let x = get_or xs i d in
    let rest = drop (i + 1) xs in
    let up = λ (ys : List Y) (q : Key). added_up add (λ y. f y q) ys in
    let of_up : (ys : List Y) (q : Key) → sound (up ys q).value ≡ true = λ ys q. added_sound add (sum_sound sound) additive.neutral (λ y. f y q) (λ y. of_f y q) ys in
    let whole : take i xs ++ x ∷ rest ≡ xs = ap (λ ys. take i xs ++ ys) (sym (drop_more xs i d within)) ∙ take-append-drop i xs in
    let cut : (q : Key) → up xs q ≡ add.plus (up (take i xs) q) (up (x ∷ rest) q) = λ q. ap (λ ys. up ys q) (sym whole) ∙ added_append add (sum_sound sound) additive (λ y. f y q) (λ y. of_f y q) (take i xs) (x ∷ rest) in
    let first : (q : Key) → up (x ∷ rest) q ≡ add.plus (f x q) (up rest q) = λ q.
    added_append add (sum_sound sound) additive (λ y. f y q) (λ y. of_f y q) (x ∷ []) rest ∙ ap (λ v. add.plus v (up rest q)) (added_one add (sum_sound sound) additive.neutral (λ y. f y q) (λ y. of_f y q) x) in
    room_first adding fits sound laws now (f x) (up rest) (up (x ∷ rest)) enters.tally (of_f x) (of_up rest)
    (room_second adding fits sound laws before now (up (take i xs)) (up (x ∷ rest)) (up xs) tally (of_up (take i xs)) (of_up (x ∷ rest)) room cut enters) first

pub enters_list : {V X : Type 0} (adding : Adding V) (fits sound : V → Bool) → IsAmount adding fits sound → (before now after : List (Entry V)) (f : X → Key → Sum V) (xs : List X) (i : ℕ) (d : X) → i < length xs → IsTally adding sound before → ((x : X) (q : Key) → sound (f x q).value ≡ true) → Enters adding sound before now (λ q. added_up (sums adding) (λ x. f x q) (take i xs)) → Enters adding sound now after (f (get_or xs i d)) → Enters adding sound before after (λ q. added_up (sums adding) (λ x. f x q) (take (i + 1) xs))
enters_list {X = Y} adding fits sound laws before now after f xs i d within tally of_f enters last =
    let add = sums adding in
    let additive = (sums_are_amounts adding fits sound laws).additive in
    let up = λ (ys : List Y) (q : Key). added_up add (λ y. f y q) ys in
    enters_both adding fits sound laws before now after (up (take i xs)) (f (get_or xs i d)) (up (take (i + 1) xs)) tally (λ q. added_sound add (sum_sound sound) additive.neutral (λ y. f y q) (λ y. of_f y q) (take i xs)) (of_f (get_or xs i d)) enters last
    (λ q. ap (λ ys. up ys q) (take_more xs i d within) ∙ added_push add (λ y. f y q) (take i xs) (get_or xs i d))

-- ---- of numbers that are counted up

pub room_in_total : {V : Type 0} (adding : Adding V) (fits sound : V → Bool) → IsAmount adding fits sound → (before now : List (Entry V)) (f : ℕ → Key → Sum V) (k n : ℕ) → k < n → IsTally adding sound before → ((m : ℕ) (q : Key) → sound (f m q).value ≡ true) → HasRoom adding fits sound before (λ q. total (sums adding) n (λ m. f m q)) → Enters adding sound before now (λ q. total (sums adding) k (λ m. f m q)) → HasRoom adding fits sound now (f k)
room_in_total {V = W} adding fits sound laws before now f k n less tally of_f room enters =
    let add = sums adding in
    let additive = (sums_are_amounts adding fits sound laws).additive in
    let r = n - k - 1 in
    let up = λ (a m : ℕ) (q : Key). total add m (λ j. f (a + j) q) in
    let of_up : (a m : ℕ) (q : Key) → sound (up a m q).value ≡ true = λ a m q. total_sound add (sum_sound sound) additive.neutral m (λ j. f (a + j) q) (λ j. of_f (a + j) q) in
    let of_total : (m : ℕ) (q : Key) → sound (total add m (λ j. f j q)).value ≡ true = λ m q. total_sound add (sum_sound sound) additive.neutral m (λ j. f j q) (λ j. of_f j q) in
    let all : n ≡ k + (1 + r) = omega arith in
    let cut : (q : Key) → total add n (λ m. f m q) ≡ add.plus (total add k (λ m. f m q)) (up k (1 + r) q) = λ q. ap (λ (m : ℕ). total add m (λ j. f j q)) all ∙ total_split add (sum_sound sound) additive k (1 + r) (λ j. f j q) (λ j. of_f j q) in
    let one_more : (q : Key) → total add 1 (λ j. f (k + j) q) ≡ f k q = λ q.
    let none : k + 0 ≡ k = omega arith in
    total_suc add 0 1 (λ j. f (k + j) q) (omega arith) ∙ (ap (λ v. add.plus v (f (k + 0) q)) (total_none add (λ j. f (k + j) q)) ∙ (additive.neutral.before (f (k + 0) q) (of_f (k + 0) q) ∙ ap (λ (m : ℕ). f m q) none)) in
    let rest = λ (q : Key). total add r (λ j. f (k + (1 + j)) q) in
    let of_rest : (q : Key) → sound (rest q).value ≡ true = λ q. total_sound add (sum_sound sound) additive.neutral r (λ j. f (k + (1 + j)) q) (λ j. of_f (k + (1 + j)) q) in
    let first : (q : Key) → up k (1 + r) q ≡ add.plus (f k q) (rest q) = λ q. total_split add (sum_sound sound) additive 1 r (λ j. f (k + j) q) (λ j. of_f (k + j) q) ∙ ap (λ v. add.plus v (rest q)) (one_more q) in
    room_first adding fits sound laws now (f k) rest (up k (1 + r)) enters.tally (of_f k) of_rest
    (room_second adding fits sound laws before now (λ q. total add k (λ m. f m q)) (up k (1 + r)) (λ q. total add n (λ m. f m q)) tally (of_total k) (of_up k (1 + r)) room cut enters) first

pub enters_total : {V : Type 0} (adding : Adding V) (fits sound : V → Bool) → IsAmount adding fits sound → (before now after : List (Entry V)) (f : ℕ → Key → Sum V) (k : ℕ) → IsTally adding sound before → ((m : ℕ) (q : Key) → sound (f m q).value ≡ true) → Enters adding sound before now (λ q. total (sums adding) k (λ m. f m q)) → Enters adding sound now after (f k) → Enters adding sound before after (λ q. total (sums adding) (k + 1) (λ m. f m q))
enters_total adding fits sound laws before now after f k tally of_f enters last =
    let add = sums adding in
    let additive = (sums_are_amounts adding fits sound laws).additive in
    enters_both adding fits sound laws before now after (λ q. total add k (λ m. f m q)) (f k) (λ q. total add (k + 1) (λ m. f m q)) tally (λ q. total_sound add (sum_sound sound) additive.neutral k (λ m. f m q) (λ m. of_f m q)) (of_f k) enters last
    (λ q. total_suc add k (k + 1) (λ m. f m q) refl)

-- ---- of strips

pub room_in_columns : {V : Type 0} (adding : Adding V) (fits sound : V → Bool) → IsAmount adding fits sound → (before now : List (Entry V)) (plane : Plane) (rates : Rates V) (axis : ℕ) (first at next end low high : ℤ) → AllParts sound (λ v. v) plane rates axis → first ≤ℤ at → at ≤ℤ next → next ≤ℤ end → IsTally adding sound before → HasRoom adding fits sound before (columns_added (sums adding) one plane rates axis first end low high) → Enters adding sound before now (columns_added (sums adding) one plane rates axis first at low high) → HasRoom adding fits sound now (columns_added (sums adding) one plane rates axis at next low high)
room_in_columns adding fits sound laws before now plane rates axis first at next end low high each one_is two_is three_is tally room enters =
    let add = sums adding in
    let additive = (sums_are_amounts adding fits sound laws).additive in
    let col = columns_added add one plane rates axis in
    let of_col : (a b : ℤ) (q : Key) → sound (col a b low high q).value ≡ true = λ a b q. columns_sound add (sum_sound sound) additive.neutral one plane rates axis a b low high q each in
    let cut : (q : Key) → col first end low high q ≡ add.plus (col first at low high q) (col at end low high q) = λ q. columns_split add (sum_sound sound) additive one plane rates axis first at end low high q each one_is (omega (arith, ints)) in
    let again : (q : Key) → col at end low high q ≡ add.plus (col at next low high q) (col next end low high q) = λ q. columns_split add (sum_sound sound) additive one plane rates axis at next end low high q each two_is three_is in
    room_first adding fits sound laws now (col at next low high) (col next end low high) (col at end low high) enters.tally (of_col at next) (of_col next end)
    (room_second adding fits sound laws before now (col first at low high) (col at end low high) (col first end low high) tally (of_col first at) (of_col at end) room cut enters) again

pub enters_columns : {V : Type 0} (adding : Adding V) (fits sound : V → Bool) → IsAmount adding fits sound → (before now after : List (Entry V)) (plane : Plane) (rates : Rates V) (axis : ℕ) (first at next low high : ℤ) → AllParts sound (λ v. v) plane rates axis → first ≤ℤ at → at ≤ℤ next → IsTally adding sound before → Enters adding sound before now (columns_added (sums adding) one plane rates axis first at low high) → Enters adding sound now after (columns_added (sums adding) one plane rates axis at next low high) → Enters adding sound before after (columns_added (sums adding) one plane rates axis first next low high)
enters_columns adding fits sound laws before now after plane rates axis first at next low high each one_is two_is tally enters last =
    let add = sums adding in
    let additive = (sums_are_amounts adding fits sound laws).additive in
    let col = columns_added add one plane rates axis in
    enters_both adding fits sound laws before now after (col first at low high) (col at next low high) (col first next low high) tally
    (λ q. columns_sound add (sum_sound sound) additive.neutral one plane rates axis first at low high q each) (λ q. columns_sound add (sum_sound sound) additive.neutral one plane rates axis at next low high q each) enters last
    (λ q. columns_split add (sum_sound sound) additive one plane rates axis first at next low high q each one_is two_is)

-- room for the lines up to the next one, and for those behind it
pub room_to : {V : Type 0} (adding : Adding V) (fits sound : V → Bool) → IsAmount adding fits sound → (before : List (Entry V)) (plane : Plane) (rates : Rates V) (axis : ℕ) (at next end low high : ℤ) → AllParts sound (λ v. v) plane rates axis → at ≤ℤ next → next ≤ℤ end → IsTally adding sound before → HasRoom adding fits sound before (columns_added (sums adding) one plane rates axis at end low high) → HasRoom adding fits sound before (columns_added (sums adding) one plane rates axis at next low high)
room_to adding fits sound laws before plane rates axis at next end low high each first second tally room =
    let add = sums adding in
    let additive = (sums_are_amounts adding fits sound laws).additive in
    let col = columns_added add one plane rates axis in
    let of_col : (a b : ℤ) (q : Key) → sound (col a b low high q).value ≡ true = λ a b q. columns_sound add (sum_sound sound) additive.neutral one plane rates axis a b low high q each in
    room_first adding fits sound laws before (col at next low high) (col next end low high) (col at end low high) tally (of_col at next) (of_col next end) room
    (λ q. columns_split add (sum_sound sound) additive one plane rates axis at next end low high q each first second)

pub room_behind : {V : Type 0} (adding : Adding V) (fits sound : V → Bool) → IsAmount adding fits sound → (before after : List (Entry V)) (plane : Plane) (rates : Rates V) (axis : ℕ) (at next end low high : ℤ) → AllParts sound (λ v. v) plane rates axis → at ≤ℤ next → next ≤ℤ end → IsTally adding sound before → HasRoom adding fits sound before (columns_added (sums adding) one plane rates axis at end low high) → Enters adding sound before after (columns_added (sums adding) one plane rates axis at next low high) → HasRoom adding fits sound after (columns_added (sums adding) one plane rates axis next end low high)
room_behind adding fits sound laws before after plane rates axis at next end low high each first second tally room enters =
    let add = sums adding in
    let additive = (sums_are_amounts adding fits sound laws).additive in
    let col = columns_added add one plane rates axis in
    let of_col : (a b : ℤ) (q : Key) → sound (col a b low high q).value ≡ true = λ a b q. columns_sound add (sum_sound sound) additive.neutral one plane rates axis a b low high q each in
    room_second adding fits sound laws before after (col at next low high) (col next end low high) (col at end low high) tally (of_col at next) (of_col next end) room
    (λ q. columns_split add (sum_sound sound) additive one plane rates axis at next end low high q each first second) enters
