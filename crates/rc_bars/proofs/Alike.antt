-- Neighbouring slots that have come to the same add as one.
use Rattle.std.proofs.Common.{◌≡◌, ◌<◌, ◌≤◌, ◌+◌, ◌-◌, ℕ, zero, suc, ℤ, ◌≤ℤ◌, ◌<ℤ◌, Bool, true, List, ◌++◌, Option, Some, None, refl, ap, sym, ◌∙◌, subst, arith}
use Rattle.std.specs.Prelude.{IfSome}
use Rattle.std.proofs.lemmas.List.Elements.{All-from_recursion}
use Rattle.std.proofs.lemmas.Int.{ints}
use Rattle.rc_geom.specs.declared.key.Key.{Key}
use Rattle.rc_geom.specs.Rates.{Rates}
use Rattle.rc_geom.specs.Parts.{Part, worth_at}
use Rattle.rc_geom.specs.Sums.{Adding, total, extent}
use Rattle.rc_geom.proofs.Totals.{total_none, total_suc, total_sound, extent_is, extent_none}
use Rattle.rc_geom.proofs.Cuts.{total_split}
use Rattle.rc_rules.specs.Raters.{KeepsRules}
use Rattle.rc_tally.specs.declared.entry.Entry.{Entry}
use Rattle.rc_tally.specs.Amounts.{IsAmount, repeated}
use Rattle.rc_tally.specs.Tallies.{Sum, sums, sum_sound}
use Rattle.rc_sums.specs.Entering.{one, many, IsTally, HasRoom, Enters}
use Rattle.rc_sums.proofs.Sums.{sums_additive, sums_are_amounts, repeated_one}
use Rattle.rc_sums.proofs.Strips.{kept_worth, repeating_keeps}
use Rattle.rc_sums.proofs.Enters.{enters_both, room_first, room_second}
use Rattle.rc_bars.specs.declared.bar.Bar.{Bar}
use Rattle.rc_bars.specs.Adds.{parts_added, waiting_parts}
use Rattle.rc_bars.specs.Cells.{ArePlaces}
use Rattle.rc_bars.specs.Columns.{Layers, low_parts}
use Rattle.rc_bars.specs.Laws.{IsSoundLayer}
use Rattle.rc_bars.specs.Slots.{place, slot_width}
use Rattle.rc_bars.proofs.Adds.{worth_of}
use Rattle.rc_bars.proofs.Worths.{AreSound, both_sound, low_sound, high_sound}

-- ---- places

rises_by : (places : List ℤ) (count i n j : ℕ) → ArePlaces places count → i + n ≡ j → j ≤ count → place places i ≤ℤ place places j
rises_by places count i zero j are is less =
    let same = ap (place places) (let e : i ≡ j = omega arith in e) in
    omega (arith, ints, same)
rises_by places count i (suc n) j are is less =
    let m = i + n in
    let e : m + 1 ≡ j = omega arith in
    let before = rises_by places count i n m are refl (omega arith) in
    let step = subst (λ (k : ℕ). place places m <ℤ place places k) e (are.rising m (omega arith)) in
    omega (arith, ints)

pub places_rise : (places : List ℤ) (count i j : ℕ) → ArePlaces places count → i < j → j ≤ count → place places i <ℤ place places j
places_rise places count i j are order less =
    let step = are.rising i (omega arith) in
    let rest = rises_by places count (i + 1) (j - (i + 1)) j are (omega arith) less in
    omega (arith, ints)

-- ---- so many times

repeated_more : {V : Type 0} (adding : Adding V) (fits sound : V → Bool) → IsAmount adding fits sound → (a b : ℕ) (x : Sum V) → sound x.value ≡ true → repeated (sums adding) (a + b) x ≡ (sums adding).plus (repeated (sums adding) a x) (repeated (sums adding) b x)
unfolding repeated
repeated_more adding fits sound laws a b x of_x = total_split (sums adding) (sum_sound sound) (sums_additive adding sound laws.additive) a b (λ _. x) (λ _. of_x)

parts_repeat : {V : Type 0} (adding : Adding V) (fits sound : V → Bool) → IsAmount adding fits sound → (n : ℕ) (ps : List (Part V)) (q : Key) → AreSound (sum_sound sound) one ps → parts_added adding n ps q ≡ repeated (sums adding) n (worth_at (sums adding) one q ps)
parts_repeat {V = W} adding fits sound laws n ps q of_ps =
    let add = sums adding in
    let keeps = repeating_keeps add (sum_sound sound) (sums_additive adding sound laws.additive) n in
    let ones : (λ (v : W). repeated add n (one v)) ≡ many adding n = λ i v. repeated_one adding n v i in
    sym (kept_worth add (sum_sound sound) add (repeated add n) keeps one q ps (All-from_recursion (λ (part : Part W). sum_sound sound (one part.amount) ≡ true) ps of_ps)
    ∙ ap (λ (worth : W → Sum W). worth_at add worth q ps) ones)

none_repeated : {V : Type 0} (adding : Adding V) (x : V) → repeated adding 0 x ≡ adding.none
unfolding repeated
none_repeated adding x = total_none adding (λ _. x)

-- slots that each add the same parts add them as often as all of them have columns
run_repeated : {V : Type 0} (adding : Adding V) (fits sound : V → Bool) → IsAmount adding fits sound → (places : List ℤ) (count k n : ℕ) (f : ℕ → Sum V) (x : Sum V) → sound x.value ≡ true → ArePlaces places count → k + n ≤ count → ((j : ℕ) → j < n → f (k + j) ≡ repeated (sums adding) (slot_width places (k + j)) x) → total (sums adding) n (λ j. f (k + j)) ≡ repeated (sums adding) (extent (place places k) (place places (k + n))) x
run_repeated adding fits sound laws places count k zero f x of_x are within each =
    let e : k + 0 ≡ k = omega arith in
    let none : extent (place places k) (place places (k + 0)) ≡ 0 = extent_none (place places k) (place places (k + 0)) (let same = ap (place places) e in omega (arith, ints, same)) in
    total_none (sums adding) (λ j. f (k + j)) ∙ sym (ap (λ (m : ℕ). repeated (sums adding) m x) none ∙ none_repeated (sums adding) x)
run_repeated adding fits sound laws places count k (suc n) f x of_x are within each =
    let add = sums adding in
    let m = k + n in
    let next : m + 1 ≡ k + suc n = omega arith in
    let so_far = run_repeated adding fits sound laws places count k n f x of_x are (omega arith) (λ j less. each j (omega arith)) in
    let up = rises_by places count k n m are refl (omega arith) in
    let step = are.rising m (omega arith) in
    let same = ap (place places) next in
    let a = extent_is (place places k) (place places m) up in
    let b = extent_is (place places m) (place places (m + 1)) (omega (arith, ints)) in
    let c = extent_is (place places k) (place places (k + suc n)) (omega (arith, ints, same)) in
    let long : extent (place places k) (place places m) + slot_width places m ≡ extent (place places k) (place places (k + suc n)) = omega (arith, ints, a, b, c, same) in
    total_suc add n (suc n) (λ j. f (k + j)) (omega arith)
    ∙ (ap (λ v. add.plus v (f m)) so_far
    ∙ (ap (add.plus (repeated add (extent (place places k) (place places m)) x)) (each n (omega arith))
    ∙ (sym (repeated_more adding fits sound laws (extent (place places k) (place places m)) (slot_width places m) x of_x)
    ∙ ap (λ (w : ℕ). repeated add w x) long)))

worth_of_one : {V : Type 0} (adding : Adding V) (fits sound : V → Bool) → IsAmount adding fits sound → (ps : List (Part V)) (q : Key) → AreSound (sum_sound sound) one ps → sound (worth_at (sums adding) one q ps).value ≡ true
worth_of_one adding fits sound laws ps q of_ps =
    let additive = (sums_are_amounts adding fits sound laws).additive in
    worth_of (sums adding) (sum_sound sound) additive one q ((sums adding).none) ps additive.neutral.start of_ps

pub run_parts : {V : Type 0} (adding : Adding V) (fits sound : V → Bool) → IsAmount adding fits sound → (places : List ℤ) (count k next columns : ℕ) (f : ℕ → Key → Sum V) (ps : List (Part V)) (q : Key) → AreSound (sum_sound sound) one ps → ArePlaces places count → k ≤ next → next ≤ count → columns ≡ extent (place places k) (place places next) → ((j : ℕ) → k ≤ j → j < next → f j q ≡ parts_added adding (slot_width places j) ps q) → total (sums adding) (next - k) (λ j. f (k + j) q) ≡ parts_added adding columns ps q
run_parts adding fits sound laws places count k next columns f ps q of_ps are order within wide each =
    let n = next - k in
    let x = worth_at (sums adding) one q ps in
    let is : k + n ≡ next = omega arith in
    run_repeated adding fits sound laws places count k n (λ j. f j q) x (worth_of_one adding fits sound laws ps q of_ps) are (omega arith)
    (λ j less. each (k + j) (omega arith) (omega arith) ∙ parts_repeat adding fits sound laws (slot_width places (k + j)) ps q of_ps)
    ∙ (ap (λ (m : ℕ). repeated (sums adding) (extent (place places k) (place places m)) x) is
    ∙ (ap (λ (w : ℕ). repeated (sums adding) w x) (sym wide) ∙ sym (parts_repeat adding fits sound laws columns ps q of_ps)))

-- ---- the parts of a pair

one_rules : {V : Type 0} (adding : Adding V) (sound : V → Bool) (has_rules : ℕ → Type 0) (rates : Rates V) → KeepsRules has_rules rates adding sound → (layer : ℕ) → has_rules layer → IsSoundLayer (sum_sound sound) one rates layer
one_rules adding sound has_rules rates keeps layer rules = record {
  own = λ under over thick gap. keeps.own layer under over thick gap rules;
  share = λ under over thick gap. keeps.share layer under over thick gap rules;
}

one_waiting : {V : Type 0} (adding : Adding V) (sound : V → Bool) (has_rules : ℕ → Type 0) (rates : Rates V) → KeepsRules has_rules rates adding sound → (low high : ℤ) (under : Layers) (top above : Option Bar) → IfSome top (λ p. has_rules p.layer) → AreSound (sum_sound sound) one (waiting_parts rates low high under top above)
one_waiting adding sound has_rules rates keeps low high under None above rules = tt
one_waiting adding sound has_rules rates keeps low high under (Some p) above rules = high_sound (sum_sound sound) one rates low high under p above (one_rules adding sound has_rules rates keeps p.layer rules)

pub pair_sound : {V : Type 0} (adding : Adding V) (sound : V → Bool) (has_rules : ℕ → Type 0) (rates : Rates V) → KeepsRules has_rules rates adding sound → (low high : ℤ) (now under : Layers) (top : Option Bar) (b : Bar) → IfSome top (λ p. has_rules p.layer) → has_rules b.layer → AreSound (sum_sound sound) one (waiting_parts rates low high under top (Some b) ++ low_parts rates low high now top b)
pair_sound adding sound has_rules rates keeps low high now under top b top_rules rules =
    both_sound (sum_sound sound) one (waiting_parts rates low high under top (Some b)) (low_parts rates low high now top b)
    (one_waiting adding sound has_rules rates keeps low high under top (Some b) top_rules)
    (low_sound (sum_sound sound) one rates low high now top b (one_rules adding sound has_rules rates keeps b.layer rules))

-- ---- some terms of a total at once

pub enters_some : {V : Type 0} (adding : Adding V) (fits sound : V → Bool) → IsAmount adding fits sound → (before now after : List (Entry V)) (f : ℕ → Key → Sum V) (k next : ℕ) → k ≤ next → IsTally adding sound before → ((m : ℕ) (q : Key) → sound (f m q).value ≡ true) → Enters adding sound before now (λ q. total (sums adding) k (λ m. f m q)) → Enters adding sound now after (λ q. total (sums adding) (next - k) (λ j. f (k + j) q)) → Enters adding sound before after (λ q. total (sums adding) next (λ m. f m q))
enters_some adding fits sound laws before now after f k next order tally of_f enters last =
    let add = sums adding in
    let additive = (sums_are_amounts adding fits sound laws).additive in
    let all : next ≡ k + (next - k) = omega arith in
    enters_both adding fits sound laws before now after (λ q. total add k (λ m. f m q)) (λ q. total add (next - k) (λ j. f (k + j) q)) (λ q. total add next (λ m. f m q)) tally
    (λ q. total_sound add (sum_sound sound) additive.neutral k (λ m. f m q) (λ m. of_f m q))
    (λ q. total_sound add (sum_sound sound) additive.neutral (next - k) (λ j. f (k + j) q) (λ j. of_f (k + j) q)) enters last
    (λ q. ap (λ (m : ℕ). total add m (λ j. f j q)) all ∙ total_split add (sum_sound sound) additive k (next - k) (λ j. f j q) (λ j. of_f j q))

pub room_for_some : {V : Type 0} (adding : Adding V) (fits sound : V → Bool) → IsAmount adding fits sound → (before now : List (Entry V)) (f : ℕ → Key → Sum V) (k next n : ℕ) → k ≤ next → next ≤ n → IsTally adding sound before → ((m : ℕ) (q : Key) → sound (f m q).value ≡ true) → HasRoom adding fits sound before (λ q. total (sums adding) n (λ m. f m q)) → Enters adding sound before now (λ q. total (sums adding) k (λ m. f m q)) → HasRoom adding fits sound now (λ q. total (sums adding) (next - k) (λ j. f (k + j) q))
room_for_some adding fits sound laws before now f k next n order within tally of_f room enters =
    let add = sums adding in
    let additive = (sums_are_amounts adding fits sound laws).additive in
    let of_tot = λ (a m : ℕ) (q : Key). total_sound add (sum_sound sound) additive.neutral m (λ j. f (a + j) q) (λ j. of_f (a + j) q) in
    let all : n ≡ k + (n - k) = omega arith in
    let rest : n - k ≡ (next - k) + (n - next) = omega arith in
    let behind = λ (q : Key). total add (n - next) (λ j. f (k + ((next - k) + j)) q) in
    room_first adding fits sound laws now (λ q. total add (next - k) (λ j. f (k + j) q)) behind (λ q. total add (n - k) (λ j. f (k + j) q)) enters.tally (of_tot k (next - k))
    (λ q. total_sound add (sum_sound sound) additive.neutral (n - next) (λ j. f (k + ((next - k) + j)) q) (λ j. of_f (k + ((next - k) + j)) q))
    (room_second adding fits sound laws before now (λ q. total add k (λ m. f m q)) (λ q. total add (n - k) (λ j. f (k + j) q)) (λ q. total add n (λ m. f m q)) tally
    (λ q. total_sound add (sum_sound sound) additive.neutral k (λ m. f m q) (λ m. of_f m q)) (of_tot k (n - k)) room
    (λ q. ap (λ (m : ℕ). total add m (λ j. f j q)) all ∙ total_split add (sum_sound sound) additive k (n - k) (λ j. f j q) (λ j. of_f j q)) enters)
    (λ q. ap (λ (m : ℕ). total add m (λ j. f (k + j) q)) rest ∙ total_split add (sum_sound sound) additive (next - k) (n - next) (λ j. f (k + j) q) (λ j. of_f (k + j) q))
