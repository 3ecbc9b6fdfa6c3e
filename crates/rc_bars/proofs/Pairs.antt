-- Parts that are entered one list after another.
use Rattle.std.proofs.Common.{◌≡◌, ℕ, ℤ, Bool, true, List, ◌++◌, Option, Some, None}
use Rattle.std.specs.Prelude.{IfSome}
use Rattle.rc_geom.specs.declared.key.Key.{Key}
use Rattle.rc_geom.specs.Rates.{Rates}
use Rattle.rc_geom.specs.Parts.{Part}
use Rattle.rc_geom.specs.Sums.{Adding}
use Rattle.rc_rules.specs.Raters.{KeepsRules}
use Rattle.rc_tally.specs.declared.entry.Entry.{Entry}
use Rattle.rc_tally.specs.Amounts.{IsAmount}
use Rattle.rc_tally.specs.Tallies.{sums, sum_sound}
use Rattle.rc_sums.specs.Entering.{many, IsTally, HasRoom, Enters}
use Rattle.rc_sums.proofs.Sums.{sums_are_amounts, repeated_sound}
use Rattle.rc_sums.proofs.Enters.{enters_both, room_first, room_second}
use Rattle.rc_bars.specs.declared.bar.Bar.{Bar}
use Rattle.rc_bars.specs.Adds.{parts_added, waiting_parts}
use Rattle.rc_bars.specs.Columns.{Layers}
use Rattle.rc_bars.specs.Laws.{IsSoundLayer}
use Rattle.rc_bars.proofs.Adds.{worth_of, worth_append}
use Rattle.rc_bars.proofs.Worths.{AreSound, high_sound}

pub parts_sound : {V : Type 0} (adding : Adding V) (fits sound : V → Bool) → IsAmount adding fits sound → (n : ℕ) (ps : List (Part V)) → AreSound (sum_sound sound) (many adding n) ps → (q : Key) → sound (parts_added adding n ps q).value ≡ true
parts_sound adding fits sound laws n ps of_ps q =
    let additive = (sums_are_amounts adding fits sound laws).additive in
    worth_of (sums adding) (sum_sound sound) additive (many adding n) q ((sums adding).none) ps additive.neutral.start of_ps

parts_append : {V : Type 0} (adding : Adding V) (fits sound : V → Bool) → IsAmount adding fits sound → (n : ℕ) (ps rs : List (Part V)) → AreSound (sum_sound sound) (many adding n) ps → AreSound (sum_sound sound) (many adding n) rs → (q : Key) → parts_added adding n (ps ++ rs) q ≡ (sums adding).plus (parts_added adding n ps q) (parts_added adding n rs q)
parts_append adding fits sound laws n ps rs of_ps of_rs q = worth_append (sums adding) (sum_sound sound) (sums_are_amounts adding fits sound laws).additive (many adding n) q ps rs of_ps of_rs

pub both_enter : {V : Type 0} (adding : Adding V) (fits sound : V → Bool) → IsAmount adding fits sound → (a b c : List (Entry V)) (n : ℕ) (ps rs : List (Part V)) → IsTally adding sound a → AreSound (sum_sound sound) (many adding n) ps → AreSound (sum_sound sound) (many adding n) rs → Enters adding sound a b (parts_added adding n ps) → Enters adding sound b c (parts_added adding n rs) → Enters adding sound a c (parts_added adding n (ps ++ rs))
both_enter adding fits sound laws a b c n ps rs tally of_ps of_rs first second =
    enters_both adding fits sound laws a b c (parts_added adding n ps) (parts_added adding n rs) (parts_added adding n (ps ++ rs)) tally (parts_sound adding fits sound laws n ps of_ps) (parts_sound adding fits sound laws n rs of_rs) first second (parts_append adding fits sound laws n ps rs of_ps of_rs)

pub first_room : {V : Type 0} (adding : Adding V) (fits sound : V → Bool) → IsAmount adding fits sound → (a : List (Entry V)) (n : ℕ) (ps rs : List (Part V)) → IsTally adding sound a → AreSound (sum_sound sound) (many adding n) ps → AreSound (sum_sound sound) (many adding n) rs → HasRoom adding fits sound a (parts_added adding n (ps ++ rs)) → HasRoom adding fits sound a (parts_added adding n ps)
first_room adding fits sound laws a n ps rs tally of_ps of_rs room =
    room_first adding fits sound laws a (parts_added adding n ps) (parts_added adding n rs) (parts_added adding n (ps ++ rs)) tally (parts_sound adding fits sound laws n ps of_ps) (parts_sound adding fits sound laws n rs of_rs) room (parts_append adding fits sound laws n ps rs of_ps of_rs)

pub second_room : {V : Type 0} (adding : Adding V) (fits sound : V → Bool) → IsAmount adding fits sound → (a b : List (Entry V)) (n : ℕ) (ps rs : List (Part V)) → IsTally adding sound a → AreSound (sum_sound sound) (many adding n) ps → AreSound (sum_sound sound) (many adding n) rs → HasRoom adding fits sound a (parts_added adding n (ps ++ rs)) → Enters adding sound a b (parts_added adding n ps) → HasRoom adding fits sound b (parts_added adding n rs)
second_room adding fits sound laws a b n ps rs tally of_ps of_rs room first =
    room_second adding fits sound laws a b (parts_added adding n ps) (parts_added adding n rs) (parts_added adding n (ps ++ rs)) tally (parts_sound adding fits sound laws n ps of_ps) (parts_sound adding fits sound laws n rs of_rs) room (parts_append adding fits sound laws n ps rs of_ps of_rs) first

-- ---- rates of layers with rules

pub many_rules : {V : Type 0} (adding : Adding V) (fits sound : V → Bool) → IsAmount adding fits sound → (has_rules : ℕ → Type 0) (rates : Rates V) → KeepsRules has_rules rates adding sound → (layer n : ℕ) → has_rules layer → IsSoundLayer (sum_sound sound) (many adding n) rates layer
many_rules adding fits sound laws has_rules rates keeps layer n rules = record {
  own = λ under over thick gap. repeated_sound adding sound laws.additive.neutral n _ (keeps.own layer under over thick gap rules);
  share = λ under over thick gap. repeated_sound adding sound laws.additive.neutral n _ (keeps.share layer under over thick gap rules);
}

pub waiting_are_sound : {V : Type 0} (adding : Adding V) (fits sound : V → Bool) → IsAmount adding fits sound → (has_rules : ℕ → Type 0) (rates : Rates V) → KeepsRules has_rules rates adding sound → (low high : ℤ) (under : Layers) (n : ℕ) (top above : Option Bar) → IfSome top (λ p. has_rules p.layer) → AreSound (sum_sound sound) (many adding n) (waiting_parts rates low high under top above)
waiting_are_sound adding fits sound laws has_rules rates keeps low high under n None above rules = tt
waiting_are_sound adding fits sound laws has_rules rates keeps low high under n (Some p) above rules = high_sound (sum_sound sound) (many adding n) rates low high under p above (many_rules adding fits sound laws has_rules rates keeps p.layer n rules)
