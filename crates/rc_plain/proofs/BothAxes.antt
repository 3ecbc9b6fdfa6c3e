-- The sums of one axis beside those of the other.
use Rattle.std.proofs.Common.{◌≡◌, ◌<◌, ◌+◌, ◌^◌, ℕ, Bool, true, List, Option, Some, None, Result, Ok, Err, ap, sym, ◌∙◌, arith}
use Rattle.std.specs.Prelude.{IfSome, IfOk}
use Rattle.std.specs.Option.{option_map_or}
use Rattle.rc_geom.specs.declared.key.Key.{Key}
use Rattle.rc_geom.specs.declared.rect.Rect.{Rect}
use Rattle.rc_geom.specs.Plane.{Plane}
use Rattle.rc_geom.specs.Rates.{Rates}
use Rattle.rc_geom.specs.Sums.{Adding, first_line, end_line, first_place, end_place}
use Rattle.rc_geom.specs.Extraction.{value_in, count_in, key_value, key_count}
use Rattle.rc_tally.specs.declared.entry.Entry.{Entry}
use Rattle.rc_tally.specs.Amounts.{IsAmount}
use Rattle.rc_tally.specs.Tallies.{Sum, sums, sum_of, sum_at, entry_at, HasSums, CanMerge, Merges}
use Rattle.rc_tally.proofs.Named.{merge_kept}
use Rattle.rc_sums.specs.WindowSums.{IsWindowSum}
use Rattle.rc_sums.proofs.Strips.{AllParts, columns_sound, columns_are_sum}
use Rattle.rc_plain.specs.BothAxes.{AreSums}

-- the value of an axis is sound
pub value_sound : {V : Type 0} (adding : Adding V) (fits sound : V → Bool) → IsAmount adding fits sound → (plane : Plane) (rates : Rates V) (axis : ℕ) (r : Rect) → AllParts sound (λ v. v) plane rates axis → (q : Key) → sound (value_in adding plane rates axis r q) ≡ true
value_sound adding fits sound laws plane rates axis r each q =
    ap sound (sym (columns_are_sum adding sound laws.additive (λ v. v) plane rates axis r q each))
    ∙ columns_sound adding sound laws.additive.neutral (λ v. v) plane rates axis (first_line axis r) (end_line axis r) (first_place axis r) (end_place axis r) q each

-- what an axis adds
abbrev pub axis_sum : {V : Type 0} → Adding V → Plane → Rates V → ℕ → Rect → Key → Sum V
axis_sum adding plane rates axis r q = record { count = count_in plane rates axis r q; value = value_in adding plane rates axis r q }

named : {V : Type 0} (adding : Adding V) (plane : Plane) (rates : Rates V) (axis : ℕ) (r : Rect) (entries : List (Entry V)) → IsWindowSum adding plane rates axis r entries → HasSums adding (axis_sum adding plane rates axis r) entries
named adding plane rates axis r entries is = record {
  each = λ q i. record { count = is.count q i; value = is.value q i };
  some = is.some;
}

beside : {V : Type 0} (adding : Adding V) (fits : V → Bool) (a b : Option (Entry V)) → (option_map_or sum_of a ((sums adding).none)).count + (option_map_or sum_of b ((sums adding).none)).count < 2 ^ 64 → fits (adding.plus (option_map_or sum_of a ((sums adding).none)).value (option_map_or sum_of b ((sums adding).none)).value) ≡ true → IfSome a (λ d. IfSome b (λ e. (d.count + e.count < 2 ^ 64) × (fits (adding.plus d.value e.value) ≡ true)))
beside adding fits None b few small = tt
beside adding fits (Some d) None few small = tt
beside adding fits (Some d) (Some e) few small = (few, small)

pub can_merge : {V : Type 0} (adding : Adding V) (fits : V → Bool) (plane : Plane) (rates : Rates V) (r : Rect) (a b : List (Entry V)) → IsWindowSum adding plane rates 0 r a → IsWindowSum adding plane rates 1 r b → ((q : Key) → key_count plane rates r q < 2 ^ 64) → ((q : Key) → fits (key_value adding plane rates r q) ≡ true) → CanMerge adding fits a b
can_merge adding fits plane rates r a b is_a is_b few small q =
    let one = is_a.count q in
    let two = is_b.count q in
    let most = few q in
    beside adding fits (entry_at a q) (entry_at b q) (omega (arith, one, two, most))
    (ap (λ v. fits (adding.plus v (sum_at adding b q).value)) (is_a.value q) ∙ (ap (λ v. fits (adding.plus (value_in adding plane rates 0 r q) v)) (is_b.value q) ∙ small q))

pub merged : {V : Type 0} (adding : Adding V) (fits sound : V → Bool) → IsAmount adding fits sound → (plane : Plane) (rates : Rates V) (r : Rect) → ((axis : ℕ) → AllParts sound (λ v. v) plane rates axis) → (a b c : List (Entry V)) → IsWindowSum adding plane rates 0 r a → IsWindowSum adding plane rates 1 r b → Merges adding a b c → AreSums adding plane rates r c
merged {V = W} adding fits sound laws plane rates r each a b c is_a is_b merges =
    let both = merge_kept adding sound laws.additive.neutral (axis_sum adding plane rates 0 r) (axis_sum adding plane rates 1 r) a b c (value_sound adding fits sound laws plane rates 0 r (each 0)) (value_sound adding fits sound laws plane rates 1 r (each 1)) (named adding plane rates 0 r a is_a) (named adding plane rates 1 r b is_b) merges in
    record {
      count = λ q. ap (λ (s : Sum W). s.count) (both.each q);
      value = λ q. ap (λ (s : Sum W). s.value) (both.each q);
      some = both.some;
    }

-- what follows of the value of a call that has succeeded
pub when_ok : {T E : Type 0} (r : Result T E) {P Q : T → Type 0} → IfOk r P → ((x : T) → P x → Q x) → IfOk r Q
when_ok (Ok x) h f = f x h
when_ok (Err e) h f = h
