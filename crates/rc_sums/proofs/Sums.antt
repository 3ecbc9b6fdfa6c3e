-- Counts and amounts side by side.
use Rattle.std.proofs.Common.{◌≡◌, ◌<◌, ◌+◌, ◌^◌, ℕ, zero, suc, Bool, true, refl, ap, sym, ◌∙◌, arith}
use Rattle.std.specs.Prelude.{nat_lt}
use Rattle.std.proofs.lemmas.Bool.{ltb-true, lt-ltb, and_parts, and_from}
use Rattle.rc_geom.specs.Sums.{Adding, IsNeutral, IsAdditive}
use Rattle.rc_geom.proofs.Totals.{total_none, total_suc, total_sound}
use Rattle.rc_tally.specs.Amounts.{IsAmount, repeated}
use Rattle.rc_tally.specs.Tallies.{Sum, sums, sum_fits, sum_sound}
use Rattle.rc_sums.specs.Entering.{one, many}

-- a sum by its two parts
pair_is : {V : Type 0} (a b : Sum V) → a.count ≡ b.count → a.value ≡ b.value → a ≡ b
pair_is a b count value = λ i. record { count = count i; value = value i }

pub sums_additive : {V : Type 0} (adding : Adding V) (sound : V → Bool) → IsAdditive adding sound → IsAdditive (sums adding) (sum_sound sound)
sums_additive adding sound laws = record {
  neutral = record {
    start = laws.neutral.start;
    closed = λ a b of_a of_b. laws.neutral.closed a.value b.value of_a of_b;
    before = λ v of_v. pair_is ((sums adding).plus ((sums adding).none) v) v (omega arith) (laws.neutral.before v.value of_v);
    after = λ v of_v. pair_is ((sums adding).plus v ((sums adding).none)) v (omega arith) (laws.neutral.after v.value of_v);
  };
  swap = λ a b of_a of_b. pair_is ((sums adding).plus a b) ((sums adding).plus b a) (omega arith) (laws.swap a.value b.value of_a of_b);
  regroup = λ a b c of_a of_b of_c. pair_is ((sums adding).plus ((sums adding).plus a b) c) ((sums adding).plus a ((sums adding).plus b c)) (omega arith) (laws.regroup a.value b.value c.value of_a of_b of_c);
}

sums_parts : {V : Type 0} (adding : Adding V) (fits sound : V → Bool) → IsAmount adding fits sound → (a b : Sum V) → sum_sound sound a ≡ true → sum_sound sound b ≡ true → sum_fits fits ((sums adding).plus a b) ≡ true → (sum_fits fits a ≡ true) × (sum_fits fits b ≡ true)
sums_parts adding fits sound laws a b of_a of_b h =
    let both = and_parts (nat_lt (a.count + b.count) (2 ^ 64)) (fits (adding.plus a.value b.value)) h in
    let count : a.count + b.count < 2 ^ 64 = ltb-true (a.count + b.count) (2 ^ 64) both.0 in
    let values = laws.parts a.value b.value of_a of_b both.1 in (
      and_from (nat_lt a.count (2 ^ 64)) (fits a.value) (lt-ltb a.count (2 ^ 64) (omega arith)) values.0,
      and_from (nat_lt b.count (2 ^ 64)) (fits b.value) (lt-ltb b.count (2 ^ 64) (omega arith)) values.1,
    )

-- both together are a kind of amount
pub sums_are_amounts : {V : Type 0} (adding : Adding V) (fits sound : V → Bool) → IsAmount adding fits sound → IsAmount (sums adding) (sum_fits fits) (sum_sound sound)
sums_are_amounts adding fits sound laws = record {
  additive = sums_additive adding sound laws.additive;
  start = and_from (nat_lt 0 (2 ^ 64)) (fits adding.none) refl laws.start;
  fitting = λ a h. laws.fitting a.value (and_parts (nat_lt a.count (2 ^ 64)) (fits a.value) h).1;
  parts = sums_parts adding fits sound laws;
}

-- what repeated amounts are
pub repeated_sound : {V : Type 0} (adding : Adding V) (sound : V → Bool) → IsNeutral adding sound → (n : ℕ) (v : V) → sound v ≡ true → sound (repeated adding n v) ≡ true
unfolding repeated
repeated_sound adding sound laws n v h = total_sound adding sound laws n (λ _. v) (λ _. h)

pub repeated_one : {V : Type 0} (adding : Adding V) (n : ℕ) (v : V) → repeated (sums adding) n (one v) ≡ many adding n v
unfolding repeated
repeated_one adding zero v = total_none (sums adding) (λ _. one v) ∙ ap (λ w. record { count = 0; value = w }) (sym (total_none adding (λ _. v)))
repeated_one adding (suc n) v =
    let e : suc n ≡ n + 1 = omega arith in
    total_suc (sums adding) n (suc n) (λ _. one v) (omega arith)
    ∙ (ap (λ s. (sums adding).plus s (one v)) (repeated_one adding n v)
    ∙ pair_is ((sums adding).plus (many adding n v) (one v)) (many adding (suc n) v) (sym e) (sym (total_suc adding n (suc n) (λ _. v) (omega arith))))
