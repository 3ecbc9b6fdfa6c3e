-- Digits, scaled by powers of ten, and counted up to a number.
use Rattle.std.proofs.Common.{◌≡◌, ◌∙◌, ◌+◌, ◌-◌, ◌*◌, ◌/◌, ◌%◌, ◌^◌, ◌<◌, ◌≤◌, ◌++◌, ℕ, zero, suc, true, false, List, [], ◌∷◌, length, take, drop, get_or, refl, ap, sym, arith, length-drop, inl, inr}
use Rattle.std.specs.Prelude.{min, nat_le, ◌==◌}
use Rattle.std.specs.Char.{digit_value}
use Rattle.std.specs.List.{list_all}
use Rattle.std.specs.Str.Parse.{digits_value, digits_value_after}
use Rattle.std.proofs.Math.Nat.{mul-div_cancel, mul-mod_left, mul-div-mul_right, div-eq_of_lt, mod-eq_of_lt, mul_assoc, mod-lt, mul-le-mul_left, pow-suc, add-mul-mod_self_right, mul-add-mod_self_right, mod-add-div', mul-le-mul_right, pow-le-pow_right, mul-lt-mul_of_pos_right}
use Rattle.std.proofs.lemmas.Nat.{pow-add, div-mul-add}
use Rattle.std.proofs.lemmas.Bool.{and_parts, cases_lt, cases_Bool, true≢false}
use Rattle.std.proofs.lemmas.List.Folds.{list_all_at}
use Rattle.std.proofs.lemmas.Bool.Decides.{nat_tests}
use Rattle.std.proofs.lemmas.Str.{digit_value_digit}
use Rattle.std.proofs.lemmas.Int.Digits.{digits_value_more}
use Rattle.std.proofs.lemmas.List.{take-append-drop, get_or-drop, take_all}
use Rattle.rc_fixed.specs.Numeral.{is_digit}
use Rattle.rc_fixed.specs.Steps.{most, IsQuotient}
use Rattle.rc_fixed.proofs.Behind.{pow_ten-pos}
use Rattle.rc_fixed.proofs.Reading.{digits_value_after-is, digits_value-cons}

-- ---- counting up to a number

pub capped_digit : (cap v d : ℕ) → min cap (min cap v * 10 + d) ≡ min cap (v * 10 + d)
capped_digit cap v d = omega arith

pub capped_ten : (cap v : ℕ) → min cap (min cap v * 10) ≡ min cap (v * 10)
capped_ten cap v = omega arith

pub capped_scale : (cap v m : ℕ) → 0 < m → min cap (min cap v * m) ≡ min cap (v * m)
capped_scale cap v m some =
    elim (cases_lt v cap) [
      | inl less ↦ let e : min cap v ≡ v = omega arith in rw e refl
      | inr more ↦ let e : min cap v ≡ cap = omega arith in
          let a : cap * 1 ≤ cap * m = mul-le-mul_left cap some in
          let b : cap * m ≤ v * m = mul-le-mul_right m more in
          rw e (omega (arith, a, b))
    ]

-- ---- digits

pub digit_is : (d : ℕ) → is_digit d ≡ true → digit_value d ≡ d - 48
digit_is d h =
    let both = and_parts (nat_le 48 d) (nat_le d 57) h in
    let low : 48 ≤ d = grind (arith, nat_tests) in
    let high : d ≤ 57 = grind (arith, nat_tests) in
    let value = digit_value_digit d (low, high) in omega arith

pub one_more : (s : List ℕ) (from at : ℕ) → from ≤ at → at < length s → is_digit (get_or s at 0) ≡ true
    → digits_value 10 (take (at + 1 - from) (drop from s)) ≡ digits_value 10 (take (at - from) (drop from s)) * 10 + (get_or s at 0 - 48)
one_more s from at le lt digit =
    let k : at + 1 - from ≡ (at - from) + 1 = omega arith in
    let e : from + (at - from) ≡ at = omega arith in
    let less : at - from < length (drop from s) = omega (arith, length-drop from s) in
    rw k (digits_value_more 10 (drop from s) (at - from) less ∙ rw (get_or-drop from s (at - from) 0, e, digit_is (get_or s at 0) digit) refl)

digits_small : (s : List ℕ) → list_all is_digit s ≡ true → digits_value 10 s < 10 ^ length s
digits_small [] all = omega arith
digits_small (c ∷ cs) all =
    let both = and_parts (is_digit c) (list_all is_digit cs) all in
    let less = digits_small cs both.1 in
    let value = digit_is c both.0 in
    let ends = and_parts (nat_le 48 c) (nat_le c 57) both.0 in
    let high : c ≤ 57 = let h = ends.1 in grind (arith, nat_tests) in
    let one : digit_value c ≤ 9 = omega arith in
    let scaled : digit_value c * 10 ^ length cs ≤ 9 * 10 ^ length cs = mul-le-mul_right (10 ^ length cs) one in
    let more : 10 ^ suc (length cs) ≡ 10 ^ length cs * 10 = pow-suc 10 (length cs) in
    rw (digits_value-cons c cs) (omega (arith, scaled, more, less))

after-append : (n : ℕ) (a b : List ℕ) → digits_value_after 10 n (a ++ b) ≡ digits_value_after 10 (digits_value_after 10 n a) b
after-append n [] b = refl
after-append n (c ∷ cs) b = after-append (n * 10 + digit_value c) cs b

digits-append : (a b : List ℕ) → digits_value 10 (a ++ b) ≡ digits_value 10 a * 10 ^ length b + digits_value 10 b
digits-append a b = after-append 0 a b ∙ digits_value_after-is (digits_value 10 a) b

-- ---- quotients of powers

split_power : (u n : ℕ) → n ≤ u → 10 ^ u ≡ 10 ^ (u - n) * 10 ^ n
split_power u n le = let e : u ≡ (u - n) + n = omega arith in ap (λ k. 10 ^ k) e ∙ pow-add 10 (u - n) n

spread : (r q t p : ℕ) → (r + q * t) * p ≡ r * p + q * (t * p)
spread r q t p = grind arith

zero_scale : (r p : ℕ) → 0 < p → (r * p == 0) ≡ (r == 0)
zero_scale r p some =
    elim (cases_lt 0 r) [
      | inl more ↦ let a : 1 * p ≤ r * p = mul-le-mul_right p more in let b : 0 < r * p = omega arith in not_zero (r * p) b ∙ sym (not_zero r more)
      | inr none ↦ let e : r ≡ 0 = omega arith in let f : 0 * p ≡ 0 = omega arith in rw (e, f) refl
    ]
  where
    not_zero : (k : ℕ) → 0 < k → (k == 0) ≡ false
    not_zero k lt = grind (arith, nat_tests)

raise_div : (v u n : ℕ) → n ≤ u → v * 10 ^ u / 10 ^ n ≡ v * 10 ^ (u - n)
raise_div v u n le =
    ap (λ k. v * k / 10 ^ n) (split_power u n le) ∙ ap (λ k. k / 10 ^ n) (sym (mul_assoc v (10 ^ (u - n)) (10 ^ n))) ∙ mul-div_cancel (v * 10 ^ (u - n)) (pow_ten-pos n)

raise_mod : (v u n : ℕ) → n ≤ u → v * 10 ^ u % 10 ^ n ≡ 0
raise_mod v u n le =
    ap (λ k. v * k % 10 ^ n) (split_power u n le) ∙ ap (λ k. k % 10 ^ n) (sym (mul_assoc v (10 ^ (u - n)) (10 ^ n))) ∙ mul-mod_left (v * 10 ^ (u - n)) (10 ^ n)

lower_div : (v u n : ℕ) → u ≤ n → v * 10 ^ u / 10 ^ n ≡ v / 10 ^ (n - u)
lower_div v u n le = ap (λ k. v * 10 ^ u / k) (split_power n u le) ∙ mul-div-mul_right v (10 ^ (n - u)) (pow_ten-pos u)

lower_mod : (v u n : ℕ) → u ≤ n → (v * 10 ^ u % 10 ^ n == 0) ≡ (v % 10 ^ (n - u) == 0)
lower_mod v u n le =
    let p : ℕ = 10 ^ u in
    let t : ℕ = 10 ^ (n - u) in
    let less : v % t * p < t * p = mul-lt-mul_of_pos_right (mod-lt v (pow_ten-pos (n - u))) (pow_ten-pos u) in
    let is : v * p % (t * p) ≡ v % t * p =
    ap (λ k. k * p % (t * p)) (sym (mod-add-div' v t)) ∙ ap (λ k. k % (t * p)) (spread (v % t) (v / t) t p) ∙ add-mul-mod_self_right (v % t * p) (v / t) (t * p) ∙ mod-eq_of_lt less in
    ap (λ k. v * p % k == 0) (split_power n u le) ∙ ap (λ k. k == 0) is ∙ zero_scale (v % t) p (pow_ten-pos u)

-- ---- the two parts of the digits

all_drop : (k : ℕ) (s : List ℕ) → list_all is_digit s ≡ true → list_all is_digit (drop k s) ≡ true
all_drop zero s all = all
all_drop (suc k) [] all = refl
all_drop (suc k) (c ∷ cs) all = all_drop k cs (and_parts (is_digit c) (list_all is_digit cs) all).1

parts : (s : List ℕ) (k : ℕ) → digits_value 10 s ≡ digits_value 10 (take k s) * 10 ^ length (drop k s) + digits_value 10 (drop k s)
parts s k = ap (digits_value 10) (sym (take-append-drop k s)) ∙ digits-append (take k s) (drop k s)

record Splits (s : List ℕ) (t : ℕ) : Type 0 where
  quotient : digits_value 10 (take (length s - t) s) ≡ digits_value 10 s / 10 ^ t
  rest : digits_value 10 (drop (length s - t) s) ≡ digits_value 10 s % 10 ^ t

splits : (s : List ℕ) (t : ℕ) → list_all is_digit s ≡ true → Splits s t
splits s t all =
    elim (cases_lt (length s) t) [
      | inl short ↦
          let k : length s - t ≡ 0 = omega arith in
          let fits : 10 ^ length s ≤ 10 ^ t = pow-le-pow_right {n = 10} (omega arith) {i = length s} {j = t} (omega arith) in
          let less : digits_value 10 s < 10 ^ t = omega (arith, fits, digits_small s all) in
          record { quotient = rw k (sym (div-eq_of_lt less)); rest = rw k (sym (mod-eq_of_lt less)) }
      | inr long ↦
          let size : length (drop (length s - t) s) ≡ t = omega (arith, length-drop (length s - t) s) in
          let b : digits_value 10 (drop (length s - t) s) < 10 ^ t = rw size at (digits_small (drop (length s - t) s) (all_drop (length s - t) s all)) in
          let whole : digits_value 10 s ≡ digits_value 10 (take (length s - t) s) * 10 ^ t + digits_value 10 (drop (length s - t) s) = rw size at (parts s (length s - t)) in
          record {
            quotient = sym (ap (λ n. n / 10 ^ t) whole ∙ div-mul-add (digits_value 10 (take (length s - t) s)) (10 ^ t) (digits_value 10 (drop (length s - t) s)) b);
            rest = sym (ap (λ n. n % 10 ^ t) whole ∙ mul-add-mod_self_right (digits_value 10 (take (length s - t) s)) (10 ^ t) (digits_value 10 (drop (length s - t) s)) ∙ mod-eq_of_lt b);
          }
    ]

-- ---- what the code finds

capped_zero : (v : ℕ) → (min most v == 0) ≡ (v == 0)
capped_zero v = elim (cases_lt 0 v) [
  | inl more ↦ let b : 0 < min most v = omega arith in not_zero (min most v) b ∙ sym (not_zero v more)
  | inr none ↦ let e : v ≡ 0 = omega arith in rw e refl
]
  where
    not_zero : (k : ℕ) → 0 < k → (k == 0) ≡ false
    not_zero k lt = grind (arith, nat_tests)

pub raised_quotient : (s : List ℕ) (u n total d floor : ℕ) → total ≡ length s → n ≤ u → d ≡ min most (digits_value 10 (take (total - 0) (drop 0 s))) → floor ≡ min most (d * 10 ^ (u - n))
    → IsQuotient (record { floor = floor; is_whole = true }) (digits_value 10 s * 10 ^ u) (10 ^ n)
raised_quotient s u n total d floor at le is raised =
    let e : total - 0 ≡ length s = omega arith in
    let f : take (total - 0) (drop 0 s) ≡ s = rw e (take_all (length s) s (omega arith)) in
    record {
      floor = raised ∙ rw (is, f) (capped_scale most (digits_value 10 s) (10 ^ (u - n)) (pow_ten-pos (u - n))) ∙ ap (λ x. min most x) (sym (raise_div (digits_value 10 s) u n le));
      is_whole = rw (raise_mod (digits_value 10 s) u n le) refl;
    }

pub lowered_quotient : (s : List ℕ) (u n total kept floor rest : ℕ) → list_all is_digit s ≡ true → total ≡ length s → u ≤ n → kept ≡ total - (n - u)
    → floor ≡ min most (digits_value 10 (take (kept - 0) (drop 0 s))) → rest ≡ min most (digits_value 10 (take (total - kept) (drop kept s)))
    → IsQuotient (record { floor = floor; is_whole = rest == 0 }) (digits_value 10 s * 10 ^ u) (10 ^ n)
lowered_quotient s u n total kept floor rest all at le cut is left =
    let sp = splits s (n - u) all in
    let e : kept - 0 ≡ length s - (n - u) = omega arith in
    let k : kept ≡ length s - (n - u) = omega arith in
    let f : take (total - kept) (drop kept s) ≡ drop kept s = take_all (total - kept) (drop kept s) (omega (arith, length-drop kept s)) in
    record {
      floor = is ∙ rw e (ap (λ x. min most x) (sp.quotient ∙ sym (lower_div (digits_value 10 s) u n le)));
      is_whole = rw (left, f, k) (capped_zero (digits_value 10 (drop (length s - (n - u)) s)) ∙ ap (λ x. x == 0) sp.rest ∙ sym (lower_mod (digits_value 10 s) u n le));
    }

pub all_at : (s : List ℕ) (i : ℕ) → i < length s → list_all is_digit s ≡ true → is_digit (get_or s i 0) ≡ true
all_at s i lt all =
    elim (cases_Bool (is_digit (get_or s i 0))) [
      | inl yes' ↦ yes'
      | inr no' ↦ absurd (true≢false (sym all ∙ list_all_at is_digit s i 0 lt no'))
    ]
