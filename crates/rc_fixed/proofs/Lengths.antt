-- The nearest whole number of a length, from the parts of 10^-7 that it has.
use Rattle.std.proofs.Common.{◌≡◌, ◌∙◌, ◌+◌, ◌*◌, ◌/◌, ◌^◌, ◌<◌, ◌≤◌, ℕ, ℤ, true, false, cond, List, refl, ap, sym, arith, inl, inr}
use Rattle.std.specs.Prelude.{min, nat_le, pos, neg_ℤ, Ok, Err}
use Rattle.std.proofs.Math.Nat.{div-div-eq-div-mul, mul-div-mul_right, add-mul-div_right, div-mul-le_self, mul_comm}
use Rattle.std.proofs.lemmas.Nat.{le-div}
use Rattle.std.proofs.lemmas.Bool.{cases_lt}
use Rattle.std.proofs.lemmas.Bool.Decides.{nat_tests}
use Rattle.rc_fixed.specs.declared.fault.NumFault.TheVariants.{TooLarge}
use Rattle.rc_fixed.specs.declared.scale.Quotient.{Quotient}
use Rattle.rc_fixed.specs.Numeral.{is_decimal, is_negative, numerator, denominator, nearest, signed_within, len_of}
use Rattle.rc_fixed.specs.Steps.{most, IsQuotient}
use Rattle.rc_fixed.proofs.Behind.{pow_ten-pos}

regroup : (o m c : ℕ) → o * (2 * (m * c)) ≡ (2 * (o * m)) * c
regroup o m c = grind arith

near : (o u m c : ℕ) → 0 < u → 2 * (m * c) ≡ 10 ^ 7 → 1 ≤ c → (o * 10 ^ 7 / u / c + 1) / 2 ≡ nearest (o * m) u
near o u m c some product one =
    let x : ℕ = 2 * (o * m) in
    let a : o * 10 ^ 7 / u / c ≡ x / u =
    div-div-eq-div-mul (o * 10 ^ 7) u c ∙ ap (λ k. k / (u * c)) (ap (λ k. o * k) (sym product) ∙ regroup o m c) ∙ mul-div-mul_right x u one in
    let b : x / u + 1 ≡ (x + u) / u = sym (ap (λ k. (x + k) / u) (let e : u ≡ 1 * u = omega arith in e) ∙ add-mul-div_right x 1 some) in
    ap (λ k. (k + 1) / 2) a ∙ ap (λ k. k / 2) b ∙ div-div-eq-div-mul (x + u) u 2 ∙ ap (λ k. (x + u) / k) (mul_comm u 2)

div_rises : (a b c : ℕ) → 1 ≤ c → a ≤ b → a / c ≤ b / c
div_rises a b c one le = let h = div-mul-le_self a c in le-div (a / c) b c one (omega (arith, h))

-- the quotient isn't cut off where the length is small
uncut : (cap t c floor : ℕ) → 2147483648 * 50000 ≤ cap → c ≤ 50000 → 1 ≤ c → floor ≡ min cap t → (floor / c + 1) / 2 ≤ 2 ^ 29 → floor ≡ t
uncut cap t c floor wide few one is small =
    elim (cases_lt cap t) [
      | inl more ↦ let e : floor ≡ cap = omega arith in
          let l : 2147483648 ≤ cap / c = le-div 2147483648 cap c one (omega arith) in
          absurd (let s : (cap / c + 1) / 2 ≤ 536870912 = rw e at small in omega (arith, l, s))
      | inr less ↦ omega arith
    ]

too_far : (n : ℕ) → 2 ^ 29 < n → nat_le n (2 ^ 29) ≡ false
too_far n lt = grind (arith, nat_tests)

near_enough : (n : ℕ) → n ≤ 2 ^ 29 → nat_le n (2 ^ 29) ≡ true
near_enough n le = grind (arith, nat_tests)

read : (m : ℕ) (text : List ℕ) → is_decimal text ≡ true → len_of m text ≡ signed_within (is_negative text) (nearest (numerator text * m) (denominator text))
unfolding len_of
read m text decimal = rw decimal refl

pub len_large : (m c : ℕ) (text : List ℕ) (q : Quotient) → is_decimal text ≡ true → IsQuotient q (numerator text * 10 ^ 7) (denominator text) → 2 * (m * c) ≡ 10 ^ 7 → 1 ≤ c
    → 2 ^ 29 < (q.floor / c + 1) / 2 → Err TooLarge ≡ len_of m text
len_large m c text q decimal is product one far =
    let t : ℕ = numerator text * 10 ^ 7 / denominator text in
    let le : q.floor ≤ t = rw is.floor (omega arith) in
    let rises = div_rises q.floor t c one le in
    let e : (t / c + 1) / 2 ≡ nearest (numerator text * m) (denominator text) = near (numerator text) (denominator text) m c (pow_ten-pos _) product one in
    let far_too : 2 ^ 29 < (t / c + 1) / 2 = omega (arith, rises, far) in
    sym (read m text decimal ∙ rw (too_far (nearest (numerator text * m) (denominator text)) (rw e at far_too)) refl)

pub len_near : (m c : ℕ) (text : List ℕ) (q : Quotient) (z : ℤ) → is_decimal text ≡ true → IsQuotient q (numerator text * 10 ^ 7) (denominator text) → 2 * (m * c) ≡ 10 ^ 7 → c ≤ 50000 → 1 ≤ c
    → (q.floor / c + 1) / 2 ≤ 2 ^ 29 → z ≡ cond (is_negative text) (neg_ℤ (pos ((q.floor / c + 1) / 2))) (pos ((q.floor / c + 1) / 2)) → Ok z ≡ len_of m text
len_near m c text q z decimal is product few one small signed =
    let t : ℕ = numerator text * 10 ^ 7 / denominator text in
    let whole : q.floor ≡ t = uncut most t c q.floor (omega arith) few one is.floor small in
    let e : (q.floor / c + 1) / 2 ≡ nearest (numerator text * m) (denominator text) = rw whole (near (numerator text) (denominator text) m c (pow_ten-pos _) product one) in
    ap (λ x. Ok x) (rw e at signed) ∙ sym (read m text decimal ∙ rw (near_enough (nearest (numerator text * m) (denominator text)) (rw e at small)) refl)
