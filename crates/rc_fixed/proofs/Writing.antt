-- Each plain decimal is what is written for what it reads as.
use Rattle.std.proofs.Math.Nat.{mul-add-div_right, mul-add-mod_self_right, div-eq_of_lt, mod-eq_of_lt, mul-lt-mul_of_pos_right, mul-le-mul_right, mul-pos, pow-le-pow_right}
use Rattle.std.proofs.Common.{◌≡◌, ◌≢◌, ◌+◌, ◌-◌, ◌*◌, ◌/◌, ◌%◌, ◌<◌, ◌≤◌, ◌^◌, ◌++◌, ◌⊎◌, [], ◌∷◌, List, ℕ, zero, suc, length, get_or, refl, sym, ap, ◌∙◌, arith, subst, inl, inr}
use Rattle.std.proofs.lemmas.Bool.{cases_eq, cases_lt}
use Rattle.std.proofs.lemmas.Nat.{pow-add}
use Rattle.std.proofs.lemmas.Fmt.{decimal_is_IsNumeral_wide}
use Rattle.std.proofs.lemmas.Int.Digits.{digits_value-lt}
use Rattle.std.proofs.lemmas.Str.{digit_value_digit}
use Rattle.std.proofs.lemmas.Str.Parse.{digit_from_value}
use Rattle.std.specs.Char.{digit_value}
use Rattle.std.specs.Fmt.{decimal}
use Rattle.std.specs.Str.Parse.{AllDigits, digits_value}
use Rattle.rc_fixed.specs.Decimal.{digits_behind, decimal_text, decimal_value, worth_behind, IsPlainDecimal, IsWholePart, IsFraction}
use Rattle.rc_fixed.specs.Decimal.IsPlainDecimal.{whole, pointed}
use Rattle.rc_fixed.proofs.Behind.{pow_ten-pos, digits_behind-zero, digits_behind-suc}
use Rattle.rc_fixed.proofs.Reading.{digits_value-cons, weigh, reads_whole, reads_pointed, whole_part, text_whole, text_pointed}

-- a multiple and what is less than the factor come apart again
pub record ComesApart (d p r : ℕ) : Type 0 where
  pub front : (d * p + r) / p ≡ d
  pub back : (d * p + r) % p ≡ r

pub comes_apart : (d p r : ℕ) → r < p → ComesApart d p r
comes_apart d p r small =
    let positive : 0 < p = omega arith in
    record {
      front = mul-add-div_right positive d r ∙ (ap (λ n. d + n) (div-eq_of_lt small) ∙ omega arith);
      back = mul-add-mod_self_right d p r ∙ mod-eq_of_lt small;
    }

-- a digit is written by its value
glyph : (c : ℕ) → digit_value c < 10 → 48 + digit_value c ≡ c
glyph c small =
    let is : digit_value c + 48 ≡ c = digit_value_digit c (digit_from_value c small) in
    omega arith

-- the last of the digits, if there is one, isn't 0
record EndsIn (ds : List ℕ) : Type 0 where
  last : (k : ℕ) → suc k ≡ length ds → get_or ds k 0 ≢ 48

ends_in-rest : (c : ℕ) (cs : List ℕ) → EndsIn (c ∷ cs) → EndsIn cs
ends_in-rest c cs ends = record { last = λ k is. ends.last (suc k) (ap suc is) }

-- so they are worth something
digits_value-pos : (c : ℕ) (cs : List ℕ) → AllDigits 10 (c ∷ cs) → EndsIn (c ∷ cs) → 0 < digits_value 10 (c ∷ cs)
digits_value-pos c [] all ends =
    let last : c ≢ 48 = ends.last 0 refl in
    let same : 48 + digit_value c ≡ c = glyph c all.0 in
    omega arith
digits_value-pos c (e ∷ es) all ends = omega (arith, digits_value-cons c (e ∷ es), digits_value-pos e es all.1 (ends_in-rest c (e ∷ es) ends))

-- digits behind a point are written for what they are worth
digits_behind-worth : (places k : ℕ) (ds : List ℕ) → AllDigits 10 ds → length ds + k ≡ places → EndsIn ds → digits_behind places (digits_value 10 ds * 10 ^ k) ≡ ds
digits_behind-worth places k [] all is ends =
    let none : digits_value 10 [] * 10 ^ k ≡ 0 = omega arith in
    ap (digits_behind places) none ∙ digits_behind-zero places
digits_behind-worth zero k (c ∷ cs) all is ends = absurd (omega arith)
digits_behind-worth (suc fewer) k (c ∷ cs) all is ends =
    let left : length cs + k ≡ fewer = omega arith in
    let d : ℕ = digit_value c in
    let v : ℕ = digits_value 10 cs in
    let scale : 10 ^ length cs * 10 ^ k ≡ 10 ^ fewer = sym (pow-add 10 (length cs) k) ∙ ap (λ n. 10 ^ n) left in
    let value : digits_value 10 (c ∷ cs) * 10 ^ k ≡ d * 10 ^ fewer + v * 10 ^ k = ap (λ n. n * 10 ^ k) (digits_value-cons c cs) ∙ (weigh d (10 ^ length cs) (10 ^ k) v ∙ ap (λ n. d * n + v * 10 ^ k) scale) in
    let less : v * 10 ^ k < 10 ^ fewer = subst (λ n. v * 10 ^ k < n) scale (mul-lt-mul_of_pos_right (digits_value-lt 10 cs all.1) (pow_ten-pos k)) in
    let parts = comes_apart d (10 ^ fewer) (v * 10 ^ k) less in
    let more : 0 < digits_value 10 (c ∷ cs) * 10 ^ k = mul-pos (digits_value-pos c cs all ends) (pow_ten-pos k) in
    let some : d * 10 ^ fewer + v * 10 ^ k ≢ 0 = λ none. absurd (omega arith) in
    ap (digits_behind (suc fewer)) value ∙ (digits_behind-suc fewer (d * 10 ^ fewer + v * 10 ^ k) some
    ∙ (ap (λ n. (48 + n) ∷ digits_behind fewer ((d * 10 ^ fewer + v * 10 ^ k) % 10 ^ fewer)) parts.front
    ∙ (ap (λ n. (48 + d) ∷ digits_behind fewer n) parts.back
    ∙ (ap (λ n. n ∷ digits_behind fewer (v * 10 ^ k)) (glyph c all.0)
    ∙ ap (λ ds. c ∷ ds) (digits_behind-worth fewer k cs all.1 left (ends_in-rest c cs ends))))))

-- as many digits of one value are the same digits
same_digits : (xs ys : List ℕ) → AllDigits 10 xs → AllDigits 10 ys → length xs ≡ length ys → digits_value 10 xs ≡ digits_value 10 ys → xs ≡ ys
same_digits [] [] all_x all_y long same = refl
same_digits [] (y ∷ ys) all_x all_y long same = absurd (omega arith)
same_digits (x ∷ xs) [] all_x all_y long same = absurd (omega arith)
same_digits (x ∷ xs) (y ∷ ys) all_x all_y long same =
    let behind : length xs ≡ length ys = omega arith in
    let p : ℕ = 10 ^ length xs in
    let in_y : digits_value 10 (y ∷ ys) ≡ digit_value y * p + digits_value 10 ys = digits_value-cons y ys ∙ ap (λ n. digit_value y * 10 ^ n + digits_value 10 ys) (sym behind) in
    let sums : digit_value x * p + digits_value 10 xs ≡ digit_value y * p + digits_value 10 ys = sym (digits_value-cons x xs) ∙ (same ∙ in_y) in
    let split_x = comes_apart (digit_value x) p (digits_value 10 xs) (digits_value-lt 10 xs all_x.1) in
    let split_y = comes_apart (digit_value y) p (digits_value 10 ys) (subst (λ n. digits_value 10 ys < 10 ^ n) (sym behind) (digits_value-lt 10 ys all_y.1)) in
    let first : digit_value x ≡ digit_value y = sym split_x.front ∙ (ap (λ n. n / p) sums ∙ split_y.front) in
    let rest : digits_value 10 xs ≡ digits_value 10 ys = sym split_x.back ∙ (ap (λ n. n % p) sums ∙ split_y.back) in
    let alike : x ≡ y = sym (glyph x all_x.0) ∙ (ap (λ n. 48 + n) first ∙ glyph y all_y.0) in
    ap (λ c. c ∷ xs) alike ∙ ap (λ cs. y ∷ cs) (same_digits xs ys all_x.1 all_y.1 behind rest)

-- digits before a point are one, or no power of ten that is shorter reaches their value
reaches : (c : ℕ) (cs : List ℕ) → IsWholePart (c ∷ cs) → (length cs ≡ 0) ⊎ (10 ^ length cs ≤ digits_value 10 (c ∷ cs))
reaches c cs front =
    elim (cases_eq (digit_value c) 0) [
      | inl none ↦
          let alone : length (c ∷ cs) ≡ 1 = front.shortest (sym (glyph c front.numeral.1.0) ∙ ap (λ n. 48 + n) none) in
          inl (omega arith)
      | inr some ↦
          let once : 1 * 10 ^ length cs ≤ digit_value c * 10 ^ length cs = mul-le-mul_right (10 ^ length cs) (omega arith) in
          inr (omega (arith, digits_value-cons c cs))
    ]

-- they are no more than any digits of their value
length-whole-le : (xs ys : List ℕ) → IsWholePart xs → AllDigits 10 ys → 0 < length ys → digits_value 10 xs ≡ digits_value 10 ys → length xs ≤ length ys
length-whole-le [] ys front all some same = omega arith
length-whole-le (x ∷ xs) ys front all some same =
    elim (reaches x xs front) [
      | inl one ↦ omega arith
      | inr reached ↦
          elim (cases_lt (length xs) (length ys)) [
            | inl short ↦ omega arith
            | inr long ↦
                let least : 10 ^ length ys ≤ 10 ^ length xs = pow-le-pow_right {n = 10} (omega arith) {i = length ys} {j = length xs} long in
                absurd (omega (arith, digits_value-lt 10 ys all))
          ]
    ]

-- digits before a point are written for what they are worth
decimal-worth : (ds : List ℕ) → IsWholePart ds → digits_value 10 ds < 10 ^ 64 → decimal (digits_value 10 ds) ≡ ds
decimal-worth ds front small =
    let n : ℕ = digits_value 10 ds in
    let written = whole_part n small in
    let same : digits_value 10 (decimal n) ≡ n = (decimal_is_IsNumeral_wide n small).1 in
    same_digits (decimal n) ds written.numeral.1 front.numeral.1
    (omega (arith, length-whole-le (decimal n) ds written front.numeral.1 front.numeral.0 same, length-whole-le ds (decimal n) front written.numeral.1 written.numeral.0 (sym same)))
    same

whole_back : (ds : List ℕ) → IsWholePart ds → decimal_value ds < 2 ^ 128 → decimal_text (decimal_value ds) ≡ ds
whole_back ds front small =
    let n : ℕ = digits_value 10 ds in
    let value : decimal_value ds ≡ n * 10 ^ 15 = reads_whole ds front.numeral.1 in
    let none : decimal_value ds % 10 ^ 15 ≡ 0 = omega arith in
    let some : decimal_value ds / 10 ^ 15 ≡ n = omega arith in
    text_whole (decimal_value ds) none ∙ (ap decimal some ∙ decimal-worth ds front (omega arith))

pointed_back : (ds behind : List ℕ) → IsWholePart ds → IsFraction behind → decimal_value (ds ++ 46 ∷ behind) < 2 ^ 128 → decimal_text (decimal_value (ds ++ 46 ∷ behind)) ≡ ds ++ 46 ∷ behind
pointed_back ds behind front back small =
    let n : ℕ = digits_value 10 ds in
    let w : ℕ = worth_behind behind in
    let v : ℕ = decimal_value (ds ++ 46 ∷ behind) in
    let k : ℕ = 15 - length behind in
    let left : length behind + k ≡ 15 = omega (arith, back.fits) in
    let value : v ≡ n * 10 ^ 15 + w = reads_pointed ds behind front.numeral.1 in
    let scale : 10 ^ length behind * 10 ^ k ≡ 10 ^ 15 = sym (pow-add 10 (length behind) k) ∙ ap (λ m. 10 ^ m) left in
    let less : w < 10 ^ 15 = subst (λ m. w < m) scale (mul-lt-mul_of_pos_right (digits_value-lt 10 behind back.numeral.1) (pow_ten-pos k)) in
    let ends : EndsIn behind = record { last = λ i is. let place : length behind - 1 ≡ i = omega arith in subst (λ m. get_or behind m 0 ≢ 48) place back.shortest } in
    let written : digits_behind 15 w ≡ behind = digits_behind-worth 15 k behind back.numeral.1 left ends in
    let whole_is : v / 10 ^ 15 ≡ n = omega arith in
    let rest_is : v % 10 ^ 15 ≡ w = omega arith in
    let some : v % 10 ^ 15 ≢ 0 = λ none. absurd (omega (arith, back.numeral.0, ap length (sym written ∙ (ap (digits_behind 15) (sym rest_is ∙ none) ∙ digits_behind-zero 15)))) in
    text_pointed v some
    ∙ (ap (λ m. decimal m ++ 46 ∷ digits_behind 15 (v % 10 ^ 15)) whole_is
    ∙ (ap (λ m. decimal n ++ 46 ∷ digits_behind 15 m) rest_is
    ∙ (ap (λ ds'. decimal n ++ 46 ∷ ds') written
    ∙ ap (λ ds'. ds' ++ 46 ∷ behind) (decimal-worth ds front (omega arith)))))

-- a plain decimal is what is written for its value
pub writes_back : (text : List ℕ) → IsPlainDecimal text → decimal_value text < 2 ^ 128 → decimal_text (decimal_value text) ≡ text
writes_back text (whole {digits} front) small = whole_back digits front small
writes_back text (pointed {digits} {behind} front back) small = pointed_back digits behind front back small
