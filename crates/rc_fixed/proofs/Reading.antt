-- What a written decimal reads as, and what its form is.
use Rattle.std.proofs.Math.Nat.{pow-suc, mod-lt, div-add-mod, div-lt_iff_lt-mul, mul_comm}
use Rattle.std.proofs.Common.{◌≡◌, ◌≢◌, ◌+◌, ◌-◌, ◌*◌, ◌/◌, ◌%◌, ◌<◌, ◌≤◌, ◌^◌, ◌++◌, [], ◌∷◌, List, ℕ, zero, suc, take, drop, length, get_or, false, refl, sym, ap, ◌∙◌, append-nil, arith, subst, inl, inr, length-append}
use Rattle.std.proofs.Math.Seq.{drop-append-add}
use Rattle.std.proofs.lemmas.Bool.{ne_eqb, cases_eq}
use Rattle.std.proofs.lemmas.List.{take_at, take_all, drop_all, get_or_at, get_or_append_left}
use Rattle.std.proofs.lemmas.List.Sums.{position_or_len_is}
use Rattle.std.proofs.lemmas.Nat.{pow-add}
use Rattle.std.proofs.lemmas.Fmt.{decimal_is_IsNumeral_wide, decimal_by_steps_wide, length-decimal-le_wide}
use Rattle.std.proofs.lemmas.Str.{digit_value_digit}
use Rattle.std.proofs.lemmas.Str.Parse.{digit_at}
use Rattle.std.specs.Char.{digit_value}
use Rattle.std.specs.Fmt.{decimal}
use Rattle.std.specs.Int.{IsInRange}
use Rattle.std.specs.List.{before_first, after_first, position_or_len}
use Rattle.std.specs.Str.Parse.{AllDigits, digits_value, digits_value_after}
use Rattle.rc_fixed.specs.Decimal.{digits_behind, fraction_text, decimal_text, decimal_value, worth_behind, is_point, IsWholePart}
use Rattle.rc_fixed.specs.Laws.{TellsApart, IsPlain}
use Rattle.rc_fixed.specs.Decimal.IsPlainDecimal.{whole, pointed}
use Rattle.rc_fixed.proofs.Behind.{fraction_text-pointed, pow_ten-pos, digits_behind-zero, digits_behind-suc}

-- the digit of a number below ten has its value
digit_value-written : (d : ℕ) → d < 10 → digit_value (48 + d) ≡ d
digit_value-written d small =
    let is : digit_value (48 + d) + 48 ≡ 48 + d = digit_value_digit (48 + d) (omega arith, omega arith) in
    omega arith

-- a digit among the places behind it
spread : (n v p : ℕ) → (n * 10 + v) * p ≡ n * (p * 10) + v * p
spread n v p = grind arith

pub digits_value_after-is : (n : ℕ) (ds : List ℕ) → digits_value_after 10 n ds ≡ n * 10 ^ length ds + digits_value 10 ds
digits_value_after-is n [] = omega arith
digits_value_after-is n (c ∷ cs) =
    let whole = digits_value_after-is (n * 10 + digit_value c) cs in
    let last = digits_value_after-is (0 + digit_value c) cs in
    let none : 0 + digit_value c ≡ digit_value c = omega arith in
    let scale : n * 10 ^ suc (length cs) ≡ n * (10 ^ length cs * 10) = ap (λ m. n * m) (pow-suc 10 (length cs)) in
    let split = spread n (digit_value c) (10 ^ length cs) in
    let same : (0 + digit_value c) * 10 ^ length cs ≡ digit_value c * 10 ^ length cs = ap (λ m. m * 10 ^ length cs) none in
    omega arith

-- the first digit has the weight of its place
pub digits_value-cons : (c : ℕ) (cs : List ℕ) → digits_value 10 (c ∷ cs) ≡ digit_value c * 10 ^ length cs + digits_value 10 cs
digits_value-cons c cs =
    let none : 0 + digit_value c ≡ digit_value c = omega arith in
    digits_value_after-is (0 + digit_value c) cs ∙ ap (λ m. m * 10 ^ length cs + digits_value 10 cs) none

-- the first of the digits, and the number that is left behind it
pub record SplitsFirst (places rest : ℕ) : Type 0 where
  pub digit : rest / 10 ^ places < 10
  pub less : rest % 10 ^ places < 10 ^ places
  pub parts : rest / 10 ^ places * 10 ^ places + rest % 10 ^ places ≡ rest

splits_first : (places rest : ℕ) → rest < 10 ^ suc places → SplitsFirst places rest
splits_first places rest small =
    let bound : rest < 10 * 10 ^ places = subst (λ n. rest < n) (pow-suc 10 places ∙ mul_comm (10 ^ places) 10) small in
    record {
      digit = (div-lt_iff_lt-mul {k = 10 ^ places} {x = rest} {y = 10} (pow_ten-pos places)).1 bound;
      less = mod-lt rest (pow_ten-pos places);
      parts = ap (λ n. n + rest % 10 ^ places) (mul_comm (rest / 10 ^ places) (10 ^ places)) ∙ div-add-mod rest (10 ^ places);
    }

-- what is known of the digits behind a point
record WritesRest (places rest : ℕ) (digits : List ℕ) : Type 0 where
  all : AllDigits 10 digits
  short : length digits ≤ places
  worth : (k : ℕ) → length digits + k ≡ places → digits_value 10 digits * 10 ^ k ≡ rest
  none : rest ≡ 0 → digits ≡ []
  some : rest ≢ 0 → 0 < length digits
  last : rest ≢ 0 → (k : ℕ) → suc k ≡ length digits → get_or digits k 0 ≢ 48

writes_none : (places : ℕ) → WritesRest places 0 []
writes_none places = record {
  all = tt;
  short = omega arith;
  worth = λ k _. omega arith;
  none = λ _. refl;
  some = λ some. absurd (some refl);
  last = λ some. absurd (some refl);
}

-- the last of the digits is the first one, or the last of those behind it
last_digit : (d left : ℕ) (digits : List ℕ) → (left ≡ 0 → digits ≡ []) → (left ≢ 0 → 0 < length digits) → (left ≢ 0 → (k : ℕ) → suc k ≡ length digits → get_or digits k 0 ≢ 48) → (left ≡ 0 → d ≢ 0) → (k : ℕ) → suc k ≡ suc (length digits) → get_or ((48 + d) ∷ digits) k 0 ≢ 48
last_digit d left digits none some last big zero is =
    elim (cases_eq left 0) [ inl ended ↦ λ e. big ended (omega arith) | inr more ↦ absurd (omega (arith, some more)) ]
last_digit d left digits none some last big (suc k) is =
    elim (cases_eq left 0) [ inl ended ↦ absurd (omega (arith, ap length (none ended))) | inr more ↦ last more k (omega arith) ]

-- a number that is multiplied out by places
pub weigh : (d x y v : ℕ) → (d * x + v) * y ≡ d * (x * y) + v * y
weigh d x y v = grind arith

writes_more : (places rest : ℕ) (digits : List ℕ) → rest ≢ 0 → SplitsFirst places rest → WritesRest places (rest % 10 ^ places) digits → WritesRest (suc places) rest ((48 + rest / 10 ^ places) ∷ digits)
writes_more places rest digits some first behind =
    let d : ℕ = rest / 10 ^ places in
    let written : digit_value (48 + d) ≡ d = digit_value-written d first.digit in
    record {
      all = (omega arith, behind.all);
      short = omega arith;
      worth = λ k is.
          let left : length digits + k ≡ places = omega arith in
          let value : digits_value 10 ((48 + d) ∷ digits) ≡ d * 10 ^ length digits + digits_value 10 digits = digits_value-cons (48 + d) digits ∙ ap (λ n. n * 10 ^ length digits + digits_value 10 digits) written in
          let scale : 10 ^ length digits * 10 ^ k ≡ 10 ^ places = sym (pow-add 10 (length digits) k) ∙ ap (λ n. 10 ^ n) left in
          ap (λ n. n * 10 ^ k) value ∙ (weigh d (10 ^ length digits) (10 ^ k) (digits_value 10 digits) ∙ (ap (λ n. d * n + digits_value 10 digits * 10 ^ k) scale ∙ (ap (λ n. d * 10 ^ places + n) (behind.worth k left) ∙ first.parts)));
      none = λ none. absurd (some none);
      some = λ _. omega arith;
      last = λ _. last_digit d (rest % 10 ^ places) digits behind.none behind.some behind.last (λ ended none. some (sym first.parts ∙ (ap (λ n. n * 10 ^ places + rest % 10 ^ places) none ∙ omega arith)));
    }

writes_zero : (places : ℕ) → WritesRest places 0 (digits_behind places 0)
writes_zero places = subst (λ ds. WritesRest places 0 ds) (sym (digits_behind-zero places)) (writes_none places)

writes_rest : (places rest : ℕ) → rest < 10 ^ places → WritesRest places rest (digits_behind places rest)
writes_rest zero rest small =
    let none : 0 ≡ rest = omega arith in
    subst (λ r. WritesRest 0 r (digits_behind 0 r)) none (writes_zero 0)
writes_rest (suc places) rest small =
    let first = splits_first places rest small in
    elim (cases_eq rest 0) [
      | inl none ↦ subst (λ r. WritesRest (suc places) r (digits_behind (suc places) r)) (sym none) (writes_zero (suc places))
      | inr some ↦ subst (λ ds. WritesRest (suc places) rest ds) (sym (digits_behind-suc places rest some)) (writes_more places rest (digits_behind places (rest % 10 ^ places)) some first (writes_rest places (rest % 10 ^ places) first.less))
    ]

-- no digit is the point
no_point : (ds : List ℕ) → AllDigits 10 ds → (k : ℕ) → k < length ds → is_point (get_or ds k 0) ≡ false
no_point ds all k within =
    let digit : IsInRange 48 57 (get_or ds k 0) = digit_at ds k all within in
    ne_eqb (get_or ds k 0) 46 (λ e. omega arith)

-- what a text is worth, where its point stands at that place
worth_at : List ℕ → ℕ → ℕ
worth_at text place = digits_value 10 (take place text) * 10 ^ 15 + worth_behind (drop (place + 1) text)

worth_of : (text before behind : List ℕ) (place : ℕ) → position_or_len is_point text ≡ place → take place text ≡ before → drop (place + 1) text ≡ behind → decimal_value text ≡ digits_value 10 before * 10 ^ 15 + worth_behind behind
unfolding worth_at
worth_of text before behind place at front back =
    ap (worth_at text) at ∙ (ap (λ ds. digits_value 10 ds * 10 ^ 15 + worth_behind (drop (place + 1) text)) front ∙ ap (λ ds. digits_value 10 before * 10 ^ 15 + worth_behind ds) back)

-- digits alone have no point
at_whole : (ds : List ℕ) → AllDigits 10 ds → position_or_len is_point ds ≡ length ds
at_whole ds all = position_or_len_is is_point ds (length ds) 0 (omega arith) (no_point ds all) (λ past. absurd (omega arith))

pub front_whole : (ds : List ℕ) → AllDigits 10 ds → before_first is_point ds ≡ ds
front_whole ds all = ap (λ n. take n ds) (at_whole ds all) ∙ take_all (length ds) ds (omega arith)

pub back_whole : (ds : List ℕ) → AllDigits 10 ds → after_first is_point ds ≡ []
back_whole ds all = ap (λ n. drop (n + 1) ds) (at_whole ds all) ∙ drop_all (length ds + 1) ds (omega arith)

-- the point behind digits
at_pointed : (ds behind : List ℕ) → AllDigits 10 ds → position_or_len is_point (ds ++ 46 ∷ behind) ≡ length ds
at_pointed ds behind all = position_or_len_is is_point (ds ++ 46 ∷ behind) (length ds) 0 (omega (arith, length-append ds (46 ∷ behind))) (λ k below. ap is_point (get_or_append_left ds (46 ∷ behind) 0 k below) ∙ no_point ds all k below) (λ _. ap is_point (get_or_at ds 46 behind 0 (length ds) refl))

pub front_pointed : (ds behind : List ℕ) → AllDigits 10 ds → before_first is_point (ds ++ 46 ∷ behind) ≡ ds
front_pointed ds behind all = ap (λ n. take n (ds ++ 46 ∷ behind)) (at_pointed ds behind all) ∙ take_at ds (46 ∷ behind) (length ds) refl

pub back_pointed : (ds behind : List ℕ) → AllDigits 10 ds → after_first is_point (ds ++ 46 ∷ behind) ≡ behind
back_pointed ds behind all = ap (λ n. drop (n + 1) (ds ++ 46 ∷ behind)) (at_pointed ds behind all) ∙ drop-append-add ds (46 ∷ behind) 1

-- digits alone are all before the point
pub reads_whole : (ds : List ℕ) → AllDigits 10 ds → decimal_value ds ≡ digits_value 10 ds * 10 ^ 15
reads_whole ds all = worth_of ds ds [] (length ds) (at_whole ds all) (take_all (length ds) ds (omega arith)) (drop_all (length ds + 1) ds (omega arith)) ∙ omega arith

-- the digits before the point, and those behind it
pub reads_pointed : (ds behind : List ℕ) → AllDigits 10 ds → decimal_value (ds ++ 46 ∷ behind) ≡ digits_value 10 ds * 10 ^ 15 + worth_behind behind
reads_pointed ds behind all = worth_of (ds ++ 46 ∷ behind) ds behind (length ds) (at_pointed ds behind all) (take_at ds (46 ∷ behind) (length ds) refl) (drop-append-add ds (46 ∷ behind) 1)

-- no number but 0 begins with a 0
record Starts (n : ℕ) (ds : List ℕ) : Type 0 where
  some : 0 < length ds
  first : 0 < n → 48 < get_or ds 0 0
  zero : n ≡ 0 → length ds ≡ 1

starts_more : (n : ℕ) (ds : List ℕ) → 10 ≤ n → Starts (n / 10) ds → Starts n (ds ++ (48 + n % 10) ∷ [])
starts_more n ds ten front =
    let first : 48 < get_or ds 0 0 = front.first (omega arith) in
    record {
      some = omega (arith, length-append ds ((48 + n % 10) ∷ []));
      first = λ _. subst (λ c. 48 < c) (sym (get_or_append_left ds ((48 + n % 10) ∷ []) 0 0 front.some)) first;
      zero = λ none. absurd (omega arith);
    }

starts : (n : ℕ) → n < 10 ^ 64 → Starts n (decimal n)
starts = decimal_by_steps_wide Starts (λ n small. record { some = omega arith; first = λ more. omega arith; zero = λ _. refl }) starts_more

pub whole_part : (n : ℕ) → n < 10 ^ 64 → IsWholePart (decimal n)
whole_part n small =
    let start = starts n small in
    record {
      numeral = (decimal_is_IsNumeral_wide n small).0;
      shortest = λ e. elim (cases_eq n 0) [ inl none ↦ start.zero none | inr some ↦ absurd (omega (arith, start.first (omega arith))) ];
    }

-- a number of 128 bits has at most 24 digits before the point
whole_part-lt : (value : ℕ) → value < 2 ^ 128 → value / 10 ^ 15 < 10 ^ 24
whole_part-lt value small = (div-lt_iff_lt-mul {k = 10 ^ 15} {x = value} {y = 10 ^ 24} (omega arith)).1 (omega arith)

-- a whole number has no point
pub text_whole : (value : ℕ) → value % 10 ^ 15 ≡ 0 → decimal_text value ≡ decimal (value / 10 ^ 15)
text_whole value none = ap (λ rest. decimal (value / 10 ^ 15) ++ fraction_text rest) none ∙ append-nil (decimal (value / 10 ^ 15))

-- any other has one
pub text_pointed : (value : ℕ) → value % 10 ^ 15 ≢ 0 → decimal_text value ≡ decimal (value / 10 ^ 15) ++ 46 ∷ digits_behind 15 (value % 10 ^ 15)
text_pointed value some = ap (λ ds. decimal (value / 10 ^ 15) ++ ds) (fraction_text-pointed (value % 10 ^ 15) some)

-- what is written has the number for its value
pub reads_back : (value : ℕ) → value < 2 ^ 128 → decimal_value (decimal_text value) ≡ value
reads_back value small =
    let low : value / 10 ^ 15 < 10 ^ 24 = whole_part-lt value small in
    let whole = decimal_is_IsNumeral_wide (value / 10 ^ 15) (omega arith) in
    let behind = writes_rest 15 (value % 10 ^ 15) (omega arith) in
    elim (cases_eq (value % 10 ^ 15) 0) [
      | inl none ↦ ap decimal_value (text_whole value none) ∙ (reads_whole (decimal (value / 10 ^ 15)) whole.0.1 ∙ (ap (λ n. n * 10 ^ 15) whole.1 ∙ omega arith))
      | inr some ↦
          ap decimal_value (text_pointed value some) ∙ (reads_pointed (decimal (value / 10 ^ 15)) (digits_behind 15 (value % 10 ^ 15)) whole.0.1 ∙ (ap (λ n. n * 10 ^ 15 + worth_behind (digits_behind 15 (value % 10 ^ 15))) whole.1 ∙ (ap (λ n. value / 10 ^ 15 * 10 ^ 15 + n) (behind.worth (15 - length (digits_behind 15 (value % 10 ^ 15))) (omega arith)) ∙ omega arith)))
    ]

pub tells_apart : TellsApart
tells_apart a b small_a small_b same = sym (reads_back a small_a) ∙ (ap decimal_value same ∙ reads_back b small_b)

pub is_plain : IsPlain
is_plain value small =
    let low : value / 10 ^ 15 < 10 ^ 24 = whole_part-lt value small in
    let front = whole_part (value / 10 ^ 15) (omega arith) in
    let room : length (decimal (value / 10 ^ 15)) ≤ 24 = length-decimal-le_wide 24 (value / 10 ^ 15) (omega arith) low (omega arith) in
    let behind = writes_rest 15 (value % 10 ^ 15) (omega arith) in
    elim (cases_eq (value % 10 ^ 15) 0) [
      | inl none ↦ rw (text_whole value none) (whole front, omega arith)
      | inr some ↦ rw (text_pointed value some) (
        pointed front record {
          numeral = (behind.some some, behind.all);
          fits = behind.short;
          shortest = behind.last some (length (digits_behind 15 (value % 10 ^ 15)) - 1) (omega (arith, behind.some some));
        },
        omega (arith, length-append (decimal (value / 10 ^ 15)) (46 ∷ digits_behind 15 (value % 10 ^ 15))),
      )
    ]
