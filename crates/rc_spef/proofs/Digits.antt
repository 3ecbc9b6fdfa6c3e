-- Digits, and the parts of references.
use Rattle.std.proofs.Common.{◌≡◌, ◌≢◌, ℕ, suc, ◌+◌, ◌-◌, ◌*◌, ◌/◌, ◌^◌, ◌<◌, ◌≤◌, Bool, true, false, List, [], ◌∷◌, ◌++◌, length, get_or, take, drop, refl, sym, ap, ◌∙◌, subst, arith, map, Some, None, Ok, Err, inl, inr}
use Rattle.std.specs.Prelude.{◌⊎◌, ◌==◌, ◌&&◌, not, nat_lt, position, slice_index}
use Rattle.std.specs.Fmt.{decimal}
use Rattle.std.specs.Char.{digit_value}
use Rattle.std.specs.List.{AllByRecursion, list_any, before_first, after_first, position_or_len, range_with_len}
use Rattle.std.specs.Int.{IsInRange}
use Rattle.std.specs.Str.{all_ascii_digits}
use Rattle.std.specs.Str.Parse.{digits_value}
use Rattle.std.proofs.lemmas.Bool.{cases_eq, ne_eqb, eq-eqb, eqb-false}
use Rattle.std.proofs.lemmas.Bool.Decides.{nat_tests, Decides-eqb, same_from_decides}
use Rattle.std.proofs.lemmas.Fmt.{decimal_is_IsNumeral}
use Rattle.std.proofs.lemmas.List.{map-id, map-append, take_rest, length-append, take_all, take_at, get_or_at, get_or_append_left}
use Rattle.std.proofs.lemmas.List.Folds.{list_any-append}
use Rattle.std.proofs.lemmas.List.FromFn.{map-range_with_len_more, length-range_with_len, get_or-range_with_len}
use Rattle.std.proofs.lemmas.List.Sums.{position_or_len_is}
use Rattle.std.proofs.lemmas.Str.Parse.{IsNumeralModel, numerals_by_value, tells_all_ascii_digits, digit_at}
use Rattle.std.proofs.Math.Seq.{drop-append-add}
use Rattle.std.proofs.lemmas.Int.Digits.{digits_value-lt}
use Rattle.std.proofs.lemmas.Str.{digit_value_digit}
use Rattle.rc_fixed.proofs.Reading.{digits_value-cons}
use Rattle.rc_keys.specs.declared.code.Code.TheVariants.{E03}
use Rattle.std.specs.Bool.{Decides}
use Rattle.std.specs.Str.{bytes_eq}
use Rattle.std.proofs.lemmas.Slice.Eq.{bytes_eq-Decides}
use Rattle.std.proofs.lemmas.Nat.{div-mul-add}
use Rattle.std.proofs.Math.Nat.{pow-le-pow_right, mul-le-mul_right}
use Rattle.rc_keys.proofs.Naming.{position-map}
use Rattle.rc_spef.specs.declared.name_map.Number.{Number}
use Rattle.rc_spef.specs.Means.{IsShortest, value_of_number}
use Rattle.rc_spef.specs.declared.value.Sub.{Sub}
use Rattle.rc_spef.specs.declared.value.Sub.TheVariants as sub
use Rattle.rc_spef.specs.References.{is_plain, is_colon, sub_of, behind_of}

-- ---- tests of two truths

pub and_both : (a b : Bool) → (a && b) ≡ true → (a ≡ true) × (b ≡ true)
and_both true b both = (refl, both)
and_both false b both = absurd cc

pub and_is : (a b : Bool) → a ≡ true → b ≡ true → (a && b) ≡ true
and_is a b first second = rw (first, second) refl

pub not_true : (b : Bool) → not b ≡ true → b ≡ false
not_true true is = absurd cc
not_true false is = refl

-- the same in other words
told : {P Q : Type 0} (b : Bool) → Decides b P → (P → Q) → (Q → P) → Decides b Q
told b decides to from = (λ is. to (decides.0 is), λ q. decides.1 (from q))

-- ---- lists parted at a mark

pub record IsFree {X : Type 0} (p : X → Bool) (xs : List X) (d : X) : Type 0 where
  pub none : (k : ℕ) → k < length xs → p (get_or xs k d) ≡ false

pub place_whole : (p : ℕ → Bool) (xs : List ℕ) → IsFree p xs 0 → position_or_len p xs ≡ length xs
place_whole p xs free = position_or_len_is p xs (length xs) 0 (omega arith) free.none (λ past. absurd (omega arith))

place_marked : (p : ℕ → Bool) (xs : List ℕ) (m : ℕ) (ys : List ℕ) → IsFree p xs 0 → p m ≡ true → position_or_len p (xs ++ m ∷ ys) ≡ length xs
place_marked p xs m ys free marks =
    position_or_len_is p (xs ++ m ∷ ys) (length xs) 0 (omega (arith, length-append xs (m ∷ ys)))
    (λ k below. ap p (get_or_append_left xs (m ∷ ys) 0 k below) ∙ free.none k below)
    (λ _. ap p (get_or_at xs m ys 0 (length xs) refl) ∙ marks)

pub before_whole : (p : ℕ → Bool) (xs : List ℕ) → IsFree p xs 0 → before_first p xs ≡ xs
before_whole p xs free = ap (λ k. take k xs) (place_whole p xs free) ∙ take_all (length xs) xs (omega arith)

pub before_marked : (p : ℕ → Bool) (xs : List ℕ) (m : ℕ) (ys : List ℕ) → IsFree p xs 0 → p m ≡ true → before_first p (xs ++ m ∷ ys) ≡ xs
before_marked p xs m ys free marks = ap (λ k. take k (xs ++ m ∷ ys)) (place_marked p xs m ys free marks) ∙ take_at xs (m ∷ ys) (length xs) refl

pub after_marked : (p : ℕ → Bool) (xs : List ℕ) (m : ℕ) (ys : List ℕ) → IsFree p xs 0 → p m ≡ true → after_first p (xs ++ m ∷ ys) ≡ ys
after_marked p xs m ys free marks = ap (λ k. drop (k + 1) (xs ++ m ∷ ys)) (place_marked p xs m ys free marks) ∙ drop-append-add xs (m ∷ ys) 1

free_rest : (p : ℕ → Bool) (x : ℕ) (xs : List ℕ) → IsFree p (x ∷ xs) 0 → IsFree p xs 0
free_rest p x xs free = record { none = λ k below. free.none (suc k) (omega arith) }

pub any_whole : (p : ℕ → Bool) (xs : List ℕ) → IsFree p xs 0 → list_any p xs ≡ false
any_whole p [] free = refl
any_whole p (x ∷ xs) free = let first : p x ≡ false = free.none 0 (omega arith) in rw first (any_whole p xs (free_rest p x xs free))

pub any_marked : (p : ℕ → Bool) (xs : List ℕ) (m : ℕ) (ys : List ℕ) → IsFree p xs 0 → p m ≡ true → list_any p (xs ++ m ∷ ys) ≡ true
any_marked p xs m ys free marks = list_any-append p xs (m ∷ ys) ∙ rw (any_whole p xs free, marks) refl

-- ---- digits

pub own : IsNumeralModel (λ ds. all_ascii_digits ds ≡ true) (digits_value 10)
own = numerals_by_value _ tells_all_ascii_digits

-- one digit or more
pub record IsDigits (ds : List ℕ) : Type 0 where
  pub some : 0 < length ds
  pub all : all_ascii_digits ds ≡ true

pub plain_is : (ds : List ℕ) → IsDigits ds → is_plain ds ≡ true
plain_is ds is =
    let some : (length ds == 0) ≡ false = let n : ℕ = length ds in let more : 0 < n = is.some in grind (arith, nat_tests) in
    rw (some, is.all) refl

pub decimal_digits : (n : ℕ) → n < 2 ^ 64 → IsDigits (decimal n)
decimal_digits n small =
    let numeral = decimal_is_IsNumeral n small in
    record { some = numeral.0.0; all = own.from (decimal n) numeral.0.1 }

pub decimal_reads : (n : ℕ) → n < 2 ^ 64 → digits_value 10 (decimal n) ≡ n
decimal_reads n small = (decimal_is_IsNumeral n small).1

-- no digit is another byte
pub digits_free : (p : ℕ → Bool) (ds : List ℕ) → all_ascii_digits ds ≡ true → ((c : ℕ) → IsInRange 48 57 c → p c ≡ false) → IsFree p ds 0
digits_free p ds all other = record { none = λ k below. other (get_or ds k 0) (digit_at ds k (own.to ds all) below) }

pub not_colon : (c : ℕ) → IsInRange 48 57 c → is_colon c ≡ false
not_colon c digit = ne_eqb c 58 (λ e. omega arith)

pub first_digit : (d : ℕ) (ds : List ℕ) → all_ascii_digits (d ∷ ds) ≡ true → IsInRange 48 57 d
first_digit d ds all = digit_at (d ∷ ds) 0 (own.to (d ∷ ds) all) (omega arith)

-- ---- references

-- the numbers of a map of so many names, as it is written
abbrev pub numbers_to : ℕ → List ℕ
numbers_to count = range_with_len 1 count

pub position_at : (p : ℕ → Bool) (xs : List ℕ) (i : ℕ) → position_or_len p xs ≡ i → i < length xs → position p xs ≡ Some i
position_at p xs i is within =
    let less : nat_lt i (length xs) ≡ true = let n : ℕ = length xs in let lt : i < n = within in grind (arith, nat_tests) in
    rw (is, less) refl

pub place_counted : (count number : ℕ) → 1 ≤ number → number ≤ count → position (λ other. other == number) (numbers_to count) ≡ Some (number - 1)
place_counted count number some within =
    let len : length (numbers_to count) ≡ count = length-range_with_len 1 count in
    let place : position_or_len (λ other. other == number) (numbers_to count) ≡ number - 1 =
    position_or_len_is (λ other. other == number) (numbers_to count) (number - 1) 0 (omega arith)
    (λ k below. ne_eqb _ number (λ e. omega (arith, get_or-range_with_len 1 count k 0 (omega arith))))
    (λ _. eq-eqb _ number (get_or-range_with_len 1 count (number - 1) 0 (omega arith) ∙ omega arith)) in
    position_at (λ other. other == number) (numbers_to count) (number - 1) place (omega arith)

-- a number that stands nowhere
pub place_none : (numbers : List ℕ) (number : ℕ) → ((k : ℕ) → k < length numbers → get_or numbers k 0 ≢ number) → position (λ other. other == number) numbers ≡ None
place_none numbers number other =
    let place : position_or_len (λ n. n == number) numbers ≡ length numbers = place_whole (λ n. n == number) numbers record { none = λ k below. ne_eqb (get_or numbers k 0) number (other k below) } in
    let no : nat_lt (length numbers) (length numbers) ≡ false = let n : ℕ = length numbers in grind (arith, nat_tests) in
    rw (place, no) refl

pub past_counted : (count number : ℕ) → (number ≡ 0) ⊎ (count < number) → position (λ other. other == number) (numbers_to count) ≡ None
past_counted count number out = place_none (numbers_to count) number (λ k below. λ e. elim out [
  | inl none ↦ omega (arith, get_or-range_with_len 1 count k 0 (omega (arith, below, length-range_with_len 1 count)), e, none)
  | inr past ↦ omega (arith, get_or-range_with_len 1 count k 0 (omega (arith, below, length-range_with_len 1 count)), e, past, below, length-range_with_len 1 count)
])

-- ---- the parts of a reference

pub split_free : (p : ℕ → Bool) (xs : List ℕ) (i : ℕ) → ((k : ℕ) → k < i → p (get_or xs k 0) ≡ false) → length xs ≤ i → list_any p xs ≡ false
split_free p xs i none all = any_whole p xs record { none = λ k below. none k (omega arith) }

pub behind_none : (word : List ℕ) → list_any is_colon word ≡ false → behind_of word ≡ Ok sub.Bare
unfolding behind_of
behind_none word none = rw none refl

-- what the code takes for the part behind the colon
behind_part : (word : List ℕ) (at : ℕ) → at ≡ position_or_len is_colon word → take (length word - (at + 1)) (drop (at + 1) word) ≡ after_first is_colon word
behind_part word at is = take_rest word (at + 1) ∙ ap (λ n. drop (n + 1) word) is

pub behind_empty : (word : List ℕ) (at : ℕ) → at ≡ position_or_len is_colon word → list_any is_colon word ≡ true → (length (take (length word - (at + 1)) (drop (at + 1) word)) == 0) ≡ true → behind_of word ≡ Err E03
unfolding behind_of
behind_empty word at is some none =
    let empty : (length (after_first is_colon word) == 0) ≡ true = ap (λ (rest : List ℕ). length rest == 0) (sym (behind_part word at is)) ∙ none in
    rw (some, empty) refl

pub behind_more : (word : List ℕ) (at : ℕ) (behind : Sub) → at ≡ position_or_len is_colon word → list_any is_colon word ≡ true → (length (take (length word - (at + 1)) (drop (at + 1) word)) == 0) ≡ false →
    behind ≡ sub_of (take (length word - (at + 1)) (drop (at + 1) word)) → behind_of word ≡ Ok behind
unfolding behind_of
behind_more word at behind is some more means =
    let full : (length (after_first is_colon word) == 0) ≡ false = ap (λ (rest : List ℕ). length rest == 0) (sym (behind_part word at is)) ∙ more in
    rw (some, full) (ap (λ (rest : List ℕ). Ok (sub_of rest)) (sym (behind_part word at is)) ∙ ap (λ (s : Sub). Ok s) (sym means))

pub numbers_more : (n : ℕ) → numbers_to n ++ (n + 1) ∷ [] ≡ numbers_to (n + 1)
numbers_more n =
    ap (λ (numbers : List ℕ). numbers ++ (n + 1) ∷ []) (sym (map-id (numbers_to n))) ∙ sym (map-range_with_len_more (λ number. number) 1 n (n + 1) (omega arith)) ∙ map-id (numbers_to (n + 1))

-- ---- numbers by value

one_digit : (a b w x y : ℕ) → a * w + x ≡ b * w + y → x < w → y < w → (a ≡ b) × (x ≡ y)
one_digit a b w x y same low high =
    let head : a ≡ b = sym (div-mul-add a w x low) ∙ ap (λ n. n / w) same ∙ div-mul-add b w y high in
    (head, omega (arith, same, ap (λ n. n * w) head))

same_first : {X : Type 0} (p q : X → Bool) (xs : List X) → AllByRecursion (λ x. p x ≡ q x) xs → position_or_len p xs ≡ position_or_len q xs
same_first p q [] all = refl
same_first p q (x ∷ xs) all = rw (all.0, same_first p q xs all.1) refl

same_position : {X : Type 0} (p q : X → Bool) (xs : List X) → AllByRecursion (λ x. p x ≡ q x) xs → position p xs ≡ position q xs
same_position p q xs all = rw (same_first p q xs all) refl

-- digits without a zero in front
pub record IsShort (ds : List ℕ) : Type 0 where
  pub digits : all_ascii_digits ds ≡ true
  pub front : (slice_index ds 0 == 48) ≡ false

digit_behind : (d : ℕ) (ds : List ℕ) → all_ascii_digits (d ∷ ds) ≡ true → all_ascii_digits ds ≡ true
digit_behind d ds all = own.from ds (own.to (d ∷ ds) all).1

value_below : (ds : List ℕ) → all_ascii_digits ds ≡ true → digits_value 10 ds < 10 ^ length ds
value_below ds all = digits_value-lt 10 ds (own.to ds all)

digit_of : (d : ℕ) → IsInRange 48 57 d → digit_value d + 48 ≡ d
digit_of d is = digit_value_digit d is

-- of as many digits, each number has one row
one_row : (xs ys : List ℕ) → length xs ≡ length ys → all_ascii_digits xs ≡ true → all_ascii_digits ys ≡ true → digits_value 10 xs ≡ digits_value 10 ys → xs ≡ ys
one_row [] [] long first second same = refl
one_row [] (b ∷ ys) long first second same = absurd (omega (arith, long))
one_row (a ∷ xs) [] long first second same = absurd (omega (arith, long))
one_row (a ∷ xs) (b ∷ ys) long first second same =
    let rest : length xs ≡ length ys = omega (arith, long) in
    let e : digit_value a * 10 ^ length xs + digits_value 10 xs ≡ digit_value b * 10 ^ length xs + digits_value 10 ys =
    sym (digits_value-cons a xs) ∙ same ∙ digits_value-cons b ys ∙ ap (λ n. digit_value b * 10 ^ n + digits_value 10 ys) (sym rest) in
    let low = value_below xs (digit_behind a xs first) in
    let high : digits_value 10 ys < 10 ^ length xs = subst (λ n. digits_value 10 ys < 10 ^ n) (sym rest) (value_below ys (digit_behind b ys second)) in
    let parts = one_digit (digit_value a) (digit_value b) (10 ^ length xs) (digits_value 10 xs) (digits_value 10 ys) e low high in
    let head : a ≡ b = omega (arith, parts.0, digit_of a (first_digit a xs first), digit_of b (first_digit b ys second)) in
    rw (head, one_row xs ys rest (digit_behind a xs first) (digit_behind b ys second) parts.1) refl

-- a shorter row has a smaller value
shorter_smaller : (xs ys : List ℕ) → IsShort xs → IsShort ys → length xs < length ys → digits_value 10 xs < digits_value 10 ys
shorter_smaller xs [] short_x short_y less = absurd (omega (arith, less))
shorter_smaller xs (d ∷ ys) short_x short_y less =
    let digit = first_digit d ys short_y.digits in
    let front : d ≢ 48 = eqb-false d 48 short_y.front in
    let one : 1 ≤ digit_value d = omega (arith, digit_of d digit, front, digit) in
    let high = value_below xs short_x.digits in
    let fits : 10 ^ length xs ≤ 10 ^ length ys = let some : 0 < 10 = omega arith in let le : length xs ≤ length ys = omega (arith, less) in pow-le-pow_right some le in
    let much : 1 * 10 ^ length ys ≤ digit_value d * 10 ^ length ys = mul-le-mul_right (10 ^ length ys) one in
    omega (arith, digits_value-cons d ys, high, fits, much)

-- each number has one row of digits without a zero in front
pub one_short : (xs ys : List ℕ) → IsShort xs → IsShort ys → digits_value 10 xs ≡ digits_value 10 ys → xs ≡ ys
one_short xs ys short_x short_y same = by (trichotomy (length xs) (length ys))
  where
    trichotomy : (m n : ℕ) → (m < n) ⊎ ((m ≡ n) ⊎ (n < m))
    trichotomy m n = elim (cases_eq m n) [
      | inl is ↦ inr (inl is)
      | inr other ↦ if_less (nat_lt m n) refl other
    ]
      where
        if_less : (b : Bool) → nat_lt m n ≡ b → m ≢ n → (m < n) ⊎ ((m ≡ n) ⊎ (n < m))
        if_less true is other = inl (grind (arith, nat_tests))
        if_less false is other = inr (inr (grind (arith, nat_tests)))

    by : (length xs < length ys) ⊎ ((length xs ≡ length ys) ⊎ (length ys < length xs)) → xs ≡ ys
    by (inl less) = absurd (omega (arith, same, shorter_smaller xs ys short_x short_y less))
    by (inr (inl is)) = one_row xs ys is short_x.digits short_y.digits same
    by (inr (inr more)) = absurd (omega (arith, same, shorter_smaller ys xs short_y short_x more))

-- rows without a zero in front are the same where their values are
same_test : (xs ys : List ℕ) → IsShort xs → IsShort ys → bytes_eq xs ys ≡ (digits_value 10 ys == digits_value 10 xs)
same_test xs ys short_x short_y =
    same_from_decides (bytes_eq xs ys) (digits_value 10 ys == digits_value 10 xs) (bytes_eq-Decides xs ys)
    (told (digits_value 10 ys == digits_value 10 xs) (Decides-eqb (digits_value 10 ys) (digits_value 10 xs)) (λ is. one_short xs ys short_x short_y (sym is)) (λ is. ap (digits_value 10) (sym is)))

tests_agree : (short : List ℕ) (value : ℕ) (numbers : List Number) → IsShort short → digits_value 10 short ≡ value → AllByRecursion IsShortest numbers → AllByRecursion (λ (number : Number). bytes_eq short number.digits ≡ (value_of_number number == value)) numbers
tests_agree short value [] is same all = tt
tests_agree short value (number ∷ numbers) is same all =
    (same_test short number.digits is (record { digits = all.0.digits; front = all.0.front }) ∙ ap (λ n. value_of_number number == n) same, tests_agree short value numbers is same all.1)

pub place_listed : (short : List ℕ) (value : ℕ) (numbers : List Number) → IsShort short → digits_value 10 short ≡ value → AllByRecursion IsShortest numbers →
    position (λ (number : Number). bytes_eq short number.digits) numbers ≡ position (λ other. other == value) (map value_of_number numbers)
place_listed short value numbers is same all =
    same_position (λ (number : Number). bytes_eq short number.digits) (λ (number : Number). value_of_number number == value) numbers (tests_agree short value numbers is same all)
    ∙ sym (position-map (λ other. other == value) value_of_number numbers)

pub any_listed : (short : List ℕ) (value : ℕ) (numbers : List Number) → IsShort short → digits_value 10 short ≡ value → AllByRecursion IsShortest numbers →
    list_any (λ (number : Number). bytes_eq short number.digits) numbers ≡ list_any (λ other. other == value) (map value_of_number numbers)
any_listed short value [] is same all = refl
any_listed short value (number ∷ numbers) is same all = let agree = tests_agree short value (number ∷ numbers) is same all in rw (agree.0, any_listed short value numbers is same all.1) refl

all_more : {X : Type 0} (P : X → Type 0) (xs : List X) (x : X) → AllByRecursion P xs → P x → AllByRecursion P (xs ++ x ∷ [])
all_more P [] x all is = (is, tt)
all_more P (y ∷ ys) x all is = (all.0, all_more P ys x all.1 is)

values_more : (numbers : List Number) (number : Number) → map value_of_number (numbers ++ number ∷ []) ≡ map value_of_number numbers ++ value_of_number number ∷ []
values_more numbers number = map-append value_of_number numbers (number ∷ [])

-- a map's numbers, with one more
abbrev pub AreKept : Bool → List Number → Type 0
AreKept counted numbers =
    AllByRecursion IsShortest numbers × (length numbers < 2 ^ 32 - 1) × (counted ≡ true → map value_of_number numbers ≡ range_with_len 1 (length numbers))

pub kept_more : (before after : Bool) (numbers now : List Number) (digits : List ℕ) (value : ℕ) → AreKept before numbers → IsShort digits → digits_value 10 digits ≡ value → now ≡ numbers ++ record { digits = digits } ∷ [] → length numbers < 4294967294
    → (after ≡ true → (before ≡ true) × (value ≡ length numbers + 1)) → AreKept after now
kept_more before after numbers now digits value kept short is same room goes =
    let number : Number = record { digits = digits } in
    let long : length now ≡ length numbers + 1 = ap length same ∙ length-append numbers (number ∷ []) in (
      subst (AllByRecursion IsShortest) (sym same) (all_more IsShortest numbers number kept.0 (record { digits = short.digits; front = short.front })),
      omega (arith, long, room),
      λ counts.
          let g = goes counts in
          ap (map value_of_number) same ∙ values_more numbers number
          ∙ ap (λ (ns : List ℕ). ns ++ value_of_number number ∷ []) (kept.2 g.0)
          ∙ ap (λ n. numbers_to (length numbers) ++ n ∷ []) (is ∙ g.1)
          ∙ numbers_more (length numbers) ∙ ap numbers_to (sym long),
    )

pub values_grow : (numbers now : List Number) (digits : List ℕ) (value : ℕ) → digits_value 10 digits ≡ value → now ≡ numbers ++ record { digits = digits } ∷ [] → map value_of_number now ≡ map value_of_number numbers ++ value ∷ []
values_grow numbers now digits value is same = ap (map value_of_number) same ∙ values_more numbers (record { digits = digits }) ∙ ap (λ n. map value_of_number numbers ++ n ∷ []) is
