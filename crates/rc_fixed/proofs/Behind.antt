-- The digits behind a point, one place after another.
use Rattle.std.proofs.Math.ListN.{set}
use Rattle.std.proofs.Math.Nat.{pow-suc, mod-lt, mul-div_cancel, div-lt_iff_lt-mul, pow-le-pow_right}
use Rattle.std.proofs.Common.{◌≡◌, ◌≢◌, ◌+◌, ◌-◌, ◌*◌, ◌/◌, ◌%◌, ◌<◌, ◌≤◌, ◌^◌, ◌++◌, [], ◌∷◌, List, ℕ, zero, suc, take, drop, length, cond, refl, sym, ap, ◌∙◌, append_assoc, arith, subst}
use Rattle.std.proofs.lemmas.Grind.{take-set_at}
use Rattle.std.proofs.lemmas.List.{drop-set-lt, drop-drop}
use Rattle.std.proofs.lemmas.Bool.{ne_eqb}
use Rattle.rc_fixed.specs.Decimal.{digits_behind, fraction_text}

-- a power of ten isn't 0
pub pow_ten-pos : (k : ℕ) → 0 < 10 ^ k
pow_ten-pos k = pow-le-pow_right {n = 10} (omega arith) {i = 0} {j = k} (omega arith)

-- behind the last digit nothing is written
pub digits_behind-zero : (places : ℕ) → digits_behind places 0 ≡ []
unfolding digits_behind
digits_behind-zero zero = refl
digits_behind-zero (suc places) = refl

-- the first digit, and those of what is left behind it
pub digits_behind-suc : (places rest : ℕ) → rest ≢ 0 → digits_behind (suc places) rest ≡ (48 + rest / 10 ^ places) ∷ digits_behind places (rest % 10 ^ places)
unfolding digits_behind
digits_behind-suc places rest some = ap (λ b. cond b [] ((48 + rest / 10 ^ places) ∷ digits_behind places (rest % 10 ^ places))) (ne_eqb rest 0 some)

-- a fraction has a point
pub fraction_text-pointed : (rest : ℕ) → rest ≢ 0 → fraction_text rest ≡ 46 ∷ digits_behind 15 rest
fraction_text-pointed rest some = ap (λ b. cond b [] (46 ∷ digits_behind 15 rest)) (ne_eqb rest 0 some)

-- where something is left, so is a place
pub some_place : (places rest unit : ℕ) → unit ≡ 10 ^ places → rest < unit → rest ≢ 0 → 1 ≤ places
some_place zero rest unit is small some = absurd (some (omega arith))
some_place (suc places) rest unit is small some = omega arith

-- the digit at the first of the places, and what is left behind it
pub record IsFirstDigit (fewer rest unit : ℕ) : Type 0 where
  pub tenth : unit / 10 ≡ 10 ^ fewer
  pub positive : 0 < unit / 10
  pub digit : rest / (unit / 10) < 10
  pub less : rest % (unit / 10) < unit / 10

pub first_digit : (fewer places rest unit : ℕ) → suc fewer ≡ places → unit ≡ 10 ^ places → rest < unit → IsFirstDigit fewer rest unit
first_digit fewer places rest unit more is small =
    let whole : unit ≡ 10 ^ fewer * 10 = is ∙ (ap (λ n. 10 ^ n) (sym more) ∙ pow-suc 10 fewer) in
    let tenth : unit / 10 ≡ 10 ^ fewer = ap (λ n. n / 10) whole ∙ mul-div_cancel (10 ^ fewer) (omega arith) in
    let positive : 0 < unit / 10 = subst (λ n. 0 < n) (sym tenth) (pow_ten-pos fewer) in
    record {
      tenth = tenth;
      positive = positive;
      digit = (div-lt_iff_lt-mul {k = unit / 10} {x = rest} {y = 10} positive).1 (omega arith);
      less = mod-lt rest positive;
    }

-- a digit more is written, and one fewer is left
pub write_digit : (out : List ℕ) (end fewer places rest unit : ℕ) → suc fewer ≡ places → end < length out → unit ≡ 10 ^ places → rest < unit → rest ≢ 0 → take (end + 1) (set out end (48 + rest / (unit / 10))) ++ digits_behind fewer (rest % (unit / 10)) ≡ take end out ++ digits_behind places rest
write_digit out end fewer places rest unit more within is small some =
    let tenth : unit / 10 ≡ 10 ^ fewer = (first_digit fewer places rest unit more is small).tenth in
    let step : digits_behind places rest ≡ (48 + rest / 10 ^ fewer) ∷ digits_behind fewer (rest % 10 ^ fewer) = ap (λ n. digits_behind n rest) (sym more) ∙ digits_behind-suc fewer rest some in
    rw (tenth, take-set_at out end (end + 1) (48 + rest / 10 ^ fewer) refl within, append_assoc, step) refl

-- a byte that is written changes nothing behind it
pub same_behind : (out before : List ℕ) (end byte : ℕ) → drop end out ≡ drop end before → drop (end + 1) (set out end byte) ≡ drop (end + 1) before
same_behind out before end byte same =
    drop-set-lt (end + 1) out end byte (omega arith) ∙ (sym (drop-drop 1 end out) ∙ (ap (drop 1) same ∙ drop-drop 1 end before))

-- what stays behind one place stays behind each later one
pub same_past : (out before : List ℕ) (end n : ℕ) → end ≤ n → drop end out ≡ drop end before → drop n out ≡ drop n before
same_past out before end n past same =
    let is : end + (n - end) ≡ n = omega arith in
    ap (λ k. drop k out) (sym is) ∙ (sym (drop-drop (n - end) end out) ∙ (ap (drop (n - end)) same ∙ (drop-drop (n - end) end before ∙ ap (λ k. drop k before) is)))
