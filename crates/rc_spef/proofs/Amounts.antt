-- A number below one has the digit 0 before its point.
use Rattle.std.proofs.Common.{◌≡◌, ℕ, ◌/◌, ◌%◌, ◌^◌, ◌<◌, ◌∷◌, refl, arith}
use Rattle.std.proofs.lemmas.Fmt.{decimal_digit}
use Rattle.rc_fixed.specs.Decimal.{decimal_text, fraction_text}

pub below_one : (rest : ℕ) → rest < 10 ^ 15 → decimal_text rest ≡ 48 ∷ fraction_text rest
below_one rest small =
    let none : rest / 10 ^ 15 ≡ 0 = omega arith in
    let all : rest % 10 ^ 15 ≡ rest = omega arith in
    rw (none, all, decimal_digit 0 (omega arith)) refl
