-- The text of a sum, from its whole part and the rest.
use Rattle.std.proofs.Common.{◌≡◌, ℕ, ◌+◌, ◌*◌, ◌/◌, ◌%◌, ◌^◌, ◌<◌, ◌∷◌, ◌++◌, refl, arith}
use Rattle.std.specs.Fmt.{decimal}
use Rattle.std.proofs.lemmas.Fmt.{decimal_digit}
use Rattle.rc_fixed.specs.Decimal.{decimal_text, fraction_text}

pub below_one : (rest : ℕ) → rest < 10 ^ 15 → decimal_text rest ≡ 48 ∷ fraction_text rest
below_one rest small =
    let none : rest / 10 ^ 15 ≡ 0 = omega arith in
    let all : rest % 10 ^ 15 ≡ rest = omega arith in
    rw (none, all, decimal_digit 0 (omega arith)) refl

pub amount_text : (whole rest : ℕ) → rest < 10 ^ 15 → decimal_text (whole * 10 ^ 15 + rest) ≡ decimal whole ++ fraction_text rest
amount_text whole rest small =
    let above : (whole * 10 ^ 15 + rest) / 10 ^ 15 ≡ whole = omega arith in
    let below : (whole * 10 ^ 15 + rest) % 10 ^ 15 ≡ rest = omega arith in
    rw (above, below) refl
