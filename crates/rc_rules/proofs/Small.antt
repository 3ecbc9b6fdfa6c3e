-- How large the numbers of a rule file are.
use Rattle.std.proofs.Common.{◌≡◌, ◌≤◌, ◌^◌, ◌*◌, ℕ, Bool, true, false, cond, List, refl, arith}
use Rattle.std.proofs.lemmas.Bool.{leb-true}
use Rattle.std.specs.Prelude.{◌==◌, ◌%◌, ◌/◌, nat_le, Ok, Err}
use Rattle.rc_fixed.specs.declared.fault.NumFault.TheVariants.{Form, TooFine, TooLarge}
use Rattle.rc_fixed.specs.Numeral.{rule_of, scaled_value, whole_within, is_negative, is_decimal, numerator, denominator}

within_by : (limit quotient r : ℕ) (whole small : Bool) → nat_le quotient limit ≡ small → cond whole (cond small (Ok quotient) (Err TooLarge)) (Err TooFine) ≡ Ok r → r ≤ limit
within_by limit quotient r true true is same = let e : quotient ≡ r = cc in let h = leb-true quotient limit is in omega (arith, e, h)
within_by limit quotient r true false is same = absurd cc
within_by limit quotient r false small is same = absurd cc

within : (limit n d r : ℕ) → whole_within limit n d ≡ Ok r → r ≤ limit
within limit n d r same = within_by limit (n / d) r (n % d == 0) (nat_le (n / d) limit) refl same

scaled_by : (limit n d r : ℕ) (negative decimal : Bool) → cond negative (Err Form) (cond decimal (whole_within limit n d) (Err Form)) ≡ Ok r → r ≤ limit
scaled_by limit n d r true decimal same = absurd cc
scaled_by limit n d r false true same = within limit n d r same
scaled_by limit n d r false false same = absurd cc

-- a rule's number is at most 10^13
pub rule_most : (text : List ℕ) (n : ℕ) → rule_of text ≡ Ok n → n ≤ 10 ^ 13
unfolding rule_of scaled_value
rule_most text n same = scaled_by (10 ^ 13) (numerator text * 10 ^ 9) (denominator text) n (is_negative text) (is_decimal text) same
