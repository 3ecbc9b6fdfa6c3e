use Rattle.std.proofs.Common.{◌≡◌, length, true}
use Rattle.std.specs.Str.{all_ascii_digits}
use Rattle.std.specs.Str.Parse.{digits_value}
use Rattle.rc_spef.proofs.numbers.without_zeros.Given as goal

abbrev pub invariant-zeros : goal.invariant-zeros
invariant-zeros l = record {
  digits : all_ascii_digits l.digits ≡ true;
  value : digits_value 10 l.digits ≡ digits_value 10 l.fn.digits;
}

abbrev pub decreases-zeros : goal.decreases-zeros
decreases-zeros l = length l.digits
