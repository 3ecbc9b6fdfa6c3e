-- The numbers of a rule file: lengths in units of 1/M micron, all else in units of 10^-15.
use Rattle.std.specs.Prelude.{ℕ, ℤ, pos, ◌*◌, ◌/◌, ◌^◌, ◌≤◌, Option, Some, None, Result, Ok, List, option_map, nat_le, if◌then◌else◌}
use Rattle.std.specs.Result.{result_ok}
use Rattle.rc_fixed.specs.declared.fault.NumFault.{NumFault}
use Rattle.rc_fixed.specs.Numeral.{rule_of, len_of}
use Rattle.rc_lef.specs.declared.units.Units.{Units}
use Rattle.rc_lef.specs.Lengths.{in_a_micron}

abbrev pub at_least_1 : Result ℤ NumFault → Option ℕ
at_least_1 (Ok (pos n)) = if nat_le 1 n then Some n else None
at_least_1 _ = None

-- a length of at least one unit
unfoldable pub length_of : Units → List ℕ → Option ℕ
length_of units word = at_least_1 (len_of (in_a_micron units) word)

-- a number of 10^-9 for a micron, for one unit
abbrev pub per_unit : Units → ℕ → ℕ
per_unit units number = number * 10 ^ 6 / in_a_micron units

-- a capacitance or a resistance for a micron, for one unit
unfoldable pub share_of : Units → List ℕ → Option ℕ
share_of units word = option_map (per_unit units) (result_ok (rule_of word))

-- a resistance by itself
unfoldable pub resistance_of : List ℕ → Option ℕ
resistance_of word = option_map (λ number. number * 10 ^ 6) (result_ok (rule_of word))

-- no number for one unit is larger
abbrev pub IsNumber : ℕ → Type 0
IsNumber number = number ≤ 10 ^ 17
