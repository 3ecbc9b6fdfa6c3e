-- Lengths of LEF, and the units of a micron.
use Rattle.std.specs.Prelude.{ℕ, ℤ, pos, int_lt, unsigned_abs, Option, Some, None, Result, Ok, Err, List, codes, if◌then◌else◌}
use Rattle.std.specs.Str.{bytes_eq}
use Rattle.rc_fixed.specs.declared.fault.NumFault.{NumFault}
use Rattle.rc_fixed.specs.Numeral.{is_decimal, len_of, whole_of}
use Rattle.rc_keys.specs.declared.code.Code.{Code}
use Rattle.rc_keys.specs.declared.code.Code.TheVariants.{E05, E08}
use Rattle.rc_lef.specs.declared.length.Range.{Range}
use Rattle.rc_lef.specs.declared.length.Range.TheVariants as ranges
use Rattle.rc_lef.specs.declared.units.Units.{Units}
use Rattle.rc_lef.specs.declared.units.Units.TheVariants.{U100, U200, U400, U800, U1000, U2000, U4000, U8000, U10000, U20000}

abbrev pub in_a_micron : Units → ℕ
in_a_micron U100 = 100
in_a_micron U200 = 200
in_a_micron U400 = 400
in_a_micron U800 = 800
in_a_micron U1000 = 1000
in_a_micron U2000 = 2000
in_a_micron U4000 = 4000
in_a_micron U8000 = 8000
in_a_micron U10000 = 10000
in_a_micron U20000 = 20000

-- the units of a micron that a word names
unfoldable pub units_named : List ℕ → Option Units
units_named word =
    if bytes_eq word (codes "100") then Some U100
    else if bytes_eq word (codes "200") then Some U200
    else if bytes_eq word (codes "400") then Some U400
    else if bytes_eq word (codes "800") then Some U800
    else if bytes_eq word (codes "1000") then Some U1000
    else if bytes_eq word (codes "2000") then Some U2000
    else if bytes_eq word (codes "4000") then Some U4000
    else if bytes_eq word (codes "8000") then Some U8000
    else if bytes_eq word (codes "10000") then Some U10000
    else if bytes_eq word (codes "20000") then Some U20000
    else None

abbrev pub or_malformed : Result ℤ NumFault → Result ℤ Code
or_malformed (Ok length) = Ok length
or_malformed (Err fault) = Err E05

-- a length in units, or the code of its refusal: a malformed one is told before missing units
unfoldable pub length_read : Option Units → List ℕ → Result ℤ Code
length_read None text = Err (if is_decimal text then E08 else E05)
length_read (Some units) text = or_malformed (len_of (in_a_micron units) text)

abbrev pub positive : Result ℤ Code → Result ℤ Code
positive (Err code) = Err code
positive (Ok length) = if int_lt (pos 0) length then Ok length else Err E05

abbrev pub not_negative : Result ℤ Code → Result ℤ Code
not_negative (Err code) = Err code
not_negative (Ok length) = if int_lt length (pos 0) then Err E05 else Ok length

abbrev pub length_in : Range → Result ℤ Code → Result ℤ Code
length_in ranges.Any read = read
length_in ranges.Above0 read = positive read
length_in ranges.AtLeast0 read = not_negative read

abbrev pub count_of : Option ℤ → Option ℕ
count_of None = None
count_of (Some count) = if int_lt count (pos 1) then None else if int_lt (pos 1024) count then None else Some (unsigned_abs count)

-- how many rows or columns of cuts there are: a whole number from 1 to 1024
unfoldable pub count_read : List ℕ → Option ℕ
count_read text = count_of (whole_of text)
