-- What the words of a SPEF text stand for: numbers, ends, directions, names.
use Rattle.std.specs.Prelude.{ℕ, Bool, false, List, [], ◌∷◌, ◌+◌, ◌^◌, ◌==◌, ◌&&◌, ◌||◌, not, nat_lt, length, drop, Option, Some, None, Result, Ok, Err, slice_index, position, if◌then◌else◌}
use Rattle.std.specs.List.{list_any, before_first, after_first}
use Rattle.std.specs.Str.{all_ascii_digits}
use Rattle.std.specs.Str.Parse.{digits_value}
use Rattle.rc_keys.specs.declared.code.Code.{Code}
use Rattle.rc_keys.specs.declared.code.Code.TheVariants.{E03, E04, E06}
use Rattle.rc_spef.specs.declared.value.End.{End}
use Rattle.rc_spef.specs.declared.value.Sub.{Sub}
use Rattle.rc_spef.specs.declared.value.Sub.TheVariants as sub

-- a plain number: one or more digits
abbrev pub is_plain : List ℕ → Bool
is_plain word = not (length word == 0) && all_ascii_digits word

abbrev pub begins_star : List ℕ → Bool
begins_star [] = false
begins_star (byte ∷ bytes) = byte == 42

abbrev pub is_colon : ℕ → Bool
is_colon byte = byte == 58

-- a number below 2^32 without a zero in front of another digit
abbrev pub is_num : List ℕ → Bool
is_num word = is_plain word && (not (slice_index word 0 == 48) || (length word == 1)) && nat_lt (digits_value 10 word) (2 ^ 32)

-- what stands behind the number of a name: such a number, or another word
unfoldable pub sub_of : List ℕ → Sub
sub_of word = if is_num word then sub.Num (digits_value 10 word) else sub.Word word

-- the name, by its place from 1, of a number of the map; numbers are compared by value
abbrev pub known : Option ℕ → Result ℕ Code
known None = Err E06
known (Some place) = Ok (place + 1)

unfoldable pub name_at : List ℕ → List ℕ → Result ℕ Code
name_at numbers digits = known (position (λ number. number == digits_value 10 digits) numbers)

-- what stands behind the first colon
unfoldable pub behind_of : List ℕ → Result Sub Code
behind_of word =
    if not (list_any is_colon word) then Ok sub.Bare
    else if length (after_first is_colon word) == 0 then Err E03
    else Ok (sub_of (after_first is_colon word))

infixl 10 ◌>>=◌
abbrev pub ◌>>=◌ : {A B : Type 0} → Result A Code → (A → Result B Code) → Result B Code
(Ok value) >>= next = next value
(Err code) >>= next = Err code

-- the end that `k` or `k:sub` stands for
unfoldable pub reference : List ℕ → List ℕ → Result End Code
reference numbers word =
    if not (is_plain (before_first is_colon word)) then Err E03
    else (behind_of word >>= λ behind. name_at numbers (before_first is_colon word) >>= λ name. Ok (record { name = name; sub = behind }))

-- the end that `*k` or `*k:sub` stands for. A name without a number is left out by name
unfoldable pub end_of : List ℕ → List ℕ → Result End Code
end_of numbers word = if begins_star word then reference numbers (drop 1 word) else Err E04

-- the name that `*k` stands for
unfoldable pub name_of : List ℕ → List ℕ → Result ℕ Code
name_of numbers word =
    if not (begins_star word) then Err E04
    else if not (is_plain (drop 1 word)) then Err E03
    else name_at numbers (drop 1 word)

-- the number of an entry of the map, `*k`
abbrev pub is_entry : List ℕ → Bool
is_entry word = begins_star word && is_plain (drop 1 word)

abbrev pub is_in_map : List ℕ → ℕ → Bool
is_in_map numbers number = list_any (λ other. other == number) numbers
