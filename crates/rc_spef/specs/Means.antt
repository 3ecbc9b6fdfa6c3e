-- What the code keeps of words, and what it answers, against the definitions.
use Rattle.std.specs.Prelude.{◌≡◌, ◌==◌, ℕ, true, false, Result, Ok, Err, slice_index}
use Rattle.std.specs.Str.{all_ascii_digits}
use Rattle.std.specs.Str.Parse.{digits_value}
use Rattle.rc_keys.specs.declared.code.Code.{Code}
use Rattle.rc_spef.specs.declared.name_map.Behind.{Behind}
use Rattle.rc_spef.specs.declared.name_map.Behind.TheVariants as behind
use Rattle.rc_spef.specs.declared.name_map.Reference.{Reference}
use Rattle.rc_spef.specs.declared.name_map.Number.{Number}
use Rattle.rc_spef.specs.declared.value.Sub.{Sub}
use Rattle.rc_spef.specs.declared.value.Sub.TheVariants as sub
use Rattle.rc_spef.specs.declared.value.End.{End}

-- digits without a zero in front
pub record IsShortest (number : Number) : Type 0 where
  pub digits : all_ascii_digits number.digits ≡ true
  pub front : (slice_index number.digits 0 == 48) ≡ false

abbrev pub value_of_number : Number → ℕ
value_of_number number = digits_value 10 number.digits

abbrev pub sub_seen : Behind → Sub
sub_seen behind.Bare = sub.Bare
sub_seen (behind.Num number) = sub.Num number
sub_seen (behind.Word word) = sub.Word word.now

abbrev pub end_seen : Reference → End
end_seen reference = record { name = reference.name; sub = sub_seen reference.sub }

-- the code's answer is the one that is defined
abbrev pub Means : {X Y : Type 0} → (X → Y) → Result X Code → Result Y Code → Type 0
Means view (Ok value) read = read ≡ Ok (view value)
Means view (Err code) read = read ≡ Err code
