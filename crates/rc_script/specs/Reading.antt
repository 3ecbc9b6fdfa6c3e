-- What a reader's answer says.
use Rattle.std.specs.Prelude.{◌≡◌, Result, Ok, Err}
use Rattle.rc_keys.specs.declared.fault.Fault.{Fault}
use Rattle.rc_keys.specs.declared.fault.Fault.TheVariants as faults
use Rattle.rc_keys.specs.declared.fault.Refusal.{Refusal}

-- the answer is the outcome; want of memory is free
abbrev pub IsRead : {A : Type 0} → Result A Fault → Result A Refusal → Type 0
IsRead (Ok value) outcome = outcome ≡ Ok value
IsRead (Err (faults.Refused refusal)) outcome = outcome ≡ Err refusal
IsRead (Err faults.NoMemory) outcome = Unit {0}
