-- What a reader's fault says.
use Rattle.std.specs.Prelude.{◌≡◌, Result, Ok, Err}
use Rattle.rc_keys.specs.declared.fault.Fault.{Fault}
use Rattle.rc_keys.specs.declared.fault.Fault.TheVariants as faults
use Rattle.rc_keys.specs.declared.fault.Refusal.{Refusal}

-- a refusal is the outcome's; want of memory may come at any time
abbrev pub IsRefused : {A : Type 0} → Result A Refusal → Fault → Type 0
IsRefused outcome (faults.Refused refusal) = outcome ≡ Err refusal
IsRefused outcome faults.NoMemory = Unit {0}

-- what says a value is read as that, but for want of memory
abbrev pub ReadsAs : {A : Type 0} → Result A Fault → A → Type 0
ReadsAs (Ok now) value = now ≡ value
ReadsAs (Err fault) value = fault ≡ faults.NoMemory
