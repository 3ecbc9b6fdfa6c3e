-- What the reader's answer says.
use Rattle.std.specs.Prelude.{◌≡◌, Result, Ok, Err}
use Rattle.rc_keys.specs.declared.fault.Fault.{Fault}
use Rattle.rc_keys.specs.declared.fault.Fault.TheVariants as faults
use Rattle.rc_keys.specs.declared.fault.Refusal.{Refusal}
use Rattle.rc_rules.specs.RuleFile.{RuleFile}

-- a refusal is the outcome's; want of memory is free
abbrev pub IsRefused : Result RuleFile Refusal → Fault → Type 0
IsRefused outcome (faults.Refused refusal) = outcome ≡ Err refusal
IsRefused outcome faults.NoMemory = Unit {0}

-- what is a rule file is read as that, but for want of memory
abbrev pub ReadsAs : Result RuleFile Fault → RuleFile → Type 0
ReadsAs (Ok read) rules = read ≡ rules
ReadsAs (Err fault) rules = fault ≡ faults.NoMemory
