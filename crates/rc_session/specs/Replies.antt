-- The lines that a session replies with.
use Rattle.std.specs.Prelude.{ℕ, List, ◌++◌, codes}
use Rattle.std.specs.Fmt.{decimal}
use Rattle.rc_keys.specs.declared.code.Code.{Code}
use Rattle.rc_keys.specs.declared.code.Code.TheVariants.{E11, E13, E14}
use Rattle.rc_keys.specs.declared.fault.Refusal.{Refusal}
use Rattle.rc_keys.specs.declared.fault.Refusal.TheVariants.{At, NoRules, Short, Limit}
use Rattle.rc_keys.specs.Names.{code_name}

-- the code that a refusal is told by
abbrev pub refusal_code : Refusal → Code
refusal_code (At code line) = code
refusal_code (NoRules cut number) = E11
refusal_code (Short first second layer x y) = E13
refusal_code (Limit what) = E14

-- a net has other paths; its name is escaped
abbrev pub replaced_line : List ℕ → List ℕ
replaced_line name = codes "// replaced " ++ name ++ codes "\n"

-- the command of that line is refused
abbrev pub refused_line : ℕ → Code → List ℕ
refused_line line code = codes "// refused line " ++ decimal line ++ codes " " ++ code_name code ++ codes "\n"

-- so many windows were swept by the last edit that was accepted
abbrev pub swept_line : ℕ → List ℕ
swept_line count = codes "// swept " ++ decimal count ++ codes "\n"
