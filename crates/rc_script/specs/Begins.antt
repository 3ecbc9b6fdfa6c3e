-- Which item a token of a script begins, by what may stand next.
use Rattle.std.specs.Prelude.{ℕ, Option, Some, None, Result, Ok, Err, List, codes, if◌then◌else◌}
use Rattle.std.specs.Str.{bytes_eq}
use Rattle.rc_keys.specs.declared.code.Code.{Code}
use Rattle.rc_keys.specs.declared.code.Code.TheVariants.{E03}
use Rattle.rc_keys.specs.Lexemes.{Lexeme}
use Rattle.rc_wire.specs.declared.item.PathItem.{PathItem}
use Rattle.rc_wire.specs.declared.key.Key.{Key}
use Rattle.rc_wire.specs.declared.key.Key.TheVariants as keys
use Rattle.rc_wire.specs.declared.wiring.Wiring.{Wiring}
use Rattle.rc_wire.specs.Keys.{is_quoted}
use Rattle.rc_wire.specs.Paths.{begins as begins_path}
use Rattle.rc_script.specs.declared.draft.Draft.{Draft}
use Rattle.rc_script.specs.declared.item.ScriptItem.{ScriptItem}
use Rattle.rc_script.specs.declared.item.ScriptItem.TheVariants as items
use Rattle.rc_script.specs.declared.item.Stage.{Stage}
use Rattle.rc_script.specs.declared.item.Stage.TheVariants as stages

-- the word of a command
unfoldable pub command_of : List ℕ → Result ScriptItem Code
command_of word =
    if bytes_eq word (codes "REPLACE") then Ok items.Replace
    else if bytes_eq word (codes "SPEF") then Ok items.Spef
    else if bytes_eq word (codes "NET") then Ok items.Net
    else if bytes_eq word (codes "STAT") then Ok items.Stat
    else if bytes_eq word (codes "END") then Ok items.End
    else Err E03

-- there are no empty commands
abbrev pub command : Key → List ℕ → Result ScriptItem Code
command key bytes = if is_quoted key then Err E03 else command_of bytes

-- REPLACE n ;  REPLACE n + ..
abbrev pub body : Key → Result ScriptItem Code
body keys.Plus = Ok items.Plus
body keys.Semicolon = Ok items.Unwired
body _ = Err E03

-- + ROUTED, + FIXED, + COVER and + NOSHIELD, which are alike
abbrev pub kind : Key → Result ScriptItem Code
kind keys.Routed = Ok items.Routed
kind keys.Fixed = Ok items.Routed
kind keys.Cover = Ok items.Routed
kind keys.NoShield = Ok items.Routed
kind _ = Err E03

-- behind paths
abbrev pub paths_end : Key → ScriptItem
paths_end keys.Plus = items.PathsPlus
paths_end _ = items.PathsDone

abbrev pub path : Key → Result (Option PathItem) Code → Result ScriptItem Code
path key (Ok (Some item)) = Ok (items.Path item)
path key (Ok None) = Ok (paths_end key)
path key (Err code) = Err code

abbrev pub paths : Wiring → Key → Result ScriptItem Code
paths w key = path key (begins_path w key)

abbrev pub begins_in : Stage → Draft → Key → Lexeme → Result ScriptItem Code
begins_in stages.Command v key word = command key word.bytes
begins_in stages.Body v key word = body key
begins_in stages.Kind v key word = kind key
begins_in stages.Paths v key word = paths v.wiring key

unfoldable pub begins : Draft → Key → Lexeme → Result ScriptItem Code
begins v key word = begins_in v.stage v key word
