-- What holds of the commands of a script that was read.
use Rattle.std.specs.Prelude.{All}
use Rattle.rc_wire.specs.Forms.{IsRegular}
use Rattle.rc_script.specs.declared.command.Command.{Command}
use Rattle.rc_script.specs.declared.command.Command.TheVariants as commands

-- the paths of an edit are regular
abbrev pub IsCommand : Command → Type 0
IsCommand (commands.Replace name paths line) = All IsRegular paths
IsCommand _ = Unit {0}
