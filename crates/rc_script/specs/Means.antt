-- What an item of a script says of what is read so far.
use Rattle.std.specs.Prelude.{◌++◌, false, [], ◌∷◌}
use Rattle.rc_keys.specs.Course.{Turn, More, Done, Close}
use Rattle.rc_wire.specs.declared.operands.Operands.{Operands}
use Rattle.rc_wire.specs.Paths.{no_paths, paths_of, means as means_of_path}
use Rattle.rc_script.specs.declared.command.Command.{Command}
use Rattle.rc_script.specs.declared.command.Command.TheVariants as commands
use Rattle.rc_script.specs.declared.draft.Draft.{Draft}
use Rattle.rc_script.specs.declared.item.ScriptItem.{ScriptItem}
use Rattle.rc_script.specs.declared.item.ScriptItem.TheVariants as items
use Rattle.rc_script.specs.declared.item.Stage.{Stage}
use Rattle.rc_script.specs.declared.item.Stage.TheVariants as stages

abbrev pub nothing_read : Draft
nothing_read = record { commands = []; stage = stages.Command; name = []; line = 0; paths = []; wiring = no_paths false 0 }

abbrev pub goes : Stage → Draft → Turn Draft
goes stage v = More (record v { stage = stage })

-- the command is complete
abbrev pub ends : Command → Draft → Turn Draft
ends command v = Done (record v { commands = v.commands ++ command ∷ []; stage = stages.Command })

-- the edit of a net begins. It has no wiring yet
abbrev pub begins_edit : Operands → Draft → Draft
begins_edit said v = record v { name = said.name; line = said.line; paths = [] }

-- the paths that are open join those before them
abbrev pub with_paths : Draft → Draft
with_paths v = record v { paths = v.paths ++ paths_of v.wiring; wiring = no_paths false 0 }

abbrev pub edit_done : Draft → Turn Draft
edit_done v = ends (commands.Replace v.name v.paths v.line) (record v { name = []; paths = [] })

unfoldable pub means : ScriptItem → Draft → Operands → Turn Draft
means items.Replace v said = goes stages.Body (begins_edit said v)
means items.Spef v said = ends commands.Spef v
means items.Net v said = ends (commands.Net said.name said.line) v
means items.Stat v said = ends commands.Stat v
means items.End v said = Close v
means items.Plus v said = goes stages.Kind v
means items.Unwired v said = edit_done v
-- regular paths, each of which has the command's line
means items.Routed v said = goes stages.Paths (record v { wiring = no_paths false v.line })
means (items.Path item) v said = goes stages.Paths (record v { wiring = means_of_path item v.wiring said })
means items.PathsPlus v said = goes stages.Kind (with_paths v)
means items.PathsDone v said = edit_done (with_paths v)
