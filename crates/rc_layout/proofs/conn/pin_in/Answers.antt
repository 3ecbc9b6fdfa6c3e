-- The cell that was found is the one of that number.
use Rattle.std.proofs.Common.{ap, ◌∙◌, List}
use Rattle.std.specs.Prelude.{Option, slice_get}
use Rattle.rc_lef.specs.declared.cell.Macro.{Macro}
use Rattle.rc_lef.specs.Technology.{Technology}
use Rattle.rc_layout.specs.Entries.{pin_in}
use Rattle.rc_layout.proofs.conn.pin_in.Goals as goal

pub returns : goal.returns
returns c =
    let cells = c.macros.ensures ∙ ap (λ (t : Technology). t.macros) c.tech.ensures in
    let here = c.in-Some.ensures.is ∙ ap (λ (ms : List Macro). slice_get ms c.args.cell) cells in
    c.pin_of.ensures ∙ ap (λ (m : Option Macro). pin_in m c.args.name.now) here
