use Rattle.std.proofs.Common.{ap}
use Rattle.rc_lef.specs.Technology.{name_of_macro}
use Rattle.rc_lef.specs.Cells.{knows_macro}
use Rattle.rc_lef.specs.declared.state.State.{State}
use Rattle.rc_lef.proofs.Known.{new_name}
use Rattle.rc_lef.proofs.state.State.with_macro.Goals as goal

pub put-requires : goal.put-requires
unfolding knows_macro
put-requires c =
    new_name name_of_macro c.args.self.now.outer _ c.args.given.now.tech.now.macros c.args.self.now.macros _ c.knows_macro-known.result c.knows_macro-known.ensures c.if-not-known.true (ap name_of_macro c.made_macro-cell.ensures.made) (ap (λ (s : State). s.macros) c.made_macro-cell.ensures.state)
