use Rattle.std.proofs.Common.{◌∙◌, ap}
use Rattle.rc_lef.specs.Technology.{name_of_via}
use Rattle.rc_lef.specs.Vias.{knows_via}
use Rattle.rc_lef.specs.declared.state.State.{State}
use Rattle.rc_lef.proofs.Known.{new_name}
use Rattle.rc_lef.proofs.ViaNames.{via_name}
use Rattle.rc_lef.proofs.state.State.with_via.Goals as goal

pub put-requires : goal.put-requires
unfolding knows_via
put-requires c =
    new_name name_of_via c.args.self.now.name _ c.args.given.now.tech.now.vias c.args.self.now.vias _ c.knows_via-known.result c.knows_via-known.ensures c.if-not-known.true (ap name_of_via c.in-Ok.ensures.made ∙ via_name c.args.self.now.name c.args.self.now.via)
    (ap (λ (s : State). s.vias) c.in-Ok.ensures.state)
