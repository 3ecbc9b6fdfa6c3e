use Rattle.std.proofs.Common.{ap}
use Rattle.rc_lef.specs.Technology.{name_of_layer}
use Rattle.rc_lef.specs.Layers.{is_known}
use Rattle.rc_lef.specs.declared.state.State.{State}
use Rattle.rc_lef.proofs.Known.{new_name}
use Rattle.rc_lef.proofs.state.State.with_layer.Goals as goal

pub put-requires : goal.put-requires
unfolding is_known
put-requires c =
    new_name name_of_layer c.args.self.now.name _ c.args.given.now.tech.now.layers c.args.self.now.layers _ c.is_known-known.result c.is_known-known.ensures c.if-not-known.true (ap name_of_layer c.made_layer-layer.ensures.layer) (ap (λ (s : State). s.layers) c.made_layer-layer.ensures.state)
