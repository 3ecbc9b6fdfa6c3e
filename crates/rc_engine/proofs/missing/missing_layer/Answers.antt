-- The layers of both kinds of nets.
use Rattle.std.proofs.Common.{List, ap, ◌∙◌}
use Rattle.std.specs.Prelude.{None, fold}
use Rattle.std.specs.List.{flat_map}
use Rattle.rc_layout.specs.declared.net.Net.{Net}
use Rattle.rc_engine.specs.Start.{least_step, lacks_block, net_layers, least_lacking}
use Rattle.rc_engine.proofs.Loops.{two_folds}
use Rattle.rc_engine.proofs.missing.missing_layer.Goals as goal

pub returns-clause-is : goal.returns-clause-is
unfolding least_lacking
returns-clause-is c =
    let f = least_step (lacks_block c.args.rules.now) in
    let wired = c.args.layout.now in
    c.with_nets.ensures.is ∙ ap (λ (ns : List Net). fold f c.with_nets-least.result (flat_map net_layers ns)) c.grounded.ensures
    ∙ ap (λ o. fold f o (flat_map net_layers wired.grounded)) (c.with_nets-least.ensures.is ∙ ap (λ (ns : List Net). fold f None (flat_map net_layers ns)) c.nets.ensures)
    ∙ two_folds f net_layers None wired.nets wired.grounded
