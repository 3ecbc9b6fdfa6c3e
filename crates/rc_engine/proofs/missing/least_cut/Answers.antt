-- The cuts of one net more.
use Rattle.std.proofs.Common.{List, ℕ, refl, ap, ◌∙◌}
use Rattle.std.specs.Prelude.{None, fold}
use Rattle.std.specs.List.{flat_map}
use Rattle.rc_geom.specs.declared.rect.Pt.{Pt}
use Rattle.rc_layout.specs.declared.net.Net.{Net}
use Rattle.rc_engine.specs.Start.{least_step, lacks_cut, net_cuts, place_cuts, least_lacking}
use Rattle.rc_engine.proofs.Loops.{flat_folded}
use Rattle.rc_engine.proofs.missing.least_cut.Goals as goal

pub loop-net-preserved : goal.loop-net-preserved
unfolding least_lacking
loop-net-preserved c =
    let vias = c.args.vias.now in
    let least = c.loop-net.least in
    let f = least_step (lacks_cut c.args.rules.now) in
    flat_folded f (net_cuts vias) c.args.nets.now c.loop-net.net-index c.net-item.result None least c.with_vias-least.result c.loop-net-test.true c.loop-net.invariant
    (c.with_vias-least.ensures ∙ ap (λ (vs : List (ℕ × Pt)). fold f least (flat_map (place_cuts vias) vs)) c.items.ensures ∙ ap (λ (n : Net). fold f least (net_cuts vias n)) c.net-item.is)

pub loop-net-init : goal.loop-net-init
unfolding least_lacking
loop-net-init c = refl
