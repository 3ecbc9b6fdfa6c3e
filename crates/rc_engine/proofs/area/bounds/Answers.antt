-- The shapes of both kinds of nets.
use Rattle.std.proofs.Common.{List, ap, ◌∙◌}
use Rattle.std.specs.Prelude.{None, fold}
use Rattle.std.specs.List.{flat_map}
use Rattle.rc_layout.specs.declared.net.Net.{Net}
use Rattle.rc_engine.specs.Start.{hull, net_rects, bounds_of}
use Rattle.rc_engine.proofs.Loops.{two_folds}
use Rattle.rc_engine.proofs.area.bounds.Goals as goal

pub returns-clause-is : goal.returns-clause-is
unfolding bounds_of
returns-clause-is c =
    let wired = c.args.layout.now in
    c.hull_of_nets.ensures.is ∙ ap (λ (ns : List Net). fold hull c.hull_of_nets-own.result (flat_map net_rects ns)) c.grounded.ensures
    ∙ ap (λ o. fold hull o (flat_map net_rects wired.grounded)) (c.hull_of_nets-own.ensures.is ∙ ap (λ (ns : List Net). fold hull None (flat_map net_rects ns)) c.nets.ensures)
    ∙ two_folds hull net_rects None wired.nets wired.grounded
