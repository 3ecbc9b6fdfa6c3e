-- An engine begins with all that it knows.
use Rattle.rc_engine.proofs.Engines.{begins}
use Rattle.rc_engine.proofs.engine.Engine.new.Goals as goal

pub returns-in-Ok-clause-engine : goal.returns-in-Ok-clause-engine
returns-in-Ok-clause-engine g c =
    let is = c.in-Ok.ensures in
    begins _ is.extractable is.clear is.few c.requires.some c.requires.most is.frame is.halo is.index is.count is.tallies is.rising

pub invariant_of-result : goal.invariant_of-result
invariant_of-result g c =
    let is = c.in-Ok.ensures in
    (begins _ is.extractable is.clear is.few c.requires.some c.requires.most is.frame is.halo is.index is.count is.tallies is.rising, is.naming, is.nodes, is.names, is.node_count, is.tile_count)
