-- The limits of nodes and of tiles.
use Rattle.std.proofs.Common.{◌≤◌, ◌^◌, subst}
use Rattle.rc_engine.specs.Start.{node_count}
use Rattle.rc_engine.specs.Measured.{HaveTooManyNodes}
use Rattle.rc_engine.proofs.Drawings.{tiles_are}
use Rattle.rc_engine.proofs.Refusals.{limits_hold, nodes_refuse, tiles_refuse}
use Rattle.rc_engine.proofs.accept.measured.Goals as goal

pub returns-in-Err-clause-fault : goal.returns-in-Err-clause-fault
returns-in-Err-clause-fault c = nodes_refuse c.args.layout.now c.in-Err.fault (subst (λ nets. HaveTooManyNodes nets c.in-Err.fault) c.nets.ensures c.in-Err.ensures.fault)

pub returns-in-Ok-all_tiles-clause-tiles : goal.returns-in-Ok-all_tiles-clause-tiles
returns-in-Ok-all_tiles-clause-tiles c = tiles_are c.args.layout.now c.in-Ok-all_tiles.counted.tiles c.in-Ok-all_tiles.ensures.tiles

pub returns-in-Ok-all_tiles-clause-within : goal.returns-in-Ok-all_tiles-clause-within
returns-in-Ok-all_tiles-clause-within c =
    limits_hold c.args.layout.now (subst (λ nets. node_count nets ≤ 2 ^ 22) c.nets.ensures c.in-Ok.ensures.lists.few) c.in-Ok-all_tiles.ensures.tiles.few

pub returns-in-Err-all_tiles-clause-fault : goal.returns-in-Err-all_tiles-clause-fault
returns-in-Err-all_tiles-clause-fault c =
    tiles_refuse c.args.layout.now c.in-Err-all_tiles.fault (subst (λ nets. node_count nets ≤ 2 ^ 22) c.nets.ensures c.in-Ok.ensures.lists.few) c.in-Err-all_tiles.ensures.fault
