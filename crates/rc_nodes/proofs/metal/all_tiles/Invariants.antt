use Rattle.std.proofs.Common.{◌≡◌, take}
use Rattle.std.specs.List.{flat_map, enumerate_from}
use Rattle.rc_nodes.specs.Shares.{item_tiles}
use Rattle.rc_nodes.proofs.metal.all_tiles.Given as goal

abbrev pub invariant-loop-rank : goal.invariant-loop-rank
invariant-loop-rank l = l.tiles ≡ flat_map (item_tiles l.number l.nodes) (take l.rank (enumerate_from 0 l.items))
