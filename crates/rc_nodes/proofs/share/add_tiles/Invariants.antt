use Rattle.std.proofs.Common.{◌≡◌, ◌++◌, map, drop}
use Rattle.rc_nodes.specs.Shares.{shares_from, share_tile, tap_tiles}
use Rattle.rc_nodes.proofs.share.add_tiles.Given as goal

abbrev pub invariant-loop-k : goal.invariant-loop-k
invariant-loop-k l =
    l.tiles ++ map (share_tile l.net l.rank l.item) (shares_from l.from l.end (drop l.k l.taps))
    ≡ l.fn.tiles ++ tap_tiles l.net l.rank l.item l.taps
