use Rattle.std.proofs.Common.{◌≤◌, ◌<◌, length, refl, rules}
use Rattle.rc_nodes.proofs.Found.{tiles_turn, tiles_are}
use Rattle.rc_nodes.proofs.metal.all_tiles.Goals as goal

pub loop-rank-preserved : goal.loop-rank-preserved
loop-rank-preserved c =
    let within : c.loop-rank.rank < length c.args.items.now = search rules in
    tiles_turn c.args.number c.args.nodes.now c.args.items.now c.args.items.now c.loop-rank.rank _ _ c.loop-rank.tiles c.add_item.new.tiles c.requires.order c.requires.items
    c.requires.rows c.requires.columns refl within c.loop-rank.invariant c.in_ok-add_item.ensures

pub returns : goal.returns
returns c =
    let all : length c.args.items.now ≤ c.loop-rank.rank = search rules in
    tiles_are c.args.number c.args.nodes.now c.args.items.now c.loop-rank.rank c.loop-rank.tiles all c.loop-rank.invariant
