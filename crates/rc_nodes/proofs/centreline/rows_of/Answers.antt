use Rattle.std.proofs.Common.{◌≡◌, ◌<◌, ◌+◌, ◌-◌, length, refl, arith}
use Rattle.rc_nodes.proofs.Crossed.{no_centreline}
use Rattle.rc_nodes.proofs.Merged.{within_rows}
use Rattle.rc_nodes.proofs.centreline.rows_of.Goals as goal

pub returns : goal.returns
returns c =
    let some : 0 < length c.args.levels.now = c.requires.some in
    let end : (length c.args.levels.now - 1) + 1 ≡ length c.args.levels.now = omega (arith, some) in
    within_rows _ c.args.levels.now no_centreline c.requires.rows some refl (length c.args.levels.now - 1) end refl
