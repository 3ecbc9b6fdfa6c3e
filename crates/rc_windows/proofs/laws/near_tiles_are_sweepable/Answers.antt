use Rattle.rc_windows.proofs.Changes.{near_tiles_are_sweepable}
use Rattle.rc_windows.proofs.laws.near_tiles_are_sweepable.Goals as goal

pub returns : goal.returns
returns g c = near_tiles_are_sweepable _ c.args.grid.now
