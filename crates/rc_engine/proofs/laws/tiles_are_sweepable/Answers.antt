use Rattle.rc_engine.proofs.Sweepable.{tiles_are_sweepable}
use Rattle.rc_engine.proofs.laws.tiles_are_sweepable.Goals as goal

pub returns : goal.returns
returns c = tiles_are_sweepable
