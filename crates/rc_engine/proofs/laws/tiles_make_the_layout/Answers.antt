use Rattle.rc_engine.proofs.Drawn.{tiles_make_the_layout}
use Rattle.rc_engine.proofs.laws.tiles_make_the_layout.Goals as goal

pub returns : goal.returns
returns c = tiles_make_the_layout
