use Rattle.std.proofs.Common.{length}
use Rattle.rc_layout.proofs.comp.+fits_rects.Given as goal

abbrev pub decreases-fits_rects : goal.decreases-fits_rects
decreases-fits_rects l = length l.rects.now
