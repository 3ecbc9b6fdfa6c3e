use Rattle.std.proofs.Common.{length}
use Rattle.rc_layout.proofs.comp.+fits_pins.Given as goal

abbrev pub decreases-fits_pins : goal.decreases-fits_pins
decreases-fits_pins l = length l.pins.now
