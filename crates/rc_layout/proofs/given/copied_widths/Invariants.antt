use Rattle.std.proofs.Common.{◌≡◌, take}
use Rattle.rc_layout.proofs.given.copied_widths.Given as goal

abbrev pub invariant-loop-width : goal.invariant-loop-width
invariant-loop-width l = l.copies ≡ take l.width-index l.widths
