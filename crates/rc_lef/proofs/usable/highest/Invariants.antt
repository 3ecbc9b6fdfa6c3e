use Rattle.std.proofs.Common.{◌≡◌, take}
use Rattle.rc_lef.specs.Usable.{highest}
use Rattle.rc_lef.proofs.usable.highest.Given as goal

abbrev pub invariant-loop-pad : goal.invariant-loop-pad
invariant-loop-pad l = l.number ≡ highest (take l.pad-index l.pads)
