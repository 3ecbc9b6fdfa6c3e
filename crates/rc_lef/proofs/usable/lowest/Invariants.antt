use Rattle.std.proofs.Common.{◌≡◌, take}
use Rattle.rc_lef.specs.Usable.{lowest}
use Rattle.rc_lef.proofs.usable.lowest.Given as goal

abbrev pub invariant-loop-pad : goal.invariant-loop-pad
invariant-loop-pad l = l.number ≡ lowest (take l.pad-index l.pads)
