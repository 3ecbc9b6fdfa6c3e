use Rattle.std.proofs.Common.{◌≡◌, take, map}
use Rattle.rc_layout.specs.Layouts.{rule_of}
use Rattle.rc_layout.proofs.given.rules_of.Given as goal

abbrev pub invariant-loop-ndr : goal.invariant-loop-ndr
invariant-loop-ndr l = l.rules ≡ map rule_of (take l.ndr-index l.ndrs)
