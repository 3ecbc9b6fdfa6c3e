use Rattle.std.proofs.Common.{◌≡◌, take}
use Rattle.rc_layout.proofs.given.copied_vias.Given as goal

abbrev pub invariant-loop-via : goal.invariant-loop-via
invariant-loop-via l = l.copies ≡ take l.via-index l.vias
