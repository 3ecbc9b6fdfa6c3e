use Rattle.std.proofs.Common.{◌≡◌, take}
use Rattle.std.specs.List.{filter_map}
use Rattle.rc_lef.specs.Usable.{cut_of}
use Rattle.rc_lef.proofs.usable.cuts_of.Given as goal

abbrev pub invariant-loop-rect : goal.invariant-loop-rect
invariant-loop-rect l = l.cuts ≡ filter_map cut_of (take l.rect-index l.rects)
