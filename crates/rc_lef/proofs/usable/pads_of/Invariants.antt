use Rattle.std.proofs.Common.{◌≡◌, take}
use Rattle.std.specs.List.{filter_map}
use Rattle.rc_lef.specs.Usable.{pad_of}
use Rattle.rc_lef.proofs.usable.pads_of.Given as goal

abbrev pub invariant-loop-rect : goal.invariant-loop-rect
invariant-loop-rect l = l.pads ≡ filter_map pad_of (take l.rect-index l.rects)
