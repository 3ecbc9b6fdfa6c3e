-- The special nets so far are linked.
use Rattle.std.proofs.Common.{◌≡◌, take, Ok}
use Rattle.rc_layout.specs.Entries.{link_special}
use Rattle.rc_layout.specs.Refusals.{each}
use Rattle.rc_layout.proofs.linking.link_specials.Given as goal

abbrev pub invariant-loop-raw : goal.invariant-loop-raw
invariant-loop-raw l = each (link_special l.parts) (take l.raw-index l.raws) ≡ Ok l.nets
