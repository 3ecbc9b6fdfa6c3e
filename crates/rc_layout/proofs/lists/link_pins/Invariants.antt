-- The entries so far are linked.
use Rattle.std.proofs.Common.{◌≡◌, ◌++◌, Ok}
use Rattle.std.specs.Vec.Iter.{into_iter_items}
use Rattle.rc_layout.specs.Entries.{link_pin}
use Rattle.rc_layout.specs.Refusals.{each}
use Rattle.rc_layout.proofs.lists.link_pins.Given as goal

abbrev pub invariant-loop-raw : goal.invariant-loop-raw
invariant-loop-raw l = record { is : each (link_pin l.process.layers l.factor) l.yielded ≡ Ok l.ports; left : l.fn.raws ≡ l.yielded ++ into_iter_items l.raw-iterator }
