-- The entries so far are linked.
use Rattle.std.proofs.Common.{◌≡◌, ◌++◌, Ok}
use Rattle.std.specs.Vec.Iter.{into_iter_items}
use Rattle.rc_layout.specs.Entries.{link_comp}
use Rattle.rc_layout.specs.Refusals.{each}
use Rattle.rc_layout.proofs.lists.link_comps.Given as goal

abbrev pub invariant-loop-raw : goal.invariant-loop-raw
invariant-loop-raw l = record { is : each (link_comp l.process.macros l.factor) l.yielded ≡ Ok l.comps; left : l.fn.raws ≡ l.yielded ++ into_iter_items l.raw-iterator }
