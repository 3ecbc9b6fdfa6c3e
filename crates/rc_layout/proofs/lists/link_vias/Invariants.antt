-- The entries so far are linked.
use Rattle.std.proofs.Common.{◌≡◌, ◌++◌, Ok}
use Rattle.std.specs.Vec.Iter.{into_iter_items}
use Rattle.std.specs.Prelude.{All, IfSome}
use Rattle.rc_def.specs.Forms.{IsMade}
use Rattle.rc_layout.specs.Entries.{link_via}
use Rattle.rc_layout.specs.Refusals.{each}
use Rattle.rc_layout.proofs.lists.link_vias.Given as goal

abbrev pub invariant-loop-raw : goal.invariant-loop-raw
invariant-loop-raw l = record { is : each (link_via l.process.layers l.factor) l.yielded ≡ Ok l.vias; left : l.fn.raws ≡ l.yielded ++ into_iter_items l.raw-iterator; made : All (λ raw. IfSome raw.made IsMade) (into_iter_items l.raw-iterator) }
