-- The rectangles so far.
use Rattle.std.proofs.Common.{◌≡◌, map, take}
use Rattle.rc_layout.specs.declared.item.Item.{Item}
use Rattle.rc_engine.proofs.touching.rects.Given as goal

abbrev pub invariant-loop-item : goal.invariant-loop-item
invariant-loop-item l = l.rects.items ≡ map (λ (item : Item). item.rect) (take l.item-index l.items)
