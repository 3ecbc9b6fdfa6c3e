-- One item more.
use Rattle.std.proofs.Common.{◌<◌, ◌≤◌, ◌++◌, ◌∷◌, [], ◌∙◌, length, ap, rules}
use Rattle.rc_shorts.specs.declared.shape.Shape.{Shape}
use Rattle.rc_shorts.proofs.OfLayouts.{item_more, items_done}
use Rattle.rc_shorts.proofs.linked.put_items.Goals as goal

pub loop-place-preserved : goal.loop-place-preserved
loop-place-preserved c =
    let within : c.loop-place.place < length c.args.items.now = search rules in
    item_more c.args.net c.args.items.now c.loop-place.place _ c.args.list.now.items c.loop-place.list.items c.push.new.self.items within c.loop-place.invariant
    (c.in_ok-push.ensures.items ∙ ap (λ (s : Shape). c.loop-place.list.items ++ s ∷ []) c.shape_at.ensures)

pub returns : goal.returns
returns c =
    let all : length c.args.items.now ≤ c.loop-place.place = search rules in
    items_done c.args.net c.args.items.now c.loop-place.place c.args.list.now.items c.loop-place.list.items all c.loop-place.invariant
