use Rattle.std.proofs.Common.{◌∙◌}
use Rattle.rc_windows.proofs.Listed.{found_places}
use Rattle.rc_windows.proofs.index.listed_rooms.Goals as goal

pub count_more-requires : goal.count_more-requires
count_more-requires c = found_places c.args.list.now _ _ _ (c.deref.ensures.value ∙ c.in_ok-find.ensures) c.loop-tile.invariant
