use Rattle.std.proofs.Common.{All, subst}
use Rattle.rc_rows_sweep.specs.Scenes.{IsSmall}
use Rattle.rc_rows_sweep.proofs.Bounds.{small_merge}
use Rattle.rc_rows_sweep.proofs.scene.merged.Goals as goal

pub merge-requires : goal.merge-requires
merge-requires c =
    let first : All IsSmall c.args.a.now = subst (All IsSmall) c.entries.ensures.are (c.are_small.ensures c.if-not-are_small.false) in
    let second : All IsSmall c.args.b.now = subst (All IsSmall) c.entries-else-not-are_small.ensures.are (c.are_small-else-not-are_small.ensures c.if-not-are_small-2.false) in
    small_merge c.args.a.now c.args.b.now first second
