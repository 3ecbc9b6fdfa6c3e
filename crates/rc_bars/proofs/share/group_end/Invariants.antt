use Rattle.std.proofs.Common.{◌≡◌, ◌<◌, ◌≤◌, ◌-◌, ℕ, true, length}
use Rattle.std.specs.Prelude.{slice_index_or}
use Rattle.rc_geom.specs.declared.tile.Tile.{Tile}
use Rattle.rc_bars.specs.Strips.{is_of}
use Rattle.rc_bars.proofs.share.group_end.Given as goal

-- the tiles so far are of the net
abbrev pub invariant-loop-end : goal.invariant-loop-end
invariant-loop-end l = record {
  behind : l.from < l.end;
  within : l.end ≤ length l.sorted;
  of : (k : ℕ) (d : Tile) → l.from ≤ k → k < l.end → is_of l.share (slice_index_or l.sorted k d) ≡ true;
}

abbrev pub decreases-loop-end : goal.decreases-loop-end
decreases-loop-end l = length l.sorted - l.end
