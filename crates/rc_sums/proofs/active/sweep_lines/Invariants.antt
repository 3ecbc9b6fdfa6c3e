use Rattle.std.proofs.Common.{◌≡◌, ◌≤ℤ◌, ◌-ℤ◌}
use Rattle.rc_geom.specs.Plane.{plane_of}
use Rattle.rc_geom.specs.Sums.{natural, first_line, end_line, first_place, end_place}
use Rattle.rc_tally.specs.Tallies.{sums}
use Rattle.std.specs.Prelude.{filter, ◌≤◌, ◌+◌}
use Rattle.std.specs.List.{sum_by}
use Rattle.rc_sums.proofs.EditCounts.{due}
use Rattle.rc_sums.specs.Columns.{SameTiles, is_on}
use Rattle.rc_sums.specs.Entering.{one, HasRoom, Enters}
use Rattle.rc_sums.specs.Worths.{columns_added}
use Rattle.rc_sums.proofs.active.sweep_lines.Given as goal

-- the column has the tiles of its line, the lines before it are entered, and there is room for the others
abbrev pub invariant-loop-end : goal.invariant-loop-end
invariant-loop-end g l = record {
  axis : l.stack.line.axis ≡ g.row.A;
  held : SameTiles l.stack.tiles (filter (is_on l.stack.line) l.tiles);
  end_is : l.end.at ≡ end_line g.row.A l.area;
  low : first_line g.row.A l.area ≤ℤ l.stack.line.at;
  high : l.stack.line.at ≤ℤ l.end.at;
  enters : Enters g.R.Value.Amount.adding g.R.Value.Amount.sound l.initial.tally l.tally
      (columns_added (sums g.R.Value.Amount.adding) one (plane_of l.tiles) (g.R.Rater.rates_of l.rater) g.row.A (first_line g.row.A l.area) l.stack.line.at (first_place g.row.A l.area) (end_place g.row.A l.area));
  room : HasRoom g.R.Value.Amount.adding g.R.Value.Amount.fits g.R.Value.Amount.sound l.tally
      (columns_added (sums g.R.Value.Amount.adding) one (plane_of l.tiles) (g.R.Rater.rates_of l.rater) g.row.A l.stack.line.at (end_line g.row.A l.area) (first_place g.row.A l.area) (end_place g.row.A l.area));
  kept : l.fn.edits ≤ l.edits;
  edits : l.edits ≤ l.fn.edits + sum_by (due g.row.A l.stack.line.at) l.tiles;
}

abbrev pub decreases-loop-end : goal.decreases-loop-end
decreases-loop-end g l = natural (l.end.at -ℤ l.stack.line.at)
