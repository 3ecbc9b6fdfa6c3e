-- The tiles of the nets so far are measured.
use Rattle.std.proofs.Common.{◌≤◌, ◌^◌, take}
use Rattle.rc_nodes.specs.LayoutPlane.{drawn_nets}
use Rattle.rc_engine.specs.Measured.{AreMeasured}
use Rattle.rc_engine.proofs.measured.all_tiles.Given as goal

abbrev pub invariant-loop-number : goal.invariant-loop-number
invariant-loop-number l = record {
  are : AreMeasured (take l.number (drawn_nets l.layout)) l.tiles l.count;
  few : l.count ≤ 2 ^ 23;
}
