use Rattle.std.proofs.Common.{sym, subst}
use Rattle.rc_geom.specs.Plane.{plane_of}
use Rattle.rc_geom.specs.Line.{line_of}
use Rattle.rc_column.specs.Columns.{Column, layer_line}
use Rattle.rc_column.specs.Runs.{AreRuns}
use Rattle.rc_column.specs.Rows.{AreInOrder}
use Rattle.rc_column.proofs.Layers.{in_order, layer_read}
use Rattle.rc_column.proofs.stack.Stack.runs.Goals as goal

pub returns-clause-runs : goal.returns-clause-runs
returns-clause-runs c =
    let s = c.self.inside in
    subst (λ (column : Column). AreRuns (layer_line column c.args.layer) c.items-2.result.now) c.self.view_is
    (subst (AreRuns (line_of (plane_of s.tiles.items) c.args.layer s.line.axis s.line.at)) (sym c.items-2.ensures)
    (layer_read s.tiles.items s.line.axis s.line.at s.layers c.items.result.now c.args.layer c.index-items-layer.result c.self.invariant c.requires c.items.ensures c.index-items-layer.is))

pub returns-clause-order : goal.returns-clause-order
returns-clause-order c =
    let s = c.self.inside in
    subst AreInOrder (sym c.items-2.ensures)
    (in_order s.tiles.items c.args.layer s.line.axis s.line.at c.index-items-layer.result c.self.invariant.near
    (layer_read s.tiles.items s.line.axis s.line.at s.layers c.items.result.now c.args.layer c.index-items-layer.result c.self.invariant c.requires c.items.ensures c.index-items-layer.is))
