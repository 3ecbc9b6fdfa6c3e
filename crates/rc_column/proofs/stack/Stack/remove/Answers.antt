use Rattle.std.proofs.Common.{◌≡◌, List, get_or, true, sym, subst, arith}
use Rattle.std.specs.List.{remove}
use Rattle.rc_geom.specs.declared.tile.Tile.{Tile}
use Rattle.rc_geom.specs.Plane.{plane_of}
use Rattle.rc_geom.specs.Line.{line_of}
use Rattle.rc_column.specs.Runs.{AreRuns}
use Rattle.rc_column.specs.Layers.{AreLayers, same_tile}
use Rattle.rc_column.proofs.Layers.{no_tile, same_layer, layers_remove}
use Rattle.rc_column.proofs.stack.Stack.remove.Goals as goal

pub invariant_of-self : goal.invariant_of-self
invariant_of-self c =
    let s = c.self.inside in
    let t = c.args.tile.now in
    let i = c.place_of-at.result in
    let are : AreRuns (line_of (plane_of (remove s.tiles.items i)) t.layer s.line.axis s.line.at) c.in_ok-runs.runs =
    subst (λ (ts : List Tile). AreRuns (line_of (plane_of (remove ts i)) t.layer s.line.axis s.line.at) c.in_ok-runs.runs) c.deref-2.ensures.value c.in_ok-runs.ensures in
    let there = subst (λ (ts : List Tile). same_tile (get_or ts i no_tile) t ≡ true) c.deref.ensures.value (c.place_of-at.ensures.there no_tile) in
    subst (AreLayers c.remove-tile.new.self.items s.line.axis s.line.at) (sym c.swap-old.ensures.list)
    (layers_remove s.tiles.items c.remove-tile.new.self.items i t.layer s.line.axis s.line.at s.layers c.in_ok-runs.runs c.self.invariant c.requires.layer (omega (arith, c.place_of-at.ensures.within)) (same_layer (get_or s.tiles.items i no_tile) t there) c.remove-tile.ensures.items are)
