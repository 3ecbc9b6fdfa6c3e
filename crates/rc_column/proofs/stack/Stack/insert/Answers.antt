use Rattle.std.proofs.Common.{◌++◌, [], ◌∷◌, List, sym, subst}
use Rattle.rc_geom.specs.declared.tile.Tile.{Tile}
use Rattle.rc_geom.specs.Plane.{plane_of}
use Rattle.rc_geom.specs.Line.{line_of}
use Rattle.rc_column.specs.Runs.{AreRuns}
use Rattle.rc_column.specs.Layers.{AreLayers}
use Rattle.rc_column.proofs.Layers.{layers_insert}
use Rattle.rc_column.proofs.stack.Stack.insert.Goals as goal

pub invariant_of-self-2 : goal.invariant_of-self-2
invariant_of-self-2 c =
    let s = c.self.inside in
    let t = c.args.tile.now in
    let are : AreRuns (line_of (plane_of (s.tiles.items ++ t ∷ [])) t.layer s.line.axis s.line.at) c.in_ok-runs.runs =
    subst (λ (ts : List Tile). AreRuns (line_of (plane_of (ts ++ t ∷ [])) t.layer s.line.axis s.line.at) c.in_ok-runs.runs) c.deref.ensures.value c.in_ok-runs.ensures in
    subst (AreLayers c.push.new.self.items s.line.axis s.line.at) (sym c.swap-old.ensures.list)
    (layers_insert s.tiles.items c.push.new.self.items t s.line.axis s.line.at s.layers c.in_ok-runs.runs c.self.invariant c.requires.layer c.requires.near c.in_ok-push.ensures.items are)
