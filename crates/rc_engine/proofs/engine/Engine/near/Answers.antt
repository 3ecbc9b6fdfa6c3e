-- What the touched windows have is all that is near.
use Rattle.std.proofs.Common.{◌≡◌, ◌∙◌, ◌<◌, List, [], get_or, length, ap, sym, subst, arith}
use Rattle.std.specs.Prelude.{All, IfOk}
use Rattle.std.specs.List.{flat_map}
use Rattle.std.proofs.lemmas.Result.{IfOk-weaker}
use Rattle.rc_geom.specs.declared.tile.Tile.{Tile}
use Rattle.rc_shorts.specs.declared.shape.Shape.{Shape}
use Rattle.rc_shorts.specs.Exchange.{AreNear}
use Rattle.rc_shorts.specs.OfLayouts.{layout_shapes, net_metal}
use Rattle.rc_shorts.specs.Places.{net_shapes}
use Rattle.rc_windows.specs.Frames.{window_count}
use Rattle.rc_engine.specs.Engine.{Engine}
use Rattle.rc_engine.specs.Nearby.{shapes_beside}
use Rattle.rc_engine.proofs.NearShapes.{are_near}
use Rattle.rc_engine.proofs.engine.Engine.near.Goals as goal

pub shapes_near-requires : goal.shapes_near-requires
shapes_near-requires c = λ k d within.
    let less = subst (All (λ k. k < window_count c.self.inside.grid)) (sym c.items.ensures) c.in_ok-windows.ensures.range k d within in
    let long = c.self.invariant.0.windows in
    let same = ap length c.lists.ensures in
    omega (arith, less, long, same)

pub returns : goal.returns
returns c =
    subst (λ (e : Engine). IfOk c.shapes_near.result (AreNear (layout_shapes e.layout) c.args.number (net_shapes c.args.number (net_metal c.args.net.now)))) c.self.view_is
    (IfOk-weaker c.shapes_near.result (λ (l : List Shape). l ≡ _) (AreNear (layout_shapes c.self.inside.layout) c.args.number (net_shapes c.args.number (net_metal c.args.net.now)))
    (λ l is. subst (AreNear (layout_shapes c.self.inside.layout) c.args.number (net_shapes c.args.number (net_metal c.args.net.now)))
    (sym (is ∙ ap (λ (ls : List (List Tile)). flat_map (λ k. shapes_beside c.self.inside.layout c.args.number (get_or ls k [])) c.items.result.now) c.lists.ensures
    ∙ ap (flat_map (λ k. shapes_beside c.self.inside.layout c.args.number (get_or c.self.inside.index k []))) c.items.ensures))
    (are_near _ c.args.number c.index-nets-number.result c.args.net.now c.in_ok-windows.windows c.self.invariant.0 c.requires.items c.in_ok-windows.ensures.range c.in_ok-windows.ensures.list)) c.shapes_near.ensures)
