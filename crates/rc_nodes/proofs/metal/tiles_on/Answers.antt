use Rattle.std.proofs.Common.{◌≤◌, List, length, subst, sym, ap, ◌∙◌}
use Rattle.std.specs.Prelude.{All}
use Rattle.rc_geom.specs.declared.tile.Tile.{Tile}
use Rattle.rc_geom.specs.Plane.{plane_of, RanksDiffer}
use Rattle.rc_nodes.specs.Counts.{tile_count}
use Rattle.rc_nodes.specs.Shares.{net_tiles, AreGrounded, IsTileOf, LiesInItem}
use Rattle.rc_nodes.proofs.Tiled.{plane_is}
use Rattle.rc_nodes.proofs.Ranked.{ranks_differ, tiles_form, items_in_parts}
use Rattle.rc_nodes.proofs.Bounded.{tiles_lie, tiles_grounded, tiles_few}
use Rattle.rc_nodes.proofs.metal.tiles_on.Goals as goal

pub returns-clause-plane : goal.returns-clause-plane
returns-clause-plane c =
    ap plane_of (c.in_ok-tiles.ensures ∙ ap (net_tiles c.args.number c.args.nodes.now) c.items-items.ensures)
    ∙ plane_is c.args.number c.args.nodes.now c.args.net.now.items (items_in_parts c.args.nodes.now c.args.net.now.items c.requires.order c.requires.net.items)

pub returns-clause-ranks : goal.returns-clause-ranks
returns-clause-ranks c =
    subst RanksDiffer (sym (c.in_ok-tiles.ensures ∙ ap (net_tiles c.args.number c.args.nodes.now) c.items-items.ensures))
    (ranks_differ c.args.number c.args.nodes.now c.args.net.now.items c.requires.order c.requires.net.items)

pub returns-clause-form : goal.returns-clause-form
returns-clause-form c =
    subst (All (IsTileOf c.args.number)) (sym (c.in_ok-tiles.ensures ∙ ap (net_tiles c.args.number c.args.nodes.now) c.items-items.ensures))
    (tiles_form c.args.number c.args.nodes.now c.args.net.now.items c.requires.order c.requires.net.items)

pub returns-clause-items : goal.returns-clause-items
returns-clause-items c =
    subst (All (LiesInItem c.args.net.now.items)) (sym (c.in_ok-tiles.ensures ∙ ap (net_tiles c.args.number c.args.nodes.now) c.items-items.ensures))
    (tiles_lie c.args.number c.args.nodes.now c.args.net.now.items c.requires.order c.requires.net.items)

pub returns-clause-grounded : goal.returns-clause-grounded
returns-clause-grounded c = λ none.
    subst (AreGrounded c.args.net.now.items) (sym (c.in_ok-tiles.ensures ∙ ap (net_tiles c.args.number c.args.nodes.now) c.items-items.ensures))
    (tiles_grounded c.args.number c.args.nodes.now c.args.net.now.items c.requires.net.items none)

pub returns-clause-few : goal.returns-clause-few
returns-clause-few c = λ tied is.
    subst (λ (tiles : List Tile). length tiles ≤ tile_count c.args.nodes.now c.args.net.now.items) (sym (c.in_ok-tiles.ensures ∙ ap (net_tiles c.args.number c.args.nodes.now) c.items-items.ensures))
    (tiles_few c.args.number c.args.net.now c.args.nodes.now c.requires.order c.requires.net.items tied is)
