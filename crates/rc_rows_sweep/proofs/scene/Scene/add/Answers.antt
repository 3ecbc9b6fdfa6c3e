use Rattle.std.proofs.Common.{All, sym, subst}
use Rattle.std.proofs.lemmas.List.Elements.{All-push}
use Rattle.std.proofs.lemmas.List.Quantifiers.{all_pairs_push}
use Rattle.rc_geom.specs.declared.tile.Tile.{Tile}
use Rattle.rc_rows_sweep.specs.Scenes.{IsTile, Agree, IsScene}
use Rattle.rc_rows_sweep.proofs.scene.Scene.add.Goals as goal

pub invariant_of-self-2 : goal.invariant_of-self-2
invariant_of-self-2 c =
    let tiles = c.self.inside.tiles.items in
    let agree : All (λ (t : Tile). Agree t c.args.tile) tiles = subst (All (λ (t : Tile). Agree t c.args.tile)) c.deref.ensures.value (c.all_agree.ensures c.if-not-all_agree.false) in
    subst IsScene (sym c.in_ok-push.ensures.items)
    (record {
      each = All-push IsTile tiles c.args.tile c.self.invariant.each (c.is_tile.ensures c.if-not-is_tile.false);
      pairs = all_pairs_push Agree tiles c.args.tile c.self.invariant.pairs agree;
    })
