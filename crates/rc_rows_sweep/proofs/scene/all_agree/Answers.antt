use Rattle.std.proofs.Common.{All, get_or, take, sym, subst}
use Rattle.std.proofs.lemmas.List.{take_more, take_all}
use Rattle.std.proofs.lemmas.List.Elements.{All-push}
use Rattle.rc_geom.specs.declared.tile.Tile.{Tile}
use Rattle.rc_column.proofs.Layers.{no_tile}
use Rattle.rc_rows_sweep.specs.Scenes.{Agree}
use Rattle.rc_rows_sweep.proofs.scene.all_agree.Goals as goal

pub loop-other-preserved : goal.loop-other-preserved
loop-other-preserved c =
    let tiles = c.args.tiles.now in
    let i = c.loop-other.other-index in
    let P : Tile → Type 0 = λ t. Agree t c.args.tile.now in
    subst (All P) (sym (take_more tiles i no_tile c.loop-other-test.true))
    (All-push P (take i tiles) (get_or tiles i no_tile) c.loop-other.invariant (c.agree.ensures c.if-not-agree.false))

pub returns : goal.returns
returns c = λ _. subst (All (λ (t : Tile). Agree t c.args.tile.now)) (take_all c.loop-other.other-index c.args.tiles.now c.loop-other-test.false) c.loop-other.invariant
