use Rattle.std.proofs.Common.{◌≡◌, All, Bool, true, false, not, get_or, take, refl, sym, ◌∙◌, subst}
use mathlib.Core.Bool.{beq}
use Rattle.std.proofs.lemmas.Bool.{true≢false}
use Rattle.std.proofs.lemmas.List.{take_more, take_all}
use Rattle.std.proofs.lemmas.List.Elements.{All-push}
use Rattle.rc_geom.specs.declared.tile.Tile.{Tile}
use Rattle.rc_column.specs.Runs.{crosses_line}
use Rattle.rc_column.proofs.Layers.{no_tile}
use Rattle.rc_rows_sweep.proofs.scene.alike.Goals as goal

same_bits : (a b : Bool) → not (beq a b) ≡ false → a ≡ b
same_bits true true h = refl
same_bits false false h = refl
same_bits true false h = absurd (true≢false h)
same_bits false true h = absurd (true≢false h)

pub loop-tile-preserved : goal.loop-tile-preserved
loop-tile-preserved c =
    let tiles = c.args.tiles.now in
    let i = c.loop-tile.tile-index in
    let P : Tile → Type 0 = λ t. crosses_line c.args.other.axis c.args.other.at t ≡ crosses_line c.args.line.axis c.args.line.at t in
    let same : c.crosses_line.result ≡ c.crosses_line-in-loop-tile.result = same_bits c.crosses_line.result c.crosses_line-in-loop-tile.result c.if-crosses_line.false in
    subst (All P) (sym (take_more tiles i no_tile c.loop-tile-test.true))
    (All-push P (take i tiles) (get_or tiles i no_tile) c.loop-tile.invariant (sym c.crosses_line.ensures ∙ (same ∙ c.crosses_line-in-loop-tile.ensures)))

pub returns : goal.returns
returns c = λ _. subst (All (λ (t : Tile). crosses_line c.args.other.axis c.args.other.at t ≡ crosses_line c.args.line.axis c.args.line.at t)) (take_all c.loop-tile.tile-index c.args.tiles.now c.loop-tile-test.false) c.loop-tile.invariant
