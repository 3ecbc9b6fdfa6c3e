use Rattle.std.proofs.Common.{◌≡◌, All, length, sym, ap, ◌∙◌, subst, arith}
use Rattle.std.proofs.lemmas.List.Elements.{All-filter}
use Rattle.std.proofs.lemmas.List.Sums.{length-filter}
use Rattle.std.specs.List.{count_by}
use Rattle.rc_geom.specs.declared.tile.Tile.{Tile}
use Rattle.rc_geom.specs.Rects.{IsNearRect}
use Rattle.rc_column.specs.Runs.{crosses_line}
use Rattle.rc_sums.specs.Columns.{is_on}
use Rattle.rc_sums.proofs.active.column.Goals as goal

pub build-requires : goal.build-requires
build-requires g c = subst (All (λ (t : Tile). IsNearRect t.rect)) (sym (c.items.ensures ∙ c.in_ok-found.ensures)) (All-filter (crosses_line c.args.line.axis c.args.line.at) (λ (t : Tile). IsNearRect t.rect) c.args.tiles.now c.requires.near)

pub returns-clause-edits : goal.returns-clause-edits
returns-clause-edits g c =
    let many : length c.items.result.now ≡ count_by (is_on c.args.line) c.args.tiles.now = ap length (c.items.ensures ∙ c.in_ok-found.ensures) ∙ length-filter (is_on c.args.line) c.args.tiles.now in
    omega (arith, many, c.build.ensures.edits)
