use Rattle.std.proofs.Common.{subst, sym, ◌∙◌, cond}
use Rattle.std.specs.Prelude.{All}
use Rattle.rc_geom.specs.Split.{IsCoordinate}
use Rattle.rc_layout.specs.Items.{is_level}
use Rattle.rc_nodes.proofs.Found.{coordinates}
use Rattle.rc_nodes.proofs.metal.add_item.Goals as goal

pub add_tiles-requires : goal.add_tiles-requires
add_tiles-requires c =
    subst (All (λ tap. IsCoordinate tap.along)) (sym (c.as_slice.ensures ∙ c.in_ok-on.ensures))
    (coordinates c.args.item.now (cond (is_level c.args.item.now) c.args.rows.now c.args.columns.now) c.requires.item)
