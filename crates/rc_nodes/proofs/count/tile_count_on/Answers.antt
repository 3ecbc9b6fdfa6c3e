use Rattle.std.proofs.Common.{◌<◌, ◌∙◌, true, false, length, rules, subst, sym, ap}
use Rattle.std.specs.List.{sum_by}
use Rattle.rc_nodes.specs.Lines.{AreTaps}
use Rattle.rc_nodes.specs.Counts.{tap_count}
use Rattle.rc_nodes.proofs.Counted.{few_taps, counts_are}
use Rattle.rc_nodes.proofs.count.tile_count_on.Goals as goal

pub items_count-requires-clause-few_rows : goal.items_count-requires-clause-few_rows
items_count-requires-clause-few_rows c =
    few_taps true c.args.nodes.now c.rows.result.now (subst (AreTaps true c.args.nodes.now) (sym c.rows.ensures) c.requires.lines.rows) c.requires.few

pub items_count-requires-clause-few_columns : goal.items_count-requires-clause-few_columns
items_count-requires-clause-few_columns c =
    few_taps false c.args.nodes.now c.columns.result.now (subst (AreTaps false c.args.nodes.now) (sym c.columns.ensures) c.requires.lines.columns) c.requires.few

pub returns : goal.returns
returns c =
    let some : 0 < length c.args.nodes.now = search rules in
    c.in_ok-count.ensures
    ∙ (ap (sum_by (tap_count c.rows.result.now c.columns.result.now)) c.items.ensures
    ∙ counts_are c.args.nodes.now c.rows.result.now c.columns.result.now c.args.net.now.items some c.requires.order
    (subst (AreTaps true c.args.nodes.now) (sym c.rows.ensures) c.requires.lines.rows) (subst (AreTaps false c.args.nodes.now) (sym c.columns.ensures) c.requires.lines.columns) c.requires.net.items)
