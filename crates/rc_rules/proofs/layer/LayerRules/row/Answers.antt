use Rattle.std.proofs.Common.{◌≡◌, ◌∙◌, ap, [], rules}
use Rattle.std.specs.Prelude.{unwrap_or, Some}
use Rattle.rc_rules.specs.LookUp.{table_for}
use Rattle.rc_rules.specs.Looked.{row_found}
use Rattle.rc_rules.proofs.layer.LayerRules.row.Goals as goal

pub returns : goal.returns
returns c =
    let e : table_for c.args.self.now.pairs c.args.under c.args.over ≡ Some c.in_ok-table.table = search rules in
    ap (λ row. unwrap_or row []) c.get.ensures
    ∙ row_found c.args.self.now c.self.inside.values c.args.under c.args.over c.args.thick c.in_ok-table.table c.len.result c.width_place.result c.self.view_is e c.len.ensures.length c.width_place.ensures.row
