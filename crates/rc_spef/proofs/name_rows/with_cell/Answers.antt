use Rattle.std.proofs.Common.{refl}
use Rattle.rc_spef.proofs.Tails.{same_last, none_last, on_ok}
use Rattle.rc_spef.proofs.name_rows.with_cell.Goals as goal

pub returns-in_default : goal.returns-in_default
returns-in_default c = none_last c.args.conns.now c.pop.new.self c.args.name (c.in_default.ensures.empty.0 refl) c.in_default.ensures.unchanged

pub returns : goal.returns
returns c = on_ok c.push.result (same_last c.args.conns.now c.pop.new.self c.push.new.self c.in-Some.conn c.first_cell-cell.result c.args.name c.in-Some.ensures.last c.first_cell-cell.ensures) c.push.ensures.ok
