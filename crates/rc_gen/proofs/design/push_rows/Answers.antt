-- One row more.
use Rattle.std.proofs.Common.{arith, sym}
use Rattle.rc_gen.proofs.Rows.{no_draw, before_rows, rows_step, state_next}
use Rattle.rc_gen.proofs.design.push_rows.Goals as goal

pub loop-row-init : goal.loop-row-init
loop-row-init c = record {
  text = before_rows c.args.seed c.args.text.now.items;
  short = omega arith;
  state = sym (no_draw c.args.seed);
  small = c.requires.seed;
}

pub loop-row-preserved : goal.loop-row-preserved
loop-row-preserved c =
    let so_far = c.loop-row.invariant in
    let row = c.in_ok-push_row.ensures in
    record {
      text = rows_step c.args.seed c.loop-row.row c.loop-row.draws.state c.args.text.now.items c.loop-row.text.items c.push_row.new.text.items so_far.text so_far.state row.text;
      short = omega (arith, so_far.short, row.short);
      state = state_next c.args.seed c.loop-row.row c.loop-row.draws.state c.push_row.new.draws.state so_far.state row.draws;
      small = row.state;
    }
