-- The rows so far, and the state behind their draws.
use Rattle.std.proofs.Common.{◌≡◌, ◌+◌, ◌*◌, ◌<◌, ◌≤◌, ◌^◌, ◌++◌, length}
use Rattle.rc_gen.specs.Draws.{state_after}
use Rattle.rc_gen.specs.Texts.{rows_text}
use Rattle.rc_gen.proofs.design.push_rows.Given as goal

abbrev pub invariant-loop-row : goal.invariant-loop-row
invariant-loop-row l = record {
  text : l.text.items ≡ l.fn.text.items ++ rows_text l.seed l.row;
  short : length l.text.items ≤ length l.fn.text.items + 600 * l.row;
  state : l.draws.state ≡ state_after l.seed (2 * l.row);
  small : l.draws.state < 2 ^ 31;
}
