use Rattle.std.specs.Prelude.{All, take}
use Rattle.rc_keys.specs.Slices.{LiesIn}
use Rattle.rc_rows_designs.proofs.row.lie_in.Given as goal

abbrev pub invariant-loop-token : goal.invariant-loop-token
invariant-loop-token l = All (LiesIn l.text) (take l.token-index l.tokens)
