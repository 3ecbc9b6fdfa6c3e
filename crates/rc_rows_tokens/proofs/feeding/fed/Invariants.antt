use Rattle.std.proofs.Common.{length, ◌-◌, ◌≡◌, ◌≤◌, false, None}
use Rattle.rc_rows_tokens.proofs.feeding.fed.Given as goal

abbrev pub invariant-loop-at : goal.invariant-loop-at
invariant-loop-at l = record { here : l.at ≤ length l.text; taken : length l.lexer.text ≡ l.at; unfinished : l.lexer.finished ≡ false; sound : l.lexer.fault ≡ None; size : 1 ≤ l.size }

abbrev pub decreases-loop-at : goal.decreases-loop-at
decreases-loop-at l = length l.text - l.at
