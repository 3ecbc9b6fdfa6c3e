use Rattle.std.proofs.Common.{arith, sym, inl, inr}
use Rattle.rc_spef.proofs.Digits.{past_counted, place_counted}
use Rattle.rc_spef.proofs.name_map.counted_place.Goals as goal

pub returns-then-number-eq0 : goal.returns-then-number-eq0
returns-then-number-eq0 c = sym (past_counted c.args.count c.args.number (inl c.if-number-eq0.true))

pub returns-then-number-count : goal.returns-then-number-count
returns-then-number-count c = sym (past_counted c.args.count c.args.number (inr c.if-number-count.true))

pub returns : goal.returns
returns c = sym (place_counted c.args.count c.args.number (omega (arith, c.if-number-eq0.false)) c.if-number-count.false)
