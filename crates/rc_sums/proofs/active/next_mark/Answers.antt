use Rattle.std.proofs.Common.{◌≤ℤ◌, arith}
use Rattle.std.proofs.lemmas.Int.{ints, to_z-of_z}
use Rattle.rc_sums.proofs.Strips.{passes_sooner}
use Rattle.rc_sums.proofs.active.next_mark.Goals as goal

pub returns-else-at-end-clause-alike : goal.returns-else-at-end-clause-alike
returns-else-at-end-clause-alike c =
    let sooner : c.moved-else-at-end.result.at ≤ℤ c.in-Some.at = omega (arith, ints, c.moved-else-at-end.ensures.at) in
    passes_sooner c.args.tiles.now c.args.line.axis c.args.line.at c.in-Some.at c.moved-else-at-end.result.at sooner c.in-Some.ensures.clear

pub returns-then-at-end-clause-alike : goal.returns-then-at-end-clause-alike
returns-then-at-end-clause-alike c =
    let sooner : c.moved.result.at ≤ℤ c.in-Some.at = grind (arith, ints, to_z-of_z, c.moved.ensures.at) in
    passes_sooner c.args.tiles.now c.args.line.axis c.args.line.at c.in-Some.at c.moved.result.at sooner c.in-Some.ensures.clear
