use Rattle.std.proofs.Common.{◌≤◌, length, sym, arith, below_more}
use Rattle.std.proofs.lemmas.Bool.{ne_eqb, eq-eqb}
use Rattle.std.proofs.lemmas.List.Sums.{position_or_len_is}
use Rattle.std.proofs.lemmas.List.Folds.{list_any_at}
use Rattle.std.specs.Prelude.{◌==◌}
use Rattle.rc_spef.proofs.Digits.{split_free}
use Rattle.rc_spef.proofs.numbers.first_place.Goals as goal

pub returns-then-byte-mark-clause-place : goal.returns-then-byte-mark-clause-place
returns-then-byte-mark-clause-place c =
    sym (position_or_len_is (λ byte. byte == c.args.mark) c.args.word.now c.loop-at.at 0 (omega arith) c.loop-at.invariant (λ _. eq-eqb _ c.args.mark c.if-byte-mark.true))

pub loop-at-preserved : goal.loop-at-preserved
loop-at-preserved c = below_more _ _ c.loop-at.invariant (ne_eqb _ c.args.mark c.if-byte-mark.false)

pub returns-clause-place : goal.returns-clause-place
returns-clause-place c =
    let long : length c.args.word.now ≤ c.loop-at.at = c.loop-at-test.false in
    sym (position_or_len_is (λ byte. byte == c.args.mark) c.args.word.now (length c.args.word.now) 0 (omega arith) (λ k below. c.loop-at.invariant k (omega arith)) (λ past. absurd (omega arith)))

pub returns-then-byte-mark-clause-some : goal.returns-then-byte-mark-clause-some
returns-then-byte-mark-clause-some c = λ within. list_any_at (λ byte. byte == c.args.mark) c.args.word.now c.loop-at.at 0 within (eq-eqb _ c.args.mark c.if-byte-mark.true)

pub returns-clause-none : goal.returns-clause-none
returns-clause-none c = λ _. split_free (λ byte. byte == c.args.mark) c.args.word.now c.loop-at.at c.loop-at.invariant c.loop-at-test.false
