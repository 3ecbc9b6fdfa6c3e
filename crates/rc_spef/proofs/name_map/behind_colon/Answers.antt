use Rattle.std.proofs.Common.{arith, sym, ◌∙◌}
use Rattle.rc_spef.proofs.Digits.{behind_none, behind_empty, behind_more}
use Rattle.rc_spef.specs.Means.{sub_seen}
use Rattle.rc_spef.proofs.name_map.behind_colon.Goals as goal

pub returns-then-at-word : goal.returns-then-at-word
returns-then-at-word c = behind_none c.args.word.now (c.first_place-at.ensures.none (omega (arith, c.first_place-at.ensures.within, c.if-at-word.true)))

pub returns-then-is_empty : goal.returns-then-is_empty
returns-then-is_empty c =
    behind_empty c.args.word.now c.first_place-at.result c.first_place-at.ensures.place (c.first_place-at.ensures.some c.if-at-word.false) (sym c.is_empty.ensures ∙ c.if-is_empty.true)

pub returns : goal.returns
returns c =
    behind_more c.args.word.now c.first_place-at.result (sub_seen c.what_behind.result) c.first_place-at.ensures.place (c.first_place-at.ensures.some c.if-at-word.false) (sym c.is_empty.ensures ∙ c.if-is_empty.false) c.what_behind.ensures
