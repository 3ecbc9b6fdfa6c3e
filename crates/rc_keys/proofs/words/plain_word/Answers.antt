use Rattle.std.proofs.Common.{rules, ◌≡◌, true, get_or, arith}
use Rattle.rc_keys.specs.Tokens.{is_blank}
use Rattle.rc_keys.specs.Inner.Leads.{begins_word}
use Rattle.rc_keys.proofs.Runs.{leads_word}
use Rattle.rc_keys.proofs.words.plain_word.Goals as goal

pub returns-clause-leads : goal.returns-clause-leads
returns-clause-leads c =
    let begins : begins_word c.args.mode (get_or c.args.text.now c.args.at 0) ≡ true = search rules in
    let blank : is_blank (get_or c.args.text.now c.word_end-end.result 0) ≡ true = search rules in
    leads_word c.args.mode c.args.text.now c.args.at c.word_end-end.result c.args.place c.requires.between
    (omega (arith, c.word_end-end.ensures.low)) (omega (arith, c.if-end-text.false)) (omega (arith, c.word_end-end.ensures.high, c.min-limit.ensures)) begins c.word_end-end.ensures.graphic blank
