use Rattle.std.proofs.Common.{◌∷◌, ◌++◌, ◌∙◌, ap, rules, w32}
use Rattle.std.specs.Fmt.{signed_decimal}
use Rattle.std.proofs.lemmas.Int.{to_z-of_z}
use Rattle.rc_cli.proofs.Spacing.{five_words}
use Rattle.rc_cli.proofs.line.push_meeting.Goals as goal

pub returns : goal.returns
returns c =
    let meeting = c.args.meeting in
    let x = to_z-of_z w32 meeting.x (search rules) in
    let y = to_z-of_z w32 meeting.y (search rules) in
    five_words c.args.line.now.items c.push_word.new.line.items c.push_word-2.new.line.items c.push_word-3.new.line.items c.push_number.new.line.items c.push_number-2.new.line.items
    meeting.first.now meeting.second.now meeting.layer.now (signed_decimal meeting.x) (signed_decimal meeting.y)
    c.in_ok-push_word.ensures c.in_ok-push_word-2.ensures c.in_ok-push_word-3.ensures
    (c.in_ok-push_number.ensures ∙ ap (λ z. c.push_word-3.new.line.items ++ 32 ∷ signed_decimal z) x)
    (c.in_ok-push_number-2.ensures ∙ ap (λ z. c.push_number.new.line.items ++ 32 ∷ signed_decimal z) y)
