use Rattle.std.proofs.Common.{◌≡◌, ◌∙◌, [], ◌∷◌, ◌++◌, refl, ap, sym}
use Rattle.rc_wire.specs.Paths.{last_turned}
use Rattle.rc_wire.proofs.Turning.{last_is, of_none}
use Rattle.rc_wire.proofs.wiring.turn_last.Goals as goal

pub returns-in_default : goal.returns-in_default
returns-in_default c =
    let none : c.args.steps.now ≡ [] = c.in_default.ensures.empty.0 refl in
    c.in_default.ensures.unchanged ∙ none ∙ sym (ap (last_turned c.args.orient) none ∙ of_none c.args.orient)

pub returns : goal.returns
returns c =
    let e : last_turned c.args.orient c.args.steps.now ≡ c.pop.new.self ++ c.turned.result ∷ [] =
    ap (last_turned c.args.orient) c.in-Some.ensures.last ∙ last_is c.args.orient c.in-Some.step c.pop.new.self ∙ ap (λ step. c.pop.new.self ++ step ∷ []) (sym c.turned.ensures) in
    rw e c.push.ensures.ok
