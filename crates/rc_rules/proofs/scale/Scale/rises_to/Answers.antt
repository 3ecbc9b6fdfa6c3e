use Rattle.std.proofs.Common.{◌∙◌, sym, ap, rules}
use Rattle.rc_rules.specs.Scales.{rises}
use Rattle.rc_rules.specs.Rising.{goes_on}
use Rattle.rc_rules.proofs.scale.Scale.rises_to.Goals as goal

pub returns-in-Some : goal.returns-in-Some
returns-in-Some c = sym (goes_on c.args.self.now c.args.step c.in-Some.last.now (ap rises (sym c.self.view_is) ∙ c.self.invariant.rising) (search rules))
