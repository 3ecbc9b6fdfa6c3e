use Rattle.std.proofs.Common.{◌∙◌}
use Rattle.rc_shorts.proofs.Firsts.{short_is, of_pair}
use Rattle.rc_shorts.proofs.first.first_among.Goals as goal

pub returns-clause-first : goal.returns-clause-first
returns-clause-first c = λ places. c.named.ensures ∙ short_is c.args.shapes.now c.in_ok-found.found places c.in_ok-found.ensures

pub returns-clause-pair : goal.returns-clause-pair
returns-clause-pair c = of_pair c.args.shapes.now c.in_ok-found.found c.named.result c.named.ensures c.in_ok-found.ensures
