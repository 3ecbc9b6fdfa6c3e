use Rattle.rc_keys.proofs.Lasting.{ends_at_last}
use Rattle.rc_keys.proofs.laws.unfinished_at_last.Goals as goal

pub returns : goal.returns
returns g c = ends_at_last (g.G.Grammar.turn_of c.args.given.now) g.G.Grammar.may_end
