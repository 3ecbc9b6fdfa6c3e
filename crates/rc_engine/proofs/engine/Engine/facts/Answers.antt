-- An engine's facts are its type's.
use Rattle.std.proofs.Common.{subst}
use Rattle.rc_engine.specs.Engine.{IsEngine}
use Rattle.rc_engine.proofs.engine.Engine.facts.Goals as goal

pub returns : goal.returns
returns c = subst IsEngine c.self.view_is c.self.invariant.0
