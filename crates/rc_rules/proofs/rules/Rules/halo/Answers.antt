use Rattle.rc_rules.specs.Looked.{reach_at, cap_at, looks_over}
use Rattle.rc_rules.proofs.rules.Rules.halo.Goals as goal

pub returns-clause-reach : goal.returns-clause-reach
returns-clause-reach c layer h = rw (reach_at c.args.self.now layer h.values h.block, c.looked_over.ensures.value) (looks_over c.args.self.now.layers 1 layer h.values h.block).0

pub returns-clause-cap : goal.returns-clause-cap
returns-clause-cap c layer h = rw (cap_at c.args.self.now layer h.values h.block, c.looked_over.ensures.value) (looks_over c.args.self.now.layers 1 layer h.values h.block).1
