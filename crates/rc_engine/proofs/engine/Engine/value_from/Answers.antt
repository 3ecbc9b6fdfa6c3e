-- The engine's tallies are the sums of its layout.
use Rattle.std.proofs.Common.{ap, sym, ◌∙◌}
use Rattle.rc_engine.specs.Brought.{entries_of, owned}
use Rattle.rc_engine.specs.Engine.{Engine}
use Rattle.rc_engine.proofs.Engines.{engine_sums}
use Rattle.rc_engine.proofs.engine.Engine.value_from.Goals as goal

pub value_from-requires-clause-sums : goal.value_from-requires-clause-sums
value_from-requires-clause-sums c =
    (c.self.inside.tallies, engine_sums _ c.self.invariant.0, c.requires.entries ∙ ap (λ (e : Engine). owned c.args.number (entries_of e.tallies)) (sym c.self.view_is))
