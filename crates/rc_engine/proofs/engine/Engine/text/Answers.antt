-- The engine's tallies are the sums of its layout.
use Rattle.std.proofs.Common.{List, ℕ, sym, subst}
use Rattle.rc_tally.specs.declared.entry.Entry.{Entry}
use Rattle.rc_engine.specs.Totals.{AreSums}
use Rattle.rc_engine.proofs.Engines.{engine_sums}
use Rattle.rc_engine.proofs.engine.Engine.text.Goals as goal

pub text_of-requires-clause-sums : goal.text_of-requires-clause-sums
text_of-requires-clause-sums c = subst (λ (ts : List (List (Entry ℕ))). AreSums c.self.inside.layout c.self.inside.rules ts) (sym c.items-2.ensures) (engine_sums _ c.self.invariant.0)
